use Rattle.def_layout.proofs.NetLaw.{written_back}
use Rattle.def_layout.proofs.net.net_text.Goals as goal

pub returns-clause-reads : goal.returns-clause-reads
returns-clause-reads c = written_back c.args.statement.now c.args.stays.now c.args.added.now c.written_net.result c.written_net.ensures.value
