use Rattle.verilog_syntax.proofs.Modules.{exact_module}
use Rattle.verilog_syntax.proofs.reading.read_statements.Goals as goal

pub returns-clause-exactly : goal.returns-clause-exactly
returns-clause-exactly c = exact_module c.args.text.now c.read_text.result c.read_text.ensures.value
