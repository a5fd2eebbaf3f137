use Rattle.chain_trace.proofs.Marks.{turn_on}
use Rattle.chain_trace.proofs.path.PathBits.turn.Goals as goal

pub returns : goal.returns
returns c = record { on = turn_on c.args.self.now c.args.inverted }
