use Rattle.std.proofs.Common.{take, All}
use Rattle.chain_rules.specs.Stretches.{path_at, StandsIn}
use Rattle.chain_rules.specs.Runs.{stretch}
use Rattle.chain_rules.proofs.stretch.list_stands_in.Given as goal

abbrev pub invariant-loop-element : goal.invariant-loop-element
invariant-loop-element l = All (StandsIn (path_at l.index l.run.path) (stretch l.run)) (take l.element-index l.element-items)
