use Rattle.std.proofs.Common.{take, All}
use Rattle.chain_rules.specs.Stretches.{path_at, elements_in, StandsIn}
use Rattle.chain_rules.specs.Runs.{stretch}
use Rattle.chain_rules.proofs.stretch.all_stand_in.Given as goal

abbrev pub invariant-loop-list : goal.invariant-loop-list
invariant-loop-list l = All (λ list. All (StandsIn (path_at l.index l.run.path) (stretch l.run)) (elements_in list)) (take l.list-index l.list-items)
