use Rattle.std.proofs.Common.{take}
use Rattle.std.specs.List.{AllZip}
use Rattle.chain_rules.specs.Stretches.{path_at}
use Rattle.chain_rules.specs.Runs.{IsUnitOfCut}
use Rattle.chain_rules.proofs.build.units_of_cuts.Given as goal

abbrev pub invariant-loop-cut : goal.invariant-loop-cut
invariant-loop-cut l = AllZip (λ c u. IsUnitOfCut (path_at l.index l.run.path) l.chain l.run c l.last u) (take l.cut-index l.cuts) l.units.items
