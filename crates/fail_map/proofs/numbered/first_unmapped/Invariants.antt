use Rattle.fail_map.specs.Numbered.{IsUnmapped}
use Rattle.fail_map.proofs.Least.{IsLeast}
use Rattle.fail_map.proofs.numbered.first_unmapped.Given as goal

abbrev pub invariant-loop-at : goal.invariant-loop-at
invariant-loop-at l = IsLeast (IsUnmapped l.mapped) l.lines l.at l.least
