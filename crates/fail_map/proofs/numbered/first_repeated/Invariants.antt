use Rattle.fail_map.specs.Numbered.{IsRepeated}
use Rattle.fail_map.proofs.Least.{IsLeast}
use Rattle.fail_map.proofs.numbered.first_repeated.Given as goal

abbrev pub invariant-loop-at : goal.invariant-loop-at
invariant-loop-at l = IsLeast (IsRepeated l.lines) l.lines l.at l.least
