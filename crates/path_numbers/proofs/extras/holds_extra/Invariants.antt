use Rattle.std.proofs.Common.{◌≡◌, ◌<◌, ℕ, false, drop}
use Rattle.std.specs.Prelude.{codes}
use Rattle.path_numbers.specs.Numbers.{begins_with}
use Rattle.path_numbers.proofs.extras.holds_extra.Given as goal

abbrev pub invariant-loop-i : goal.invariant-loop-i
invariant-loop-i l = (k : ℕ) → k < l.i → begins_with (codes ".extra") (drop k l.name) ≡ false
