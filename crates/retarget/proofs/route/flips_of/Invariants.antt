use Rattle.std.proofs.Common.{◌≡◌, get_or, false, map}
use Rattle.std.specs.Int.{from_bool}
use Rattle.std.specs.List.{range_with_len}
use Rattle.stil_tester.specs.Symbols.{differ}
use Rattle.retarget.proofs.route.flips_of.Given as goal

abbrev pub invariant-loop-place : goal.invariant-loop-place
invariant-loop-place l = l.flips ≡ map (λ k. from_bool (differ (get_or l.before (get_or l.sources k 0) false) (get_or l.after k false))) (range_with_len 0 l.place)
