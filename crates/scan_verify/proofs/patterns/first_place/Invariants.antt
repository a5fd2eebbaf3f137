use Rattle.std.proofs.Common.{ℕ, ◌<◌}
use Rattle.std.specs.List.{slice_get}
use Rattle.scan_verify.specs.Patterns.{IsSamePlace}
use Rattle.scan_verify.proofs.patterns.first_place.Given as goal

abbrev pub invariant-loop-index : goal.invariant-loop-index
invariant-loop-index l = (k : ℕ) → k < l.index → IsSamePlace l.map.0 l.map.1 (slice_get l.a k) (slice_get l.b k)
