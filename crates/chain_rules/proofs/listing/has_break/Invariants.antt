use Rattle.std.proofs.Common.{ℕ, ◌<◌, ◌+◌, slice_index_or}
use Rattle.chain_rules.specs.Stretches.{path_at, no_element}
use Rattle.chain_rules.specs.Runs.{stretch, IsBreakBetween}
use Rattle.chain_rules.proofs.listing.has_break.Given as goal

abbrev pub invariant-loop-next : goal.invariant-loop-next
invariant-loop-next l =
    (i a b : ℕ) → i + 1 < l.next → ¬ IsBreakBetween (path_at l.index l.listing.run.path) (stretch l.listing.run) l.listing.marks.items (slice_index_or l.elements i no_element) (slice_index_or l.elements (i + 1) no_element) a b
