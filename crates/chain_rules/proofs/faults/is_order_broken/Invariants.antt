use Rattle.std.proofs.Common.{ℕ, ◌<◌, slice_index_or}
use Rattle.chain_rules.specs.Stretches.{path_at}
use Rattle.chain_rules.specs.Runs.{stretch, ListHasBreak, no_list}
use Rattle.chain_rules.proofs.faults.is_order_broken.Given as goal

abbrev pub invariant-loop-list : goal.invariant-loop-list
invariant-loop-list l = (j : ℕ) → j < l.list → ¬ ListHasBreak (path_at l.index l.listing.run.path) (stretch l.listing.run) l.listing.marks.items (slice_index_or l.chain.lists j no_list)
