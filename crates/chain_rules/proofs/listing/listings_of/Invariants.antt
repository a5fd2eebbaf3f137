use Rattle.std.proofs.Common.{◌≡◌, ℕ, ◌<◌, length, slice_index_or}
use Rattle.chain_rules.specs.declared.listing.Listing.{Listing}
use Rattle.chain_rules.specs.Stretches.{spec_at}
use Rattle.chain_rules.specs.Runs.{IsListingOf}
use Rattle.chain_rules.proofs.listing.listings_of.Given as goal

abbrev pub invariant-loop-chain : goal.invariant-loop-chain
invariant-loop-chain l =
    (length l.listings.items ≡ l.chain) × ((c : ℕ) (d : Listing) → c < l.chain → IsListingOf l.index (spec_at l.chains c) (slice_index_or l.listings.items c d))
