use Rattle.std.proofs.Common.{◌≡◌, ℕ, ◌+◌, ◌<◌, length, get_or, None}
use Rattle.chain_rules.proofs.Owned.{IsOwner}
use Rattle.chain_rules.proofs.owners.note_owners.Given as goal

abbrev pub invariant-loop-chain : goal.invariant-loop-chain
invariant-loop-chain l =
    (length l.owners ≡ length l.initial.owners)
    × ((k : ℕ) → k < length l.initial.owners → IsOwner l.rules l.chain (l.low + k) (get_or l.owners k None))
