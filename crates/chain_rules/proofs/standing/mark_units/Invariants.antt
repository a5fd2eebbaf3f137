use Rattle.std.proofs.Common.{◌≡◌, ℕ, ◌+◌, ◌<◌, ◌||◌, false, nat_eq, length, get_or, take}
use Rattle.std.specs.List.{list_any}
use Rattle.chain_rules.proofs.standing.mark_units.Given as goal

abbrev pub invariant-loop-u : goal.invariant-loop-u
invariant-loop-u l =
    (length l.marks ≡ length l.initial.marks)
    × ((k : ℕ) → k < length l.initial.marks → get_or l.marks k false ≡ (get_or l.initial.marks k false || list_any (λ v. nat_eq v (l.low + k)) (take l.u-index l.us)))
