use Rattle.std.proofs.Common.{◌≡◌, ℕ, ◌+◌, ◌<◌, cond, nat_eq, length, get_or, take, Some, None}
use Rattle.std.specs.List.{list_any}
use Rattle.std.specs.Option.{option_or}
use Rattle.chain_rules.proofs.owners.note_units.Given as goal

abbrev pub invariant-loop-u : goal.invariant-loop-u
invariant-loop-u l =
    (length l.owners ≡ length l.initial.owners)
    × ((k : ℕ) → k < length l.initial.owners → get_or l.owners k None ≡ option_or (get_or l.initial.owners k None) (cond (list_any (λ v. nat_eq v (l.low + k)) (take l.u-index l.us)) (Some l.partition) None))
