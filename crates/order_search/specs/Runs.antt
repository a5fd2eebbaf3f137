-- Reversed runs among the first units of a chain, as the search goes over them.
use Rattle.std.specs.Prelude.{◌≡◌, ℕ, ◌+◌, ◌-◌, ◌<◌, ◌≤◌, ◌⊎◌, List, length, slice_index_or, IsTrue}
use Rattle.chain_rules.specs.Legality.{unit_at}
use Rattle.chain_rules.specs.declared.unit.Rules.{Rules}
use Rattle.wire_cost.specs.declared.ends.Ends.{Ends}
use Rattle.wire_cost.specs.Lengths.{chain_length_of}
use Rattle.order_search.specs.Steps.{reversed_run}

-- no reversed run that begins at i, among the first `limit` units, makes the chain shorter
abbrev pub IsSettledAt : Ends → ℕ → List ℕ → ℕ → ℕ → Type 0
IsSettledAt e c us limit i = (m : ℕ) → i + m ≤ limit → chain_length_of e c us ≤ chain_length_of e c (reversed_run us i m)

-- no reversed run does that begins at i and ends with the unit of one of the places from a on, before place b
abbrev pub IsSettledBetween : Ends → ℕ → List ℕ → ℕ → ℕ → ℕ → Type 0
IsSettledBetween e c us i a b = (j : ℕ) → a ≤ j → j < b → chain_length_of e c us ≤ chain_length_of e c (reversed_run us i (j + 1 - i))

-- no reversed run among the first `limit` units does
abbrev pub IsRunSettled : Ends → ℕ → List ℕ → ℕ → Type 0
IsRunSettled e c us limit = (i : ℕ) → IsSettledAt e c us limit i

-- n units come before a pinned one that stands last, or before the end
abbrev pub IsFreeCount : Rules → List ℕ → ℕ → Type 0
IsFreeCount rules us n = ((n + 1 ≡ length us) × IsTrue (unit_at rules (slice_index_or us n 0)).pinned) ⊎ ((n ≡ length us) × ((k : ℕ) → k + 1 ≡ n → ¬ IsTrue (unit_at rules (slice_index_or us k 0)).pinned))
