-- What a step leaves at the end of a chain.
use Rattle.std.specs.Prelude.{◌≡◌, ℕ, IsTrue, List, Option, Some}
use Rattle.chain_rules.specs.declared.unit.Rules.{Rules}
use Rattle.chain_rules.specs.Legality.{unit_at, last_of}

-- where the last of the units is pinned, it is the last afterwards
abbrev pub KeepsPin : Rules → List ℕ → Option ℕ → Type 0
KeepsPin rules us last = (x : ℕ) → last_of us ≡ Some x → IsTrue (unit_at rules x).pinned → last ≡ Some x
