-- When a search of orders alone has left the members of the chains alone.
use Rattle.std.specs.Prelude.{ℕ, ◌<◌, length, IsPermutation}
use Rattle.chain_rules.specs.Legality.{chain_at}
use Rattle.chain_rules.specs.declared.plan.Plan.{Plan}

-- each chain of the plan p holds the same units in q
abbrev pub HaveSameMembers : Plan → Plan → Type 0
HaveSameMembers p q = (c : ℕ) → c < length p.chains → IsPermutation (chain_at p c) (chain_at q c)
