-- What the numbers of bits allow of a step.
use Rattle.std.specs.Prelude.{◌≡◌, ℕ, ◌+◌, ◌-◌, ◌<◌, ◌≤◌, ◌⊎◌, IsTrue, length}
use Rattle.chain_rules.specs.Legality.{bits_of, chain_at, rule_at, unit_at, unit_in}
use Rattle.chain_rules.specs.declared.plan.Plan.{Plan}
use Rattle.chain_rules.specs.declared.unit.Position.{Position}
use Rattle.chain_rules.specs.declared.unit.Rules.{Rules}

-- a chain that holds so many bits may hold others in place of some of them
pub record MayHold (rules : Rules) (c held given taken : ℕ) : Type 0 where
  pub keeps_bit : IsTrue (rule_at rules c).keeps_bit → 0 < held - given + taken
  pub bounded : held - given + taken ≤ (rule_at rules c).bound

-- the bits of the unit at a position
abbrev pub bits_at : Rules → Plan → Position → ℕ
bits_at rules p at = (unit_at rules (unit_in p at)).bits

-- a unit's chain can do without its bits, and chain d has place for them
pub record FitsIn (rules : Rules) (p : Plan) (from : Position) (d : ℕ) : Type 0 where
  pub leaves : MayHold rules from.chain (bits_of rules (chain_at p from.chain)) (bits_at rules p from) 0
  pub enters : bits_of rules (chain_at p d) + bits_at rules p from ≤ (rule_at rules d).bound

-- each of two chains can do without the bits of its unit and has place for those of the other
pub record FitEachOther (rules : Rules) (p : Plan) (a b : Position) : Type 0 where
  pub first : MayHold rules a.chain (bits_of rules (chain_at p a.chain)) (bits_at rules p a) (bits_at rules p b)
  pub second : MayHold rules b.chain (bits_of rules (chain_at p b.chain)) (bits_at rules p b) (bits_at rules p a)

-- chain c has but one unit, or chain d has no place for a unit of the least bits
abbrev pub IsShut : Rules → Plan → ℕ → ℕ → ℕ → Type 0
IsShut rules p c d least = (length (chain_at p c) ≡ 1) ⊎ ((rule_at rules d).bound < bits_of rules (chain_at p d) + least)
