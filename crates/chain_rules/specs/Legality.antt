-- When a plan is legal for the rules, and the plan after one step.
use Rattle.std.specs.Prelude.{◌≡◌, ℕ, ◌-◌, ◌<◌, ◌≤◌, nat_eq, false, IsTrue, List, [], length, slice_index_or, slice_set, insert, remove, Option, Some, slice_get, option_map, position, sum_by, All}
use Rattle.std.specs.List.{concat, list_any, range_with_len}
use Rattle.std.specs.List.Sorted.{IsPermutation}
use Rattle.std.specs.Option.{option_and_then}
use Rattle.chain_rules.specs.declared.plan.Plan.{Plan}
use Rattle.chain_rules.specs.declared.unit.Unit.{Unit as MovedUnit}
use Rattle.chain_rules.specs.declared.unit.ChainRule.{ChainRule}
use Rattle.chain_rules.specs.declared.unit.Rules.{Rules}
use Rattle.chain_rules.specs.declared.unit.Position.{Position}

-- a unit without a bit, read where a number is no unit's
abbrev pub no_unit : MovedUnit
no_unit = record { path = 0; first = 0; last = 0; bits = 0; pinned = false }

-- the unit of a number
abbrev pub unit_at : Rules → ℕ → MovedUnit
unit_at rules u = slice_index_or rules.units u no_unit

-- a chain that may hold no bit, read where a number is no chain's
abbrev pub no_rule : ChainRule
no_rule = record { path = 0; first = 0; last = 0; partition = 0; bound = 0; keeps_bit = false }

-- what the chain of a number may hold
abbrev pub rule_at : Rules → ℕ → ChainRule
rule_at rules c = slice_index_or rules.chains c no_rule

-- the numbers of the units of a chain, in order
abbrev pub chain_at : Plan → ℕ → List ℕ
chain_at plan c = slice_index_or plan.chains c []

-- the bits of some units together
abbrev pub bits_of : Rules → List ℕ → ℕ
bits_of rules us = sum_by (λ u. (unit_at rules u).bits) us

-- the last unit of a chain, if it has one
abbrev pub last_of : List ℕ → Option ℕ
last_of us = slice_get us (length us - 1)

-- the first chain of the read plan in which a unit stands
abbrev pub read_chain_of : Rules → ℕ → Option ℕ
read_chain_of rules u = position (list_any (λ v. nat_eq v u)) rules.read.chains

-- a unit's own partition: that of its chain in the read plan
abbrev pub partition_of : Rules → ℕ → Option ℕ
partition_of rules u = option_and_then (λ c. option_map (λ r. r.partition) (slice_get rules.chains c)) (read_chain_of rules u)

-- a plan of the rules' chains is legal (LEF/DEF 5.8, SCANCHAINS: PARTITION, MAXBITS)
pub record IsLegal (rules : Rules) (plan : Plan) : Type 0 where
  -- it has the chains of the rules
  pub chains : length plan.chains ≡ length rules.chains
  -- every unit stands in it exactly once
  pub once : IsPermutation (range_with_len 0 (length rules.units)) (concat plan.chains)
  -- each unit stands in a chain of its own partition
  pub own_partition : (c : ℕ) → c < length plan.chains → All (λ u. partition_of rules u ≡ Some (rule_at rules c).partition) (chain_at plan c)
  -- a pinned unit is the last of its read chain
  pub pinned_last : (c : ℕ) → c < length plan.chains → All (λ u. IsTrue (unit_at rules u).pinned → last_of (chain_at plan c) ≡ Some u) (chain_at rules.read c)
  -- each chain has at least one unit
  pub not_empty : (c : ℕ) → c < length plan.chains → 0 < length (chain_at plan c)
  -- each chain that was read with a bit has at least one
  pub keeps_bit : (c : ℕ) → c < length plan.chains → IsTrue (rule_at rules c).keeps_bit → 0 < bits_of rules (chain_at plan c)
  -- each chain's bits are at most its bound
  pub bounded : (c : ℕ) → c < length plan.chains → bits_of rules (chain_at plan c) ≤ (rule_at rules c).bound

-- a plan with other units in one chain
abbrev pub with_chain : Plan → ℕ → List ℕ → Plan
with_chain plan c us = record { chains = slice_set plan.chains c us }

-- the unit at a position of a plan
abbrev pub unit_in : Plan → Position → ℕ
unit_in plan at = slice_index_or (chain_at plan at.chain) at.place 0

-- the position holds a unit of the plan
pub record IsIn (plan : Plan) (at : Position) : Type 0 where
  pub chain : at.chain < length plan.chains
  pub place : at.place < length (chain_at plan at.chain)

-- the plan without the unit at a position
abbrev pub taken_out : Plan → Position → Plan
taken_out plan at = with_chain plan at.chain (remove (chain_at plan at.chain) at.place)

-- the plan with a unit put in at a position, before the unit that stands there
abbrev pub put_in : Plan → Position → ℕ → Plan
put_in plan at u = with_chain plan at.chain (insert (chain_at plan at.chain) at.place u)

-- the plan with another unit at a position
abbrev pub replaced : Plan → Position → ℕ → Plan
replaced plan at u = with_chain plan at.chain (slice_set (chain_at plan at.chain) at.place u)

-- the unit at one position is taken out and put at the other, whose place counts without it
abbrev pub moved_plan : Plan → Position → Position → Plan
moved_plan plan from to = put_in (taken_out plan from) to (unit_in plan from)

-- a unit can be put at the position of the plan
pub record IsOpen (plan : Plan) (at : Position) : Type 0 where
  pub chain : at.chain < length plan.chains
  pub place : at.place ≤ length (chain_at plan at.chain)

-- the units at two positions are exchanged
abbrev pub swapped_plan : Plan → Position → Position → Plan
swapped_plan plan a b = replaced (replaced plan a (unit_in plan b)) b (unit_in plan a)

-- what a legal plan asks of one chain and its units
pub record IsLegalChain (rules : Rules) (c : ℕ) (us : List ℕ) : Type 0 where
  pub own_partition : All (λ u. partition_of rules u ≡ Some (rule_at rules c).partition) us
  pub pinned_last : All (λ u. IsTrue (unit_at rules u).pinned → last_of us ≡ Some u) (chain_at rules.read c)
  pub not_empty : 0 < length us
  pub keeps_bit : IsTrue (rule_at rules c).keeps_bit → 0 < bits_of rules us
  pub bounded : bits_of rules us ≤ (rule_at rules c).bound
