-- Paths that are listed as they are reached by giving, each from one before it.
use Rattle.std.specs.Prelude.{◌≡◌, ◌≢◌, ℕ, ◌<◌, ◌≤◌, List, length, slice_index_or}
use Rattle.chain_rules.specs.declared.plan.Plan.{Plan}
use Rattle.chain_rules.specs.declared.unit.Rules.{Rules}
use Rattle.chain_rules.specs.Legality.{rule_at, chain_at, bits_of, moved_plan}
use Rattle.chain_balance.specs.declared.entry.Entry.{Entry}
use Rattle.chain_balance.specs.Gains.{at_place, went}

-- the plan after the front unit of a chain went to the front of another one
abbrev pub stepped : Plan → ℕ → ℕ → Plan
stepped plan giver taker = moved_plan plan (at_place giver 0) (at_place taker 0)

-- the bits of the paths after it, where the unit has one bit
abbrev pub shifted : List ℕ → ℕ → ℕ → List ℕ
shifted loads from to = went loads from to 1

-- a chain can give a unit of one bit to another one
pub record CanGive (rules : Rules) (plan : Plan) (giver taker : ℕ) : Type 0 where
  pub is_giver : giver < length rules.chains
  pub is_taker : taker < length rules.chains
  pub partition : (rule_at rules giver).partition ≡ (rule_at rules taker).partition
  pub spare : 2 ≤ length (chain_at plan giver)
  pub room : bits_of rules (chain_at plan taker) < (rule_at rules taker).bound

-- no entry
abbrev pub no_entry : Entry
no_entry = record { path = 0; giver = 0; taker = 0; parent = 0 }

-- an entry by its number
abbrev pub entry_at : List Entry → ℕ → Entry
entry_at entries k = slice_index_or entries k no_entry

-- an entry's path is reached from that of its parent, which stands before it
pub record IsReached (rules : Rules) (plan : Plan) (entries : List Entry) (k : ℕ) : Type 0 where
  pub before : (entry_at entries k).parent < k
  pub gives : CanGive rules plan (entry_at entries k).giver (entry_at entries k).taker
  pub on_parent : (rule_at rules (entry_at entries k).giver).path ≡ (entry_at entries (entry_at entries k).parent).path
  pub on_own : (rule_at rules (entry_at entries k).taker).path ≡ (entry_at entries k).path

-- the entries up to one are so, and their paths differ
pub record AreReached (rules : Rules) (plan : Plan) (entries : List Entry) (upto : ℕ) : Type 0 where
  pub within : upto < length entries
  pub apart : (j k : ℕ) → j < k → k < length entries → (entry_at entries j).path ≢ (entry_at entries k).path
  pub each : (k : ℕ) → 0 < k → k ≤ upto → IsReached rules plan entries k
