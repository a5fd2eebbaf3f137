-- Chains of one partition, and how many bits they may take.
use Rattle.std.specs.Prelude.{◌≡◌, ℕ, ◌-◌, ◌<◌, ◌≤◌, nat_lt, min, if◌then◌else◌, List, length, slice_index_or, slice_set}
use Rattle.chain_rules.specs.declared.unit.Rules.{Rules}
use Rattle.chain_rules.specs.Legality.{rule_at}
use Rattle.chain_balance.specs.declared.rooms.Roomiest.{Roomiest}

-- the number of a chain's group
abbrev pub group_of : List ℕ → ℕ → ℕ
group_of groups chain = slice_index_or groups chain 0

-- the chains of one partition are one group
pub record AreGroups (rules : Rules) (groups : List ℕ) : Type 0 where
  pub long : length groups ≡ length rules.chains
  pub within : (c : ℕ) → c < length rules.chains → group_of groups c < length rules.chains
  pub alike : (c d : ℕ) → c < length rules.chains → d < length rules.chains → (rule_at rules c).partition ≡ (rule_at rules d).partition → group_of groups c ≡ group_of groups d
  pub apart : (c d : ℕ) → c < length rules.chains → d < length rules.chains → group_of groups c ≡ group_of groups d → (rule_at rules c).partition ≡ (rule_at rules d).partition

-- how many bits a chain may take, so that it keeps to its bound and its path has fewer than the most
abbrev pub room_at : Rules → List ℕ → List ℕ → ℕ → ℕ → ℕ
room_at rules loads held most c = min (most - slice_index_or loads (rule_at rules c).path 0 - 1) ((rule_at rules c).bound - slice_index_or held c 0)

-- a chain without room
abbrev pub no_room : Roomiest
no_room = record { chain = 0; room = 0 }

-- the chain of a group with the most room
abbrev pub best_at : List Roomiest → ℕ → Roomiest
best_at best group = slice_index_or best group no_room

-- the same, once one chain more is known
abbrev pub noted : List Roomiest → ℕ → ℕ → ℕ → List Roomiest
noted best group chain room = if nat_lt (best_at best group).room room then slice_set best group (record { chain = chain; room = room }) else best

-- a chain with the room that is said of its group
pub record IsRoomy (groups : List ℕ) (room : ℕ → ℕ) (upto group : ℕ) (best : Roomiest) : Type 0 where
  pub is_chain : best.chain < upto
  pub of_group : group_of groups best.chain ≡ group
  pub room_is : room best.chain ≡ best.room

-- of each group the chain with the most room among the first ones
pub record AreRoomiest (groups : List ℕ) (room : ℕ → ℕ) (best : List Roomiest) (upto : ℕ) : Type 0 where
  pub none_more : (c : ℕ) → c < upto → room c ≤ (best_at best (group_of groups c)).room
  pub each : (group : ℕ) → 0 < (best_at best group).room → IsRoomy groups room upto group (best_at best group)
