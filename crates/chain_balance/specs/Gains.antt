-- A unit that may go to a shorter path, by the bits of the paths and of the chains as they are kept.
use Rattle.std.specs.Prelude.{◌≡◌, ◌≢◌, ℕ, ◌+◌, ◌-◌, ◌<◌, ◌≤◌, IsTrue, List, length, slice_index_or, slice_set}
use Rattle.chain_rules.specs.declared.plan.Plan.{Plan}
use Rattle.chain_rules.specs.declared.unit.Rules.{Rules}
use Rattle.chain_rules.specs.declared.unit.Position.{Position}
use Rattle.chain_rules.specs.Legality.{unit_at, rule_at, chain_at, bits_of, unit_in, IsLegal, IsIn, moved_plan}
use Rattle.chain_balance.specs.declared.gains.Gain.{Gain}
use Rattle.chain_balance.specs.declared.rooms.Roomiest.{Roomiest}
use Rattle.chain_balance.specs.declared.work.Work.{Work}
use Rattle.chain_balance.specs.Balance.{path_bits, path_of}

-- the bits of a path
abbrev pub load_of : List ℕ → ℕ → ℕ
load_of loads path = slice_index_or loads path 0

-- the bits of all paths
pub record AreLoads (rules : Rules) (fixed : List ℕ) (plan : Plan) (loads : List ℕ) : Type 0 where
  pub long : length loads ≡ length fixed
  pub each : (path : ℕ) → path < length fixed → slice_index_or loads path 0 ≡ path_bits rules fixed plan path

-- the bits of all chains
pub record AreHeld (rules : Rules) (plan : Plan) (held : List ℕ) : Type 0 where
  pub long : length held ≡ length rules.chains
  pub each : (c : ℕ) → c < length rules.chains → slice_index_or held c 0 ≡ bits_of rules (chain_at plan c)

-- the bits of the path of a position
abbrev pub load_at : Rules → List ℕ → Position → ℕ
load_at rules loads at = slice_index_or loads (path_of rules at) 0

-- the bits of the unit at a position
abbrev pub bits_in : Rules → Plan → Position → ℕ
bits_in rules plan at = (unit_at rules (unit_in plan at)).bits

-- a unit with bits of a path with so many may go to the front of a chain of another path, which stays shorter
pub record MayGo (rules : Rules) (loads : List ℕ) (most : ℕ) (plan : Plan) (from to : Position) : Type 0 where
  pub other_path : path_of rules from ≢ path_of rules to
  pub is_top : load_at rules loads from ≡ most
  pub some : 0 < bits_in rules plan from
  pub room : load_at rules loads to + bits_in rules plan from < most
  pub legal : IsLegal rules (moved_plan plan from to)

-- the place of so many units before it in a chain
abbrev pub at_place : ℕ → ℕ → Position
at_place chain place = record { chain = chain; place = place }

-- no unit of a chain may go to another one
abbrev pub NoneMayGo : Rules → List ℕ → ℕ → Plan → ℕ → ℕ → Type 0
NoneMayGo rules loads most plan giver taker = (place : ℕ) → place < length (chain_at plan giver) → ¬ MayGo rules loads most plan (at_place giver place) (at_place taker 0)

-- no unit may go from any chain to any other
abbrev pub NoGain : Rules → List ℕ → ℕ → Plan → Type 0
NoGain rules loads most plan = (giver taker : ℕ) → giver < length plan.chains → taker < length plan.chains → NoneMayGo rules loads most plan giver taker

-- this one may
pub record OneMayGo (rules : Rules) (loads : List ℕ) (most : ℕ) (plan : Plan) (from to : Position) : Type 0 where
  pub is_in : IsIn plan from
  pub is_taker : to.chain < length plan.chains
  pub in_front : to.place ≡ 0
  pub may : MayGo rules loads most plan from to

-- a legal plan with the bits of its paths, none of which has more than so many
pub record IsLevel (rules : Rules) (fixed : List ℕ) (plan : Plan) (loads : List ℕ) (most : ℕ) : Type 0 where
  pub legal : IsLegal rules plan
  pub are : AreLoads rules fixed plan loads
  pub top : (path : ℕ) → path < length loads → slice_index_or loads path 0 ≤ most

-- and with the bits of its chains
pub record IsWork (rules : Rules) (fixed : List ℕ) (work : Work) (most : ℕ) : Type 0 where
  pub level : IsLevel rules fixed work.plan work.paths.items most
  pub held : AreHeld rules work.plan work.chains.items

-- bits of some places, after one place gave so many to another
abbrev pub went : List ℕ → ℕ → ℕ → ℕ → List ℕ
went bits from to some = slice_set (slice_set bits from (slice_index_or bits from 0 - some)) to (slice_index_or bits to 0 + some)

-- a unit of a chain has bits, at most so many, and can leave it: another one stays, and a bit where the chain needs one; and it isn't pinned at the end
pub record CanLeave (rules : Rules) (plan : Plan) (giver room place : ℕ) : Type 0 where
  pub is_in : place < length (chain_at plan giver)
  pub spare : 2 ≤ length (chain_at plan giver)
  pub some : 0 < bits_in rules plan (at_place giver place)
  pub fits : bits_in rules plan (at_place giver place) ≤ room
  pub keeps : IsTrue (rule_at rules giver).keeps_bit → bits_in rules plan (at_place giver place) < bits_of rules (chain_at plan giver)
  pub free : IsTrue (unit_at rules (unit_in plan (at_place giver place))).pinned → place + 1 < length (chain_at plan giver)

-- no unit of a chain can leave it with at most so many bits, or its path isn't one with the most
abbrev pub GivesNone : Rules → List ℕ → ℕ → Plan → ℕ → ℕ → Type 0
GivesNone rules loads most plan room giver = slice_index_or loads (rule_at rules giver).path 0 ≡ most → (place : ℕ) → ¬ CanLeave rules plan giver room place

-- a unit of a chain can go to the chain with so much room
pub record IsGainTo (rules : Rules) (loads : List ℕ) (most : ℕ) (plan : Plan) (best : Roomiest) (giver : ℕ) (gain : Gain) : Type 0 where
  pub is_top : slice_index_or loads (rule_at rules giver).path 0 ≡ most
  pub is_giver : gain.giver ≡ giver
  pub is_taker : gain.taker ≡ best.chain
  pub can : CanLeave rules plan giver best.room gain.place
