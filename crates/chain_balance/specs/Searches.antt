-- The search for the paths that are reached, while it goes on.
use Rattle.std.specs.Prelude.{◌≡◌, ℕ, ◌+◌, ◌-◌, ◌<◌, ◌≤◌, List, Bool, length, slice_index_or, Option, Some, None, is_some, nat_eq, count_by}
use Rattle.chain_rules.specs.declared.plan.Plan.{Plan}
use Rattle.chain_rules.specs.declared.unit.Rules.{Rules}
use Rattle.chain_rules.specs.Legality.{rule_at, chain_at, bits_of}
use Rattle.chain_balance.specs.declared.entry.Entry.{Entry}
use Rattle.chain_balance.specs.declared.work.Work.{Work}
use Rattle.chain_balance.specs.declared.search.Giver.{Giver}
use Rattle.chain_balance.specs.declared.search.Search.{Search}
use Rattle.chain_balance.specs.declared.search.Reached.{Reached}
use Rattle.chain_balance.specs.declared.search.Reached.TheVariants.{Hole, All}
use Rattle.chain_balance.specs.Balance.{IsCut, IsReachedSet}
use Rattle.chain_balance.specs.Gains.{NoGain}
use Rattle.chain_balance.specs.Rooms.{group_of}
use Rattle.chain_balance.specs.Steps.{CanGive, entry_at, IsReached, AreReached}

-- the number of a path's entry, where it has one
abbrev pub number_at : List (Option ℕ) → ℕ → Option ℕ
number_at numbers path = slice_index_or numbers path None

-- the list of the first path alone
abbrev pub first_entry : ℕ → Entry
first_entry path = record { path = path; giver = 0; taker = 0; parent = 0 }

-- the entries are reached one after the other, and each of the paths that has one has its number
pub record IsSearch (rules : Rules) (plan : Plan) (paths : ℕ) (entries : List Entry) (numbers : List (Option ℕ)) : Type 0 where
  pub some : 0 < length entries
  pub each : (k : ℕ) → 0 < k → k < length entries → IsReached rules plan entries k
  pub long : length numbers ≡ paths
  pub listed : (k : ℕ) → k < length entries → ((entry_at entries k).path < paths) × (number_at numbers (entry_at entries k).path ≡ Some k)
  pub numbered : (path k : ℕ) → number_at numbers path ≡ Some k → (k < length entries) × ((entry_at entries k).path ≡ path)
  pub counted : count_by is_some numbers ≡ length entries

-- a chain of a path that is reached has a unit to spare
pub record IsGiver (rules : Rules) (plan : Plan) (numbers : List (Option ℕ)) (giver : Giver) : Type 0 where
  pub is_chain : giver.chain < length rules.chains
  pub spare : 2 ≤ length (chain_at plan giver.chain)
  pub is_reached : number_at numbers (rule_at rules giver.chain).path ≡ Some giver.entry

-- the giver of a group, where it has one
abbrev pub giver_at : List (Option Giver) → ℕ → Option Giver
giver_at givers group = slice_index_or givers group None

-- the givers of groups are such chains
pub record AreGivers (rules : Rules) (plan : Plan) (groups : List ℕ) (numbers : List (Option ℕ)) (givers : List (Option Giver)) : Type 0 where
  pub long : length givers ≡ length rules.chains
  pub each : (group : ℕ) (giver : Giver) → giver_at givers group ≡ Some giver → IsGiver rules plan numbers giver × (group_of groups giver.chain ≡ group)

-- a chain has no unit to spare, or its path isn't reached
abbrev pub SparesNone : Rules → Plan → List (Option ℕ) → ℕ → Type 0
SparesNone rules plan numbers c = 2 ≤ length (chain_at plan c) → number_at numbers (rule_at rules c).path ≡ None

-- each of the first chains gives none, or its group has a giver
abbrev pub AllGive : Rules → Plan → List ℕ → List (Option ℕ) → List (Option Giver) → ℕ → Type 0
AllGive rules plan groups numbers givers upto = (c : ℕ) → c < upto → giver_at givers (group_of groups c) ≡ None → SparesNone rules plan numbers c

-- a chain of a path that isn't reached has room, and its group a giver
pub record CanTake (rules : Rules) (plan : Plan) (groups : List ℕ) (numbers : List (Option ℕ)) (givers : List (Option Giver)) (taker : ℕ) (giver : Giver) : Type 0 where
  pub unreached : number_at numbers (rule_at rules taker).path ≡ None
  pub room : bits_of rules (chain_at plan taker) < (rule_at rules taker).bound
  pub gives : giver_at givers (group_of groups taker) ≡ Some giver

-- none of the first chains is so
abbrev pub NoneTakes : Rules → Plan → List ℕ → List (Option ℕ) → List (Option Giver) → ℕ → Type 0
NoneTakes rules plan groups numbers givers upto = (taker : ℕ) (giver : Giver) → taker < upto → ¬ CanTake rules plan groups numbers givers taker giver

-- a chain whose path isn't reached takes from none whose path is
abbrev pub Closes : Rules → Plan → List (Option ℕ) → Type 0
Closes rules plan numbers = (giver taker : ℕ) → CanGive rules plan giver taker → number_at numbers (rule_at rules taker).path ≡ None → number_at numbers (rule_at rules giver).path ≡ None

-- a search and its givers
pub record IsSearching (rules : Rules) (fixed : List ℕ) (work : Work) (groups : List ℕ) (givers : List (Option Giver)) (search : Search) : Type 0 where
  pub is : IsSearch rules work.plan (length fixed) search.entries.items search.numbers.items
  pub givers_are : AreGivers rules work.plan groups search.numbers.items givers

-- a search goes on from another one
pub record HasGrown (before after : Search) : Type 0 where
  pub no_fewer : length before.entries.items ≤ length after.entries.items
  pub first : entry_at after.entries.items 0 ≡ entry_at before.entries.items 0
  pub same : length after.entries.items ≡ length before.entries.items → after.numbers.items ≡ before.numbers.items

-- no entry's path is shorter than the longest by more than one bit
abbrev pub AreNear : List ℕ → ℕ → List Entry → Type 0
AreNear loads most entries = (k : ℕ) → k < length entries → most ≤ slice_index_or loads (entry_at entries k).path 0 + 1

-- the last entry's path is
abbrev pub EndsInHole : List ℕ → ℕ → List Entry → Type 0
EndsInHole loads most entries = slice_index_or loads (entry_at entries (length entries - 1)).path 0 + 2 ≤ most

-- entries from the first one to a hole
pub record IsHole (rules : Rules) (plan : Plan) (loads : List ℕ) (most top : ℕ) (entries : List Entry) : Type 0 where
  pub reached : AreReached rules plan entries (length entries - 1)
  pub hole : EndsInHole loads most entries
  pub first : (entry_at entries 0).path ≡ top

-- a cut of all that is reached
pub record IsReachedCut (rules : Rules) (fixed : List ℕ) (plan : Plan) (set : List Bool) : Type 0 where
  pub cut : IsCut rules fixed plan set
  pub reached : IsReachedSet rules fixed plan set

-- what a search answers
abbrev pub IsOutcome : Rules → List ℕ → Work → ℕ → ℕ → Reached → Type 0
IsOutcome rules fixed work most top (Hole entries) = IsHole rules work.plan work.paths.items most top entries.items
IsOutcome rules fixed work most top (All set) = IsReachedCut rules fixed work.plan set.items

-- a work at its end: no unit may go, some path has the most bits, and there is a cut
pub record IsEnd (rules : Rules) (fixed : List ℕ) (work : Work) (most : ℕ) (set : List Bool) : Type 0 where
  pub none : NoGain rules work.paths.items most work.plan
  pub some : 0 < count_by (nat_eq most) work.paths.items
  pub cut : IsReachedCut rules fixed work.plan set
