-- How many bits the paths have after a plan, and which plans are balanced.
use Rattle.std.specs.Prelude.{◌≡◌, ◌≢◌, ℕ, zero, suc, ◌+◌, ◌<◌, ◌≤◌, ◌==◌, ◌↔◌, Bool, false, if◌then◌else◌, max, IsTrue, List, length, slice_index_or}
use Rattle.std.specs.List.{concat, sum}
use Rattle.chain_rules.specs.declared.plan.Plan.{Plan}
use Rattle.chain_rules.specs.declared.unit.Rules.{Rules}
use Rattle.chain_rules.specs.declared.unit.Position.{Position}
use Rattle.chain_rules.specs.Legality.{unit_at, rule_at, chain_at, bits_of, IsLegal, IsIn, IsOpen, taken_out, moved_plan}

-- the sum of what a function gives for the numbers below one
abbrev pub sum_below : ℕ → (ℕ → ℕ) → ℕ
sum_below zero f = 0
sum_below (suc n) f = sum_below n f + f n

-- the greatest of what a function gives for the numbers below one; 0 where there is none
abbrev pub most_below : ℕ → (ℕ → ℕ) → ℕ
most_below zero f = 0
most_below (suc n) f = max (most_below n f) (f n)

-- the bits of a chain's units, where the chain is on a path
abbrev pub bits_on : Rules → Plan → ℕ → ℕ → ℕ
bits_on rules plan path chain = if (rule_at rules chain).path == path then bits_of rules (chain_at plan chain) else 0

-- the bits of a path: those outside all units, and those of the units in its chains
abbrev pub path_bits : Rules → List ℕ → Plan → ℕ → ℕ
path_bits rules fixed plan path = slice_index_or fixed path 0 + sum_below (length rules.chains) (bits_on rules plan path)

-- the bits of the longest path
abbrev pub longest : Rules → List ℕ → Plan → ℕ
longest rules fixed plan = most_below (length fixed) (path_bits rules fixed plan)

-- each chain is on one of so many paths
abbrev pub AreOnPaths : Rules → ℕ → Type 0
AreOnPaths rules count = (c : ℕ) → c < length rules.chains → (rule_at rules c).path < count

-- each unit has one bit
abbrev pub HaveOneBit : Rules → Type 0
HaveOneBit rules = (u : ℕ) → u < length rules.units → (unit_at rules u).bits ≡ 1

-- a path gives to another one: in one partition it has a chain with two units or more, and the other one a chain that isn't full
pub record GivesTo (rules : Rules) (plan : Plan) (from to : ℕ) : Type 0 where
  pub giver : ℕ
  pub taker : ℕ
  pub is_giver : giver < length rules.chains
  pub is_taker : taker < length rules.chains
  pub on_from : (rule_at rules giver).path ≡ from
  pub on_to : (rule_at rules taker).path ≡ to
  pub partition : (rule_at rules giver).partition ≡ (rule_at rules taker).partition
  pub spare : 2 ≤ length (chain_at plan giver)
  pub room : bits_of rules (chain_at plan taker) < (rule_at rules taker).bound

-- whether a path is of a set
abbrev pub is_in : List Bool → ℕ → Bool
is_in set path = slice_index_or set path false

-- no path of the set gives to one outside
abbrev pub IsClosed : Rules → Plan → List Bool → Type 0
IsClosed rules plan set = (from to : ℕ) → IsTrue (is_in set from) → GivesTo rules plan from to → IsTrue (is_in set to)

-- a closed set with a longest path, and none in it that is shorter by more than one bit
pub record IsCut (rules : Rules) (fixed : List ℕ) (plan : Plan) (set : List Bool) : Type 0 where
  pub long : length set ≡ length fixed
  pub closed : IsClosed rules plan set
  pub top : ℕ
  pub is_path : top < length fixed
  pub has_top : IsTrue (is_in set top)
  pub is_top : path_bits rules fixed plan top ≡ longest rules fixed plan
  pub near : (path : ℕ) → path < length fixed → IsTrue (is_in set path) → longest rules fixed plan ≤ path_bits rules fixed plan path + 1

-- each unit has one bit, and there is a path
pub record HasCut (rules : Rules) (fixed : List ℕ) : Type 0 where
  pub one_bit : HaveOneBit rules
  pub some_path : 0 < length fixed

-- a path is reached from another one, step by step by giving
pub data Reaches (rules : Rules) (plan : Plan) (from : ℕ) : ℕ → Type 0 where
  Start : Reaches rules plan from from
  Step : (x y : ℕ) → Reaches rules plan from x → GivesTo rules plan x y → Reaches rules plan from y

-- the set of the paths that are reached from the first longest one
pub record IsReachedSet (rules : Rules) (fixed : List ℕ) (plan : Plan) (set : List Bool) : Type 0 where
  pub top : ℕ
  pub is_path : top < length fixed
  pub is_top : path_bits rules fixed plan top ≡ longest rules fixed plan
  pub first : (path : ℕ) → path < top → path_bits rules fixed plan path < longest rules fixed plan
  pub long : length set ≡ length fixed
  pub reached : (path : ℕ) → path < length fixed → IsTrue (is_in set path) ↔ Reaches rules plan top path

-- the path of the chain at a position
abbrev pub path_of : Rules → Position → ℕ
path_of rules at = (rule_at rules at.chain).path

-- a unit of a longest path can be put into a chain of another path, so that the plan stays legal and both paths are then shorter than the longest one was
pub record IsGain (rules : Rules) (fixed : List ℕ) (plan : Plan) (from to : Position) : Type 0 where
  pub is_in : IsIn plan from
  pub is_open : IsOpen (taken_out plan from) to
  pub other_path : path_of rules from ≢ path_of rules to
  pub is_top : path_bits rules fixed plan (path_of rules from) ≡ longest rules fixed plan
  pub legal : IsLegal rules (moved_plan plan from to)
  pub from_shorter : path_bits rules fixed (moved_plan plan from to) (path_of rules from) < longest rules fixed plan
  pub to_shorter : path_bits rules fixed (moved_plan plan from to) (path_of rules to) < longest rules fixed plan

-- no unit can be put so
abbrev pub IsEven : Rules → List ℕ → Plan → Type 0
IsEven rules fixed plan = (from to : Position) → ¬ IsGain rules fixed plan from to

-- where each unit has one bit, a cut shows that no legal plan has a shorter longest path
abbrev pub LeastLaw : Type 0
LeastLaw = (rules : Rules) (fixed : List ℕ) (plan other : Plan) (set : List Bool)
    → HaveOneBit rules → AreOnPaths rules (length fixed) → IsLegal rules plan → IsCut rules fixed plan set
    → IsLegal rules other → longest rules fixed plan ≤ longest rules fixed other

-- the bits of all paths together are those outside all units, and those of the units
abbrev pub TotalLaw : Type 0
TotalLaw = (rules : Rules) (fixed : List ℕ) (plan : Plan) → AreOnPaths rules (length fixed) → IsLegal rules plan
    → sum_below (length fixed) (path_bits rules fixed plan) ≡ sum fixed + bits_of rules (concat plan.chains)
