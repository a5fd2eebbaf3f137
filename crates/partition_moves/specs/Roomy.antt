-- A plan whose chains have room, how much room they need, and the bits that are kept for them.
use Rattle.std.specs.Prelude.{◌≡◌, ℕ, ◌+◌, ◌-◌, ◌<◌, ◌≤◌, cond, List, [], ◌∷◌, map, length, take, min, count_by, nat_eq, slice_index_or, Vec, vec_capacity}
use Rattle.chain_rules.specs.Legality.{bits_of, chain_at, rule_at, unit_at}
use Rattle.chain_rules.specs.Plans.{PlanLists}
use Rattle.chain_rules.specs.declared.plan.Plan.{Plan}
use Rattle.chain_rules.specs.declared.unit.Rules.{Rules}

-- a plan, how many units each of its chains has room for, the bits that are kept for each, and the least bits of a unit
pub record RoomyPlan : Type 0 where
  pub plan : PlanLists
  pub rooms : List ℕ
  pub bits : List ℕ
  pub least : ℕ

-- how many elements each of some vectors has room for
abbrev pub rooms_of : {A : Type 0} → List (Vec ℕ A) → List ℕ
rooms_of vs = map (λ v. vec_capacity v) vs

-- how many units a chain has room for
abbrev pub room_in : List ℕ → ℕ → ℕ
room_in rooms c = slice_index_or rooms c 0

-- how many of the units have no bit
abbrev pub bitless : Rules → ℕ
bitless rules = count_by (λ u. nat_eq u.bits 0) rules.units

-- how many units the chains of a partition hold besides one each, of these chains from chain b on
abbrev pub spare_from : Rules → ℕ → ℕ → List (List ℕ) → ℕ
spare_from rules part b [] = 0
spare_from rules part b (us ∷ rest) = cond (nat_eq (rule_at rules b).partition part) (length us - 1) 0 + spare_from rules part (b + 1) rest

-- how many those of a chain's own partition do
abbrev pub spare_in : Rules → Plan → ℕ → ℕ
spare_in rules p c = spare_from rules (rule_at rules c).partition 0 p.chains

-- the most units that a chain may hold: all that its partition can spare and one, and each with a bit takes one of its bound
abbrev pub most_in : Rules → Plan → ℕ → ℕ
most_in rules p c = min (min (spare_in rules p c) (length rules.units) + 1) ((rule_at rules c).bound + bitless rules)

-- each chain has room for the most units that it may hold
pub record AreRoomyFor (rules : Rules) (p : Plan) (rooms : List ℕ) : Type 0 where
  pub each : (c : ℕ) → c < length rules.chains → most_in rules p c ≤ room_in rooms c

-- what each partition whose number is a chain's can spare of the first n chains, as far as there are units
pub record AreSparesOf (rules : Rules) (p : Plan) (spares : List ℕ) (n : ℕ) : Type 0 where
  pub count : length spares ≡ length p.chains
  pub each : (q : ℕ) → q < length p.chains → min (spare_from rules q 0 (take n p.chains)) (length rules.units) ≤ slice_index_or spares q 0

-- the same of all chains
pub record AreSpares (rules : Rules) (p : Plan) (spares : List ℕ) : Type 0 where
  pub count : length spares ≡ length p.chains
  pub each : (q : ℕ) → q < length p.chains → min (spare_from rules q 0 p.chains) (length rules.units) ≤ slice_index_or spares q 0

-- the bits that are kept for a chain
abbrev pub held_in : List ℕ → ℕ → ℕ
held_in bits c = slice_index_or bits c 0

-- they are those of the chain's units
pub record AreHeld (rules : Rules) (p : Plan) (bits : List ℕ) : Type 0 where
  pub counts : length bits ≡ length p.chains
  pub each : (c : ℕ) → c < length p.chains → held_in bits c ≡ bits_of rules (chain_at p c)

-- no unit has fewer bits
abbrev pub IsLeast : Rules → ℕ → Type 0
IsLeast rules m = (u : ℕ) → u < length rules.units → m ≤ (unit_at rules u).bits

-- the plan has room, and what is kept of it is true
pub record IsKept (rules : Rules) (w : RoomyPlan) : Type 0 where
  pub rooms : AreRoomyFor rules w.plan w.rooms
  pub held : AreHeld rules w.plan w.bits
  pub least : IsLeast rules w.least
