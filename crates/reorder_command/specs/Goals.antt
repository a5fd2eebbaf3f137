-- What a plan is searched for, and what is measured of it: short chains, or a short longest path.
use Rattle.std.specs.Prelude.{◌≡◌, ℕ, ◌-◌, ◌≤◌, ◌==◌, ◌↔◌, if◌then◌else◌, IsTrue, Bool, List, length, map, filter, sum_by, is_some, IfSome}
use Rattle.std.specs.List.{range_with_len}
use Rattle.netlist_core.specs.declared.netlist.Netlist.{Netlist}
use Rattle.netlist_core.specs.Netlists.{plain_of}
use Rattle.chain_trace.specs.declared.path.Path.{Path}
use Rattle.chain_rules.specs.declared.plan.Plan.{Plan}
use Rattle.chain_rules.specs.declared.spec.PathSpec.{PathSpec}
use Rattle.chain_rules.specs.declared.unit.Unit.{Unit as MovedUnit}
use Rattle.chain_rules.specs.declared.unit.Rules.{Rules}
use Rattle.chain_rules.specs.Legality.{IsLegal}
use Rattle.chain_rules.specs.Stretches.{path_at}
use Rattle.wire_cost.specs.declared.ends.Ends.{Ends}
use Rattle.wire_cost.specs.Lengths.{plan_length_of}
use Rattle.order_search.specs.declared.effort.Effort.{Effort}
use Rattle.order_search.specs.declared.effort.Effort.TheVariants.{Order}
use Rattle.order_search.specs.Steps.{IsSettled}
use Rattle.order_search.specs.Nearest.{IsNearestPlan}
use Rattle.plan_search.specs.Members.{HaveSameMembers}
use Rattle.plan_paths.specs.NewPaths.{path_in}
use Rattle.chain_balance.specs.Balance.{longest, HaveOneBit, HasCut, IsCut, IsReachedSet, IsEven, is_in}
use Rattle.reorder_command.specs.declared.goal.Goal.{Goal}
use Rattle.reorder_command.specs.declared.goal.Goal.TheVariants.{Shorter, Balanced}
use Rattle.reorder_command.specs.declared.figures.Lengths.{Lengths}
use Rattle.reorder_command.specs.declared.figures.Longest.{Longest}
use Rattle.reorder_command.specs.declared.figures.Measured.{Measured}
use Rattle.reorder_command.specs.declared.figures.Measured.TheVariants.{Lengths as OfLengths, Longest as OfLongest}

-- Short chains

-- the plan obeys the rules, no step of the effort makes it shorter, and it is no longer than the plan as read and the nearest one; where only
-- orders are searched, each chain keeps its units
pub record IsGoodPlan (effort : Effort) (rules : Rules) (ends : Ends) (plan : Plan) : Type 0 where
  pub legal : IsLegal rules plan
  pub settled : IsSettled effort rules ends plan
  pub members : effort ≡ Order → HaveSameMembers rules.read plan
  pub no_longer : plan_length_of ends plan ≤ plan_length_of ends rules.read
  pub no_longer_than_nearest : (nearest : Plan) → IsNearestPlan rules ends nearest → plan_length_of ends plan ≤ plan_length_of ends nearest

-- the lengths of the plan as read, of the nearest plan and of the written one, in half database units
pub record AreLengths (rules : Rules) (ends : Ends) (plan : Plan) (lengths : Lengths) : Type 0 where
  pub read : lengths.read ≡ plan_length_of ends rules.read
  pub nearest : (nearest : Plan) → IsNearestPlan rules ends nearest → lengths.nearest ≡ plan_length_of ends nearest
  pub written : lengths.written ≡ plan_length_of ends plan

-- A short longest path

-- the bits of the units on the path of a number
abbrev pub bits_in_units : List MovedUnit → ℕ → ℕ
bits_in_units units k = sum_by (λ u. if u.path == k then u.bits else 0) units

-- the bits of that path outside all units: those of its steps less those of the units on it
abbrev pub bits_outside : List PathSpec → Rules → ℕ → ℕ
bits_outside paths rules k = sum_by (λ s. s.bits) (path_at paths k).steps - bits_in_units rules.units k

-- those of each path
abbrev pub fixed_bits : List PathSpec → Rules → List ℕ
fixed_bits paths rules = map (bits_outside paths rules) (range_with_len 0 (length paths))

-- the plan obeys the rules, no single unit of a longest path can go to another path so that both are then shorter than the longest one, and
-- that is no longer than as read; where each unit has one bit, no legal plan has a shorter longest path
pub record IsBalancedPlan (rules : Rules) (fixed : List ℕ) (plan : Plan) : Type 0 where
  pub legal : IsLegal rules plan
  pub even : IsEven rules fixed plan
  pub no_longer : longest rules fixed plan ≤ longest rules fixed rules.read
  pub least : HaveOneBit rules → (other : Plan) → IsLegal rules other → longest rules fixed plan ≤ longest rules fixed other

-- the plain names of the outputs of the paths in a set, in the order of the paths
abbrev pub output_names : Netlist → List Path → List Bool → List (List ℕ)
output_names n paths set = map (λ k. plain_of n.nets (path_in paths k).output) (filter (is_in set) (range_with_len 0 (length paths)))

-- the names tell the paths that are reached from the first longest one, which show that no legal plan has a shorter longest path
pub record TellsCut (n : Netlist) (paths : List Path) (rules : Rules) (fixed : List ℕ) (plan : Plan) (names : List (List ℕ)) : Type 0 where
  pub set : List Bool
  pub cut : IsCut rules fixed plan set
  pub reached : IsReachedSet rules fixed plan set
  pub names_are : names ≡ output_names n paths set

-- the bits of the longest path of the plan as read and of the written one, and the paths of the cut, where there is a path and each unit has
-- one bit, and nowhere else
pub record IsLongest (n : Netlist) (paths : List Path) (rules : Rules) (fixed : List ℕ) (plan : Plan) (bits : Longest) : Type 0 where
  pub read : bits.read ≡ longest rules fixed rules.read
  pub written : bits.written ≡ longest rules fixed plan
  pub cut_where : IsTrue (is_some bits.cut) ↔ HasCut rules fixed
  pub cut : IfSome bits.cut (TellsCut n paths rules fixed plan)

-- By what is searched for

-- the plan is what is searched for; the bits outside all units are given path by path
abbrev pub IsGoodFor : Goal → Rules → Ends → List ℕ → Plan → Type 0
IsGoodFor (Shorter effort) rules ends fixed plan = IsGoodPlan effort rules ends plan
IsGoodFor Balanced rules ends fixed plan = IsBalancedPlan rules fixed plan

-- this is measured of it
abbrev pub AreMeasures : Goal → Netlist → List Path → Rules → Ends → List ℕ → Plan → Measured → Type 0
AreMeasures (Shorter effort) n paths rules ends fixed plan (OfLengths lengths) = AreLengths rules ends plan lengths
AreMeasures Balanced n paths rules ends fixed plan (OfLongest bits) = IsLongest n paths rules fixed plan bits
AreMeasures goal n paths rules ends fixed plan measured = ⊥
