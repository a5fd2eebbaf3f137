-- The units and rules that the chains of a design (LEF/DEF 5.8, SCANCHAINS) make of the read paths.
use Rattle.std.specs.Prelude.{◌≡◌, ℕ, ◌+◌, ◌<◌, ◌≤◌, ◌↔◌, nat_lt, false, if◌then◌else◌, IsTrue, List, [], ◌∷◌, length, map, All, Contains, ⊤}
use Rattle.std.specs.List.{concat, range_with_len}
use Rattle.std.specs.List.Sorted.{IsPermutation}
use Rattle.chain_rules.specs.declared.spec.PathSpec.{PathSpec}
use Rattle.chain_rules.specs.declared.spec.EndSpec.{EndSpec}
use Rattle.chain_rules.specs.declared.spec.EndSpec.TheVariants.{Port, Cell}
use Rattle.chain_rules.specs.declared.spec.ElementSpec.{ElementSpec}
use Rattle.chain_rules.specs.declared.spec.ChainSpec.{ChainSpec}
use Rattle.chain_rules.specs.declared.unit.Unit.{Unit as MovedUnit}
use Rattle.chain_rules.specs.declared.unit.ChainRule.{ChainRule}
use Rattle.chain_rules.specs.declared.unit.Rules.{Rules}
use Rattle.chain_rules.specs.Stretches.{path_at, step_at, spec_at, bits_between, Names, groups_of, IsNamedBy, IsListed, Stretch, IsInside, IsStretch, StepsOnce}
use Rattle.chain_rules.specs.ChainFaults.{Meet}
use Rattle.chain_rules.specs.Legality.{unit_at, rule_at, chain_at}

-- the units follow one another without a gap, from a place up to and without another
abbrev pub Cover : List MovedUnit → ℕ → ℕ → Type 0
Cover [] from to = from ≡ to
Cover (u ∷ us) from to = (u.first ≡ from) × (u.first ≤ u.last) × Cover us (u.last + 1) to

-- the unit is a FLOATING element or an ORDERED list of the chain, with the steps between its elements and the unlisted
-- ones behind: it begins with a listed step, holds each element of the group and no other one
pub record IsUnit (path : PathSpec) (chain : ChainSpec) (u : MovedUnit) : Type 0 where
  pub begins : IsListed chain (step_at path u.first)
  pub group : List ElementSpec
  pub of_chain : Contains (groups_of chain) group
  pub each : All (λ e. (k : ℕ) × (u.first ≤ k) × (k ≤ u.last) × Names e (step_at path k)) group
  pub no_other : (k : ℕ) → u.first ≤ k → k ≤ u.last → IsListed chain (step_at path k) → IsNamedBy group (step_at path k)
  pub bits : u.bits ≡ bits_between path u.first (u.last + 1)

-- the end is a port
abbrev pub IsPort : EndSpec → Type 0
IsPort (Port net) = ⊤
IsPort (Cell instance scan out) = ⊥

-- a unit is pinned where it is the last, STOP is PIN, no fixed tail follows, and the port isn't free
pub record PinsLast (path : PathSpec) (chain : ChainSpec) (to last : ℕ) : Type 0 where
  pub stop : IsPort chain.stop
  pub no_tail : to ≡ last + 1
  pub bound : path.free_out ≡ false

-- the rule and the units as read of a chain: its stretch is its fixed head, its units and its fixed tail
pub record IsReadChain (paths : List PathSpec) (chain : ChainSpec) (rule : ChainRule) (us : List MovedUnit) : Type 0 where
  pub stretch : Stretch
  pub is_stretch : IsStretch paths chain stretch
  pub path : rule.path ≡ stretch.path
  -- from the first listed step to the last one
  pub first : IsInside stretch rule.first
  pub last : IsInside stretch rule.last
  pub begins : IsListed chain (step_at (path_at paths stretch.path) rule.first)
  pub ends : IsListed chain (step_at (path_at paths stretch.path) rule.last)
  pub head : (k : ℕ) → IsInside stretch k → k < rule.first → ¬ IsListed chain (step_at (path_at paths stretch.path) k)
  pub tail : (k : ℕ) → IsInside stretch k → rule.last < k → ¬ IsListed chain (step_at (path_at paths stretch.path) k)
  -- the units
  pub cover : Cover us rule.first (rule.last + 1)
  pub units : All (IsUnit (path_at paths stretch.path) chain) us
  pub unit_paths : All (λ u. u.path ≡ stretch.path) us
  pub pinned : All (λ u. IsTrue u.pinned ↔ ((u.last ≡ rule.last) × PinsLast (path_at paths stretch.path) chain stretch.to u.last)) us
  -- what the chain may hold
  pub partition : rule.partition ≡ chain.partition
  pub bound : rule.bound ≡ (if nat_lt 0 chain.max_bits then chain.max_bits else bits_between (path_at paths stretch.path) rule.first (rule.last + 1))
  pub keeps_bit : IsTrue rule.keeps_bit ↔ (0 < bits_between (path_at paths stretch.path) rule.first (rule.last + 1))

-- the rules are those of the chains, each read by itself
pub record AreRulesOfEach (paths : List PathSpec) (chains : List ChainSpec) (rules : Rules) : Type 0 where
  pub rule_count : length rules.chains ≡ length chains
  pub read_count : length rules.read.chains ≡ length chains
  pub each : (c : ℕ) → c < length chains → IsReadChain paths (spec_at chains c) (rule_at rules c) (map (unit_at rules) (chain_at rules.read c))
  pub units : IsPermutation (range_with_len 0 (length rules.units)) (concat rules.read.chains)

-- the rules are those of the chains beside these paths: no scan path stands twice, and no stretch holds a step of another chain's stretch, or of its START or STOP cell
pub record AreRulesOf (paths : List PathSpec) (chains : List ChainSpec) (rules : Rules) : Type 0 where
  pub steps_once : StepsOnce paths
  pub of_each : AreRulesOfEach paths chains rules
  pub apart : (c d : ℕ) → c < length chains → d < length chains → ¬ Meet paths chains c d
