-- Where the chains of a design (LEF/DEF 5.8, SCANCHAINS) stand on the read paths.
use Rattle.std.specs.Prelude.{◌≡◌, ℕ, ◌-◌, ◌^◌, ◌<◌, ◌≤◌, ◌⊎◌, false, List, [], ◌∷◌, length, map, slice_index_or, slice_range, Option, Some, None, sum_by, All, Any, ⊤}
use Rattle.std.specs.List.{flat_map}
use Rattle.chain_rules.specs.declared.spec.StepSpec.{StepSpec}
use Rattle.chain_rules.specs.declared.spec.PathSpec.{PathSpec}
use Rattle.chain_rules.specs.declared.spec.EndSpec.{EndSpec}
use Rattle.chain_rules.specs.declared.spec.EndSpec.TheVariants.{Port, Cell}
use Rattle.chain_rules.specs.declared.spec.ElementSpec.{ElementSpec}
use Rattle.chain_rules.specs.declared.spec.ListSpec.{ListSpec}
use Rattle.chain_rules.specs.declared.spec.ListSpec.TheVariants.{Floating, Ordered}
use Rattle.chain_rules.specs.declared.spec.ChainSpec.{ChainSpec}

-- Places on paths

-- what stands for a step that isn't there
abbrev pub no_step : StepSpec
no_step = record { instance = 0; path = 0; out = 0; bits = 0 }

-- what stands for a path that isn't there
abbrev pub no_path : PathSpec
no_path = record { input = 0; output = 0; free_out = false; steps = [] }

-- what stands for a chain that isn't there
abbrev pub no_chain : ChainSpec
no_chain = record { start = Port 0; stop = Port 0; lists = []; partition = 0; max_bits = 0; line = 0 }

-- what stands for an element that isn't there
abbrev pub no_element : ElementSpec
no_element = record { instance = 0; path = 0; out = None }

-- the path, the step and the chain of a number; one without steps, bits or lists where there is none
abbrev pub path_at : List PathSpec → ℕ → PathSpec
path_at paths n = slice_index_or paths n no_path

-- a step of a path, by its place
abbrev pub step_at : PathSpec → ℕ → StepSpec
step_at path k = slice_index_or path.steps k no_step

-- a chain, by its number
abbrev pub spec_at : List ChainSpec → ℕ → ChainSpec
spec_at chains c = slice_index_or chains c no_chain

-- the step is of this scan path of this instance
pub record IsOf (step : StepSpec) (cell scan : ℕ) : Type 0 where
  pub instance : step.instance ≡ cell
  pub path : step.path ≡ scan

-- the step is left by this out pin, where one is named
abbrev pub LeavesBy : StepSpec → Option ℕ → Type 0
LeavesBy step None = ⊤
LeavesBy step (Some out) = step.out ≡ out

-- the bits of the steps from a place up to and without another
abbrev pub bits_between : PathSpec → ℕ → ℕ → ℕ
bits_between path from to = sum_by (λ s. s.bits) (slice_range path.steps from to)

-- Elements

-- the element names the step
abbrev pub Names : ElementSpec → StepSpec → Type 0
Names element step = IsOf step element.instance element.path

-- the elements of each unit: a FLOATING element alone, an ORDERED list whole
abbrev pub groups_in : ListSpec → List (List ElementSpec)
groups_in (Floating elements) = map (λ e. e ∷ []) elements
groups_in (Ordered elements) = elements ∷ []

-- the elements of a chain in groups: each of a floating list by itself, those of an ordered list together
abbrev pub groups_of : ChainSpec → List (List ElementSpec)
groups_of chain = flat_map groups_in chain.lists

-- the elements of a list and of a chain
abbrev pub elements_in : ListSpec → List ElementSpec
elements_in (Floating elements) = elements
elements_in (Ordered elements) = elements

-- all elements of a chain's lists
abbrev pub elements_of : ChainSpec → List ElementSpec
elements_of chain = flat_map elements_in chain.lists

-- some of the elements names the step
abbrev pub IsNamedBy : List ElementSpec → StepSpec → Type 0
IsNamedBy elements step = Any (λ e. Names e step) elements

-- a chain lists the step
abbrev pub IsListed : ChainSpec → StepSpec → Type 0
IsListed chain step = IsNamedBy (elements_of chain) step

-- Stretches

-- the steps of a path from one place up to and without another
pub record Stretch : Type 0 where
  pub path : ℕ
  pub from : ℕ
  pub to : ℕ

-- the place lies in the stretch
pub record IsInside (s : Stretch) (k : ℕ) : Type 0 where
  pub low : s.from ≤ k
  pub high : k < s.to

-- START is the path's scan-in port, or the step before, which is of the named cell and left by the named out pin
abbrev pub BeginsAt : PathSpec → EndSpec → ℕ → Type 0
BeginsAt path (Port net) from = (path.input ≡ net) × (from ≡ 0)
BeginsAt path (Cell instance scan out) from =
    (0 < from) × (from ≤ length path.steps) × IsOf (step_at path (from - 1)) instance scan × LeavesBy (step_at path (from - 1)) out

-- STOP is the path's scan-out port, or the step there, which is of the named cell
abbrev pub EndsAt : PathSpec → EndSpec → ℕ → Type 0
EndsAt path (Port net) to = (path.output ≡ net) × (to ≡ length path.steps)
EndsAt path (Cell instance scan out) to = (to < length path.steps) × IsOf (step_at path to) instance scan

-- the element is a step of the stretch, with its scan path and its out pin
abbrev pub StandsIn : PathSpec → Stretch → ElementSpec → Type 0
StandsIn path s element = (k : ℕ) × IsInside s k × Names element (step_at path k) × LeavesBy (step_at path k) element.out

-- the chain's stretch: the steps of one path strictly between its START and its STOP, with each element among them
pub record IsStretch (paths : List PathSpec) (chain : ChainSpec) (s : Stretch) : Type 0 where
  pub path : s.path < length paths
  pub begins : BeginsAt (path_at paths s.path) chain.start s.from
  pub ends : EndsAt (path_at paths s.path) chain.stop s.to
  pub order : s.from ≤ s.to
  pub elements : All (StandsIn (path_at paths s.path) s) (elements_of chain)

-- the chain has a stretch
abbrev pub HasStretch : List PathSpec → ChainSpec → Type 0
HasStretch paths chain = (s : Stretch) × IsStretch paths chain s

-- the step at the place is that of the START or STOP cell
abbrev pub IsEndStep : StepSpec → EndSpec → Type 0
IsEndStep step (Port net) = ⊥
IsEndStep step (Cell instance scan out) = IsOf step instance scan

-- a step of the chain's START or STOP cell lies in the stretch
abbrev pub HasEndIn : List PathSpec → ChainSpec → Stretch → Type 0
HasEndIn paths chain s =
    (k : ℕ) × IsInside s k × (k < length (path_at paths s.path).steps) × (IsEndStep (step_at (path_at paths s.path) k) chain.start ⊎ IsEndStep (step_at (path_at paths s.path) k) chain.stop)

-- the two stretches share a step
abbrev pub ShareStep : Stretch → Stretch → Type 0
ShareStep s t = (s.path ≡ t.path) × (k : ℕ) × IsInside s k × IsInside t k

-- the stretch of the first chain holds a step of the other's stretch, or of its START or STOP cell
abbrev pub Disturbs : List PathSpec → ChainSpec → ChainSpec → Type 0
Disturbs paths chain other =
    (s : Stretch) × IsStretch paths chain s × (HasEndIn paths other s ⊎ ((t : Stretch) × IsStretch paths other t × ShareStep s t))

-- Chains that belong to the paths

-- the path and the place of a step
pub record IsPlace (paths : List PathSpec) (n k : ℕ) : Type 0 where
  pub path : n < length paths
  pub step : k < length (path_at paths n).steps

-- the element of a number of a chain
abbrev pub NamesAt : List ChainSpec → ℕ → ℕ → StepSpec → Type 0
NamesAt chains c i step = (c < length chains) × (i < length (elements_of (spec_at chains c))) × ((d : ElementSpec) → Names (slice_index_or (elements_of (spec_at chains c)) i d) step)

-- no scan path of an instance stands twice in the paths
abbrev pub StepsOnce : List PathSpec → Type 0
StepsOnce paths = (n k m l : ℕ) → IsPlace paths n k → IsPlace paths m l → IsOf (step_at (path_at paths n) k) (step_at (path_at paths m) l).instance (step_at (path_at paths m) l).path → (n ≡ m) × (k ≡ l)

-- no step of the paths is named by two elements
abbrev pub NamedOnce : List PathSpec → List ChainSpec → Type 0
NamedOnce paths chains = (n k c i d j : ℕ) → IsPlace paths n k → NamesAt chains c i (step_at (path_at paths n) k) → NamesAt chains d j (step_at (path_at paths n) k) → (c ≡ d) × (i ≡ j)

-- a chain has a list and each of its lists an element
pub record HasElements (chain : ChainSpec) : Type 0 where
  pub list : 0 < length chain.lists
  pub each : All (λ elements. 0 < length (elements_in elements)) chain.lists

-- chains that belong to the paths, with numbers that fit
pub record AreChainSpecs (paths : List PathSpec) (chains : List ChainSpec) : Type 0 where
  pub steps_once : StepsOnce paths
  pub named_once : NamedOnce paths chains
  pub elements : All HasElements chains
  -- the bits of all steps together are less than 2^32
  pub bits : sum_by (λ path. sum_by (λ s. s.bits) path.steps) paths < 2 ^ 32
  -- there are fewer than 2^32 paths, steps, chains and elements
  pub few_paths : length paths < 2 ^ 32
  pub few_steps : sum_by (λ path. length path.steps) paths < 2 ^ 32
  pub few_chains : length chains < 2 ^ 32
  pub few_elements : sum_by (λ chain. length (elements_of chain)) chains < 2 ^ 32
