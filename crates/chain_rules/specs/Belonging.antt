-- Which steps and elements stand alone in their scan path, as the test of chains goes over them.
use Rattle.std.specs.Prelude.{◌≡◌, ℕ, ◌<◌, List, [], length, slice_index_or, Option, Some}
use Rattle.chain_rules.specs.declared.spec.PathSpec.{PathSpec}
use Rattle.chain_rules.specs.declared.spec.ElementSpec.{ElementSpec}
use Rattle.chain_rules.specs.Stretches.{path_at, step_at, no_element, IsOf, IsPlace}

-- only the step at place k of path n is of its scan path
abbrev pub IsOnlyStep : List PathSpec → ℕ → ℕ → Type 0
IsOnlyStep paths n k = (m l : ℕ) → IsPlace paths m l → IsOf (step_at (path_at paths m) l) (step_at (path_at paths n) k).instance (step_at (path_at paths n) k).path → (m ≡ n) × (l ≡ k)

-- the element of number i of chain c, of the elements of each chain
abbrev pub element_at : List (List ElementSpec) → ℕ → ℕ → ElementSpec
element_at lists c i = slice_index_or (slice_index_or lists c []) i no_element

-- the chain has so many elements and more
pub record IsElement (lists : List (List ElementSpec)) (c i : ℕ) : Type 0 where
  pub chain : c < length lists
  pub element : i < length (slice_index_or lists c [])

-- the two elements name one scan path
pub record AreAlike (one other : ElementSpec) : Type 0 where
  pub instance : one.instance ≡ other.instance
  pub path : one.path ≡ other.path

-- of the elements at most that of the number names the same scan path
abbrev pub IsOnlyAmong : List ElementSpec → Option ℕ → ElementSpec → Type 0
IsOnlyAmong elements but element = (j : ℕ) → j < length elements → AreAlike (slice_index_or elements j no_element) element → but ≡ Some j

-- only element i of chain c names its scan path
abbrev pub IsOnlyElement : List (List ElementSpec) → ℕ → ℕ → Type 0
IsOnlyElement lists c i = (d j : ℕ) → IsElement lists d j → AreAlike (element_at lists d j) (element_at lists c i) → (d ≡ c) × (j ≡ i)

-- the scan path that element i of chain c names stands on no path, or only that element names it
abbrev pub IsNamedOnceAt : List PathSpec → List (List ElementSpec) → ℕ → ℕ → Type 0
IsNamedOnceAt paths lists c i = (n k : ℕ) → IsPlace paths n k → IsOf (step_at (path_at paths n) k) (element_at lists c i).instance (element_at lists c i).path → IsOnlyElement lists c i
