-- The places of the steps, looked up by their scan paths, and numbered one path behind the other.
use Rattle.std.specs.Prelude.{◌≡◌, ℕ, ◌<◌, ◌⊎◌, ◌==◌, ◌&&◌, Bool, List, length, take, sum_by, slice_index_or, Some, IsSome}
use Rattle.std.specs.HashMap.{HashMap, get}
use Rattle.chain_rules.specs.declared.index.Place.{Place}
use Rattle.chain_rules.specs.declared.spec.StepSpec.{StepSpec}
use Rattle.chain_rules.specs.declared.spec.PathSpec.{PathSpec}
use Rattle.chain_rules.specs.Stretches.{path_at, step_at, IsOf, IsPlace}

-- how many steps stand on the paths before one
abbrev pub steps_before : List PathSpec → ℕ → ℕ
steps_before paths n = sum_by (λ path. length path.steps) (take n paths)

-- an instance and the number of one of its scan paths
abbrev pub same_key : ℕ × ℕ → ℕ × ℕ → Bool
same_key a b = a.0 == b.0 && a.1 == b.1

-- the scan path of a step
abbrev pub key_of : StepSpec → ℕ × ℕ
key_of step = (step.instance, step.path)

-- a place on a path before path n, or on it before place k
abbrev pub IsBefore : ℕ → ℕ → ℕ → ℕ → Type 0
IsBefore m l n k = (m < n) ⊎ ((m ≡ n) × (l < k))

-- the scan paths of the steps before a place are noted, each with a place where it stands
pub record AreFirstPlaces {S : Type 0} (paths : List PathSpec) (n k : ℕ) (places : HashMap (ℕ × ℕ) Place S) : Type 0 where
  pub stands : (q : ℕ × ℕ) (p : Place) → get same_key places q ≡ Some p → IsPlace paths p.path p.place × IsOf (step_at (path_at paths p.path) p.place) q.0 q.1
  pub noted : (m l : ℕ) → IsPlace paths m l → IsBefore m l n k → IsSome (get same_key places (key_of (step_at (path_at paths m) l)))

-- all are noted, and the steps before each path are counted
pub record IsIndex {S : Type 0} (paths : List PathSpec) (places : HashMap (ℕ × ℕ) Place S) (before : List ℕ) : Type 0 where
  pub places_are : AreFirstPlaces paths (length paths) 0 places
  pub long : length before ≡ length paths
  pub each : (n : ℕ) → n < length paths → slice_index_or before n 0 ≡ steps_before paths n
