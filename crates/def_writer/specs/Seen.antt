-- What is kept of steps by their scan paths, as the code goes over chains and paths.
use Rattle.std.specs.Prelude.{◌≡◌, ℕ, Bool, List}
use Rattle.std.specs.HashMap.{HashMap, get}
use Rattle.std.specs.HashSet.{HashSet}
use Rattle.std.specs.List.{find}
use Rattle.chain_trace.specs.declared.path.Step.{Step}
use Rattle.chain_trace.specs.declared.path.Path.{Path}
use Rattle.chain_trace.specs.Drivers.{same_place}
use Rattle.chain_rules.specs.declared.spec.ChainSpec.{ChainSpec}
use Rattle.traced_paths.specs.Steps.{is_marked}
use Rattle.traced_paths.specs.Traced.{steps_of}
use Rattle.def_writer.specs.PlanChains.{is_at, is_listed, is_ordered}

-- the set has the scan paths of the steps that pass
abbrev pub AreSteps : {S : Type 0} → (Step → Bool) → HashSet (ℕ × ℕ) S → Type 0
AreSteps test set = (step : Step) → is_marked set step ≡ test step

-- the scan paths that chains list, and those in ordered lists
pub record IsListing (chains : List ChainSpec) {S T : Type 0} (listed : HashSet (ℕ × ℕ) S) (ordered : HashSet (ℕ × ℕ) T) : Type 0 where
  pub listed_are : AreSteps (is_listed chains) listed
  pub ordered_are : AreSteps (is_ordered chains) ordered

-- of each scan path the first of these steps
abbrev pub AreFirst : {S : Type 0} → List Step → HashMap (ℕ × ℕ) Step S → Type 0
AreFirst steps map = (q : ℕ × ℕ) → get same_place map q ≡ find (is_at q.0 q.1) steps

-- the same of the steps of paths
pub record AreTraced (paths : List Path) {S : Type 0} (steps : HashMap (ℕ × ℕ) Step S) : Type 0 where
  pub first : AreFirst (steps_of paths) steps
