-- The paths after a plan: in each read path the run of each chain's units is replaced by those of its units in the plan, and all
-- else of the path stays.
use Rattle.std.specs.Prelude.{ℕ, ◌+◌, ◌-◌, Bool, ◌&&◌, ◌==◌, nat_le, if◌then◌else◌, List, [], ◌∷◌, length, map, slice_index_or, Option, Some, None}
use Rattle.std.specs.List.{flat_map, range_with_len, position_from}
use Rattle.chain_trace.specs.declared.path.Step.{Step}
use Rattle.chain_trace.specs.declared.path.Path.{Path}
use Rattle.chain_rules.specs.declared.unit.Unit.{Unit as MovedUnit}
use Rattle.chain_rules.specs.declared.unit.ChainRule.{ChainRule}
use Rattle.chain_rules.specs.declared.unit.Rules.{Rules}
use Rattle.chain_rules.specs.declared.plan.Plan.{Plan}
use Rattle.chain_rules.specs.Legality.{unit_at, rule_at, chain_at}

-- a place on the read paths: the number of a path, and that of a step on it
abbrev pub Site : Type 0
Site = ℕ × ℕ

-- the places of a unit's run
abbrev pub run_places : MovedUnit → List Site
run_places u = map (λ k. (u.path, k)) (range_with_len u.first (u.last + 1 - u.first))

-- those of some units, one run after the other
abbrev pub runs_places : Rules → List ℕ → List Site
runs_places rules us = flat_map (λ u. run_places (unit_at rules u)) us

-- the place lies from the first step of a chain's first unit as read to the last step of its last one
abbrev pub lies_in : ℕ → ℕ → ChainRule → Bool
lies_in path place rule = rule.path == path && (nat_le rule.first place && nat_le place rule.last)

-- the chain in which a place of a path lies, if it lies in one
abbrev pub chain_on : Rules → ℕ → ℕ → Option ℕ
chain_on rules path place = position_from (lies_in path place) 0 rules.chains

-- what fills a place in the new path: a fixed step itself, the first place of a chain its units in the plan, and its other
-- places nothing
abbrev pub filling : Rules → Plan → ℕ → ℕ → Option ℕ → List Site
filling rules plan path place None = (path, place) ∷ []
filling rules plan path place (Some c) = if (rule_at rules c).first == place then runs_places rules (chain_at plan c) else []

-- the same, by the chain in which the place lies
abbrev pub places_at : Rules → Plan → ℕ → ℕ → List Site
places_at rules plan path place = filling rules plan path place (chain_on rules path place)

-- the new path of a read path of so many steps, as places on the read paths
abbrev pub new_places : Rules → Plan → ℕ → ℕ → List Site
new_places rules plan path steps = flat_map (places_at rules plan path) (range_with_len 0 steps)

-- what stands for a path that isn't there
abbrev pub absent_path : Path
absent_path = record { input = record { 0 = 0 }; output = record { 0 = 0 }; steps = [] }

-- what stands for a step that isn't there
abbrev pub absent_step : Step
absent_step = record { instance = 0; path = 0; out = 0 }

-- the path of a number
abbrev pub path_in : List Path → ℕ → Path
path_in paths k = slice_index_or paths k absent_path

-- the step at a place
abbrev pub step_in : List Path → Site → Step
step_in paths site = slice_index_or (path_in paths site.0).steps site.1 absent_step

-- the new path of a number, between the ports of the read one
abbrev pub new_path : List Path → Rules → Plan → ℕ → Path
new_path paths rules plan k = record {
  input = (path_in paths k).input;
  output = (path_in paths k).output;
  steps = map (step_in paths) (new_places rules plan k (length (path_in paths k).steps));
}

-- the paths after a plan
abbrev pub new_paths : List Path → Rules → Plan → List Path
new_paths paths rules plan = map (new_path paths rules plan) (range_with_len 0 (length paths))
