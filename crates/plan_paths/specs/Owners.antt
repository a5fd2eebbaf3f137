-- In which chain each place of each read path lies, as it is found by going over the chains.
use Rattle.std.specs.Prelude.{◌≡◌, ◌<◌, ℕ, ◌&&◌, nat_le, nat_lt, if◌then◌else◌, List, [], length, map, slice_index_or, Vec, Option, Some, None}
use Rattle.std.specs.List.{range_with_len, position_from, slice_get}
use Rattle.chain_trace.specs.declared.path.Path.{Path}
use Rattle.chain_rules.specs.declared.unit.ChainRule.{ChainRule}
use Rattle.plan_paths.specs.NewPaths.{lies_in, path_in}

-- a chain takes a place, where no chain has it
abbrev pub claimed : ℕ → Option ℕ → Option ℕ
claimed chain None = Some chain
claimed chain (Some other) = Some other

-- what holds of a place after a chain has taken the places from one up to and without another
abbrev pub marked : ℕ → ℕ → ℕ → ℕ → Option ℕ → Option ℕ
marked chain first end place owner = if nat_le first place && nat_lt place end then claimed chain owner else owner

-- the first of these chains in which each of so many places of a path lies
abbrev pub owners : List ChainRule → ℕ → ℕ → List (Option ℕ)
owners rules path count = map (λ place. position_from (lies_in path place) 0 rules) (range_with_len 0 count)

-- a row for each path, with the first of these chains in which each of its places lies
pub record AreOwners {A : Type 0} (paths : List Path) (rules : List ChainRule) (rows : List (Vec (Option ℕ) A)) : Type 0 where
  pub count : length rows ≡ length paths
  pub each : (k : ℕ) (row : Vec (Option ℕ) A) → slice_get rows k ≡ Some row → row.items ≡ owners rules k (length (path_in paths k).steps)

-- the same of the first paths alone, so many, where no chain is gone through
pub record AreUnmarked {A : Type 0} (paths : List Path) (some : ℕ) (rows : List (Vec (Option ℕ) A)) : Type 0 where
  pub count : length rows ≡ some
  pub each : (k : ℕ) (row : Vec (Option ℕ) A) → slice_get rows k ≡ Some row → row.items ≡ owners [] k (length (path_in paths k).steps)

-- a row as it is after a chain has taken the places from one up to and without another, and as it was
pub record IsRowMarked (chain first end : ℕ) (before after : List (Option ℕ)) : Type 0 where
  pub count : length after ≡ length before
  pub each : (k : ℕ) → k < length before → slice_index_or after k None ≡ marked chain first end k (slice_index_or before k None)
