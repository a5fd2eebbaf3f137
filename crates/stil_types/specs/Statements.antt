-- Where the statements in the block of a Loop stand (IEEE 1450-1999, Loop).
use Rattle.std.specs.Prelude.{ℕ, ◌≤◌, ⊤, List, length, All}
use Rattle.stil_types.specs.declared.statement.BodyStatement.{BodyStatement}
use Rattle.stil_types.specs.declared.statement.PatternStatement.{PatternStatement}
use Rattle.stil_types.specs.declared.statement.PatternStatement.TheVariants.{Scan, Other, Loop}

-- the bytes of a statement in the block of a Loop stand in the Loop's text
pub record IsPlacedIn (text : List ℕ) (statement : BodyStatement) : Type 0 where
  pub ordered : statement.start ≤ statement.end
  pub within : statement.end ≤ length text

-- so do those of each statement in its block
abbrev pub IsPlaced : PatternStatement → Type 0
IsPlaced (Scan pattern text call line) = ⊤
IsPlaced (Other pattern text) = ⊤
IsPlaced (Loop pattern text times body line) = All (IsPlacedIn text) body
