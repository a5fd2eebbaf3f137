-- How far the patterns of a text are read.
use Rattle.std.specs.Prelude.{◌≡◌, ℕ, ◌+◌, ◌<◌, ◌≤◌, List, [], ◌∷◌, ◌++◌, length, take, drop, map, All, Option, Some, None}
use Rattle.std.specs.List.{flat_map}
use Rattle.stil_types.specs.declared.head.StilHead.{StilHead}
use Rattle.stil_types.specs.declared.statement.PatternStatement.{PatternStatement}
use Rattle.stil_types.specs.Statements.{IsPlaced}
use Rattle.stil_parts.specs.declared.gap.Point.{Point}
use Rattle.stil_parts.specs.declared.part.Part.{Part}
use Rattle.stil_parts.specs.Coming.{IsEarly, part_events}
use Rattle.stil_calls.specs.declared.judging.Judging.{Judging}
use Rattle.stil_calls.specs.Parts.{judge_by}
use Rattle.stil_calls.specs.Statements.{AreAcceptedBy}
use Rattle.stil_reader.specs.declared.stil.Judged.{Judged}
use Rattle.stil_reader.specs.declared.step.Piece.{Piece}
use Rattle.stil_reader.specs.declared.step.Piece.TheVariants.{Gap, Statement}
use Rattle.stil_reader.specs.declared.step.Step.{Step}
use Rattle.stil_reader.specs.Sayings.{Saying, GapByte, Stated, after, named, said, told_by, text_of}
use Rattle.stil_reader.specs.Patterns.{names_in, statements_in, gaps_from, gaps_in, pieces_of, patterns_told, SaysPatterns}

-- what is read: the point that is reached, the names of the Patterns, the statements, the gaps before them, and the first bytes of
-- the gap behind them
pub record Progress : Type 0 where
  pub point : Point
  pub patterns : List (List ℕ)
  pub statements : List PatternStatement
  pub gaps : List (List ℕ)
  pub gap : List ℕ

-- nothing is read
abbrev pub begun : Point → Progress
begun p = record { point = p; patterns = []; statements = []; gaps = []; gap = [] }

-- the name of a Pattern, if one opens
abbrev pub named_one : Option (List ℕ) → List (List ℕ)
named_one None = []
named_one (Some name) = name ∷ []

-- one more piece of these bytes is read, up to a point
abbrev pub with_piece : List ℕ → Piece → Point → Progress → Progress
with_piece text (Gap name) p r = record { point = p; patterns = r.patterns ++ named_one name; statements = r.statements; gaps = r.gaps; gap = r.gap ++ text }
with_piece text (Statement s) p r = record { point = p; patterns = r.patterns; statements = r.statements ++ s ∷ []; gaps = r.gaps ++ r.gap ∷ []; gap = [] }

-- all is read
abbrev pub finished : StilHead → Progress → Judged
finished head r = record { stil = record { head = head; patterns = r.patterns; statements = r.statements }; gaps = r.gaps ++ r.gap ∷ [] }

-- what a piece says
abbrev pub piece_says : List ℕ → Piece → List Saying
piece_says text (Gap name) = map GapByte text ++ named name
piece_says text (Statement s) = Stated s ∷ []

-- a statement has these bytes, its calls are accepted, and the statements in its block stand in it
pub record IsStatement (judging : Judging) (head : StilHead) (text : List ℕ) (s : PatternStatement) : Type 0 where
  pub text_is : text_of s ≡ text
  pub accepted : AreAcceptedBy judging head s
  pub placed : IsPlaced s

-- the same of a piece
abbrev pub IsPiece : Judging → StilHead → List ℕ → Piece → Type 0
IsPiece judging head text (Gap name) = Unit {0}
IsPiece judging head text (Statement s) = IsStatement judging head text s

-- a part has no fault that counts, and is this piece
pub record IsRead (judging : Judging) (head : StilHead) (p : Point) (part : Part) (text : List ℕ) (piece : Piece) : Type 0 where
  pub sound : judge_by judging head p part text ≡ None
  pub is_piece : IsPiece judging head text piece
  pub says : flat_map (said head) (part_events p part text) ≡ piece_says text piece

-- the first bytes at a point are a piece, and what they say comes first
pub record Steps (judging : Judging) (head : StilHead) (p : Point) (rest : List ℕ) (step : Step) : Type 0 where
  pub some : 0 < step.len
  pub within : step.len ≤ length rest
  pub early : IsEarly step.point
  pub is_piece : IsPiece judging head (take step.len rest) step.piece
  pub comes : told_by judging head p rest ≡ after (piece_says (take step.len rest) step.piece) (told_by judging head step.point (drop step.len rest))

-- nothing is left, and nothing is wrong
pub record IsDone (judging : Judging) (head : StilHead) (p : Point) (rest : List ℕ) : Type 0 where
  pub nothing_left : rest ≡ []
  pub comes : told_by judging head p rest ≡ record { says = []; fault = None }

-- the next step, or the end
abbrev pub IsNext : Judging → StilHead → Point → List ℕ → Option Step → Type 0
IsNext judging head p rest None = IsDone judging head p rest
IsNext judging head p rest (Some step) = Steps judging head p rest step

-- what is read of a text up to some rest: with what the rest says it is all that the text says behind the head
pub record IsSoFar (judging : Judging) (head : StilHead) (bytes : List ℕ) (r : Progress) (rest : List ℕ) : Type 0 where
  pub early : IsEarly r.point
  pub within : length rest ≤ length bytes
  pub fault : (patterns_told judging head bytes).fault ≡ (told_by judging head r.point rest).fault
  pub patterns : names_in (patterns_told judging head bytes).says ≡ r.patterns ++ names_in (told_by judging head r.point rest).says
  pub statements : statements_in (patterns_told judging head bytes).says ≡ r.statements ++ statements_in (told_by judging head r.point rest).says
  pub gaps : gaps_in (patterns_told judging head bytes).says ≡ r.gaps ++ gaps_from r.gap (told_by judging head r.point rest).says
  pub count : length r.gaps ≡ length r.statements
  pub pieces : pieces_of (r.gaps ++ (r.gap ++ rest) ∷ []) r.statements ≡ drop head.end bytes
  pub accepted : All (AreAcceptedBy judging head) r.statements
  pub placed : All IsPlaced r.statements

-- all that stands behind a head is read
pub record IsReadBy (judging : Judging) (bytes : List ℕ) (head : StilHead) (judged : Judged) : Type 0 where
  pub says : SaysPatterns judging bytes head judged.stil
  pub gaps : judged.gaps ≡ gaps_in (patterns_told judging head bytes).says
  pub count : length judged.gaps ≡ length judged.stil.statements + 1
  pub pieces : pieces_of judged.gaps judged.stil.statements ≡ drop head.end bytes
  pub accepted : All (AreAcceptedBy judging head) judged.stil.statements
  pub placed : All IsPlaced judged.stil.statements
