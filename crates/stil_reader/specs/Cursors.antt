-- The patterns of a text that are still to be taken, one item after the other.
use Rattle.std.specs.Prelude.{◌≡◌, ℕ, ◌<◌, ◌≤◌, ◌^◌, List, [], ◌∷◌, length, Option, Some, None}
use Rattle.base_types.specs.declared.fault.Fault.{Fault}
use Rattle.stil_types.specs.declared.head.StilHead.{StilHead}
use Rattle.stil_types.specs.declared.statement.PatternStatement.{PatternStatement}
use Rattle.stil_types.specs.Statements.{IsPlaced}
use Rattle.stil_parts.specs.declared.gap.Point.{Point}
use Rattle.stil_parts.specs.declared.part.PartFault.{PartFault}
use Rattle.stil_parts.specs.Coming.{IsEarly}
use Rattle.stil_calls.specs.declared.judging.Judging.TheVariants.{Lengths}
use Rattle.stil_calls.specs.Statements.{AreAccepted, IsFaultOf}
use Rattle.stil_reader.specs.declared.cursor.PatternItem.{PatternItem}
use Rattle.stil_reader.specs.declared.cursor.PatternItem.TheVariants.{Named, Stated}
use Rattle.stil_reader.specs.declared.cursor.Taken.{Taken}
use Rattle.stil_reader.specs.declared.step.Piece.{Piece}
use Rattle.stil_reader.specs.declared.step.Piece.TheVariants.{Gap, Statement}
use Rattle.stil_reader.specs.Sayings.{Told, told_behind, text_of}
use Rattle.stil_reader.specs.Patterns.{names_in, statements_in, patterns_told}

-- what is left beside a head: the names of the Patterns that open, the statements, and the fault behind these
pub record Ahead : Type 0 where
  pub head : StilHead
  pub names : List (List ℕ)
  pub statements : List PatternStatement
  pub fault : Option PartFault

-- what is told is left
abbrev pub ahead_by : StilHead → Told → Ahead
ahead_by head told = record { head = head; names = names_in told.says; statements = statements_in told.says; fault = told.fault }

-- what the bytes at a point say
abbrev pub ahead_from : StilHead → Point → List ℕ → Ahead
ahead_from head p bytes = ahead_by head (told_behind head p bytes)

-- what a text says behind its head
abbrev pub ahead_of : StilHead → List ℕ → Ahead
ahead_of head bytes = ahead_by head (patterns_told Lengths head bytes)

-- an item, and then what is left
abbrev pub with_item : PatternItem → Ahead → Ahead
with_item (Named name) rest = record rest { names = name ∷ rest.names }
with_item (Stated statement) rest = record rest { statements = statement ∷ rest.statements }

-- no item is left
pub record HasNothing (ahead : Ahead) : Type 0 where
  pub no_names : ahead.names ≡ []
  pub no_statements : ahead.statements ≡ []

-- nothing is left, and nothing is wrong
pub record IsAtEnd (ahead : Ahead) : Type 0 where
  pub nothing : HasNothing ahead
  pub sound : ahead.fault ≡ None

-- nothing is left but this fault
pub record IsAtFault (ahead : Ahead) (fault : Fault) : Type 0 where
  pub nothing : HasNothing ahead
  pub found : IsFaultOf ahead.fault fault

-- the first item is taken, and the others are left; or there is none
abbrev pub Takes : Ahead → Option PatternItem → Ahead → Type 0
Takes old None new = IsAtEnd old × (new ≡ old)
Takes old (Some item) new = old ≡ with_item item new

-- the calls of a statement are accepted beside the head, those in its block stand in it, and its text is of less than 4 GiB
pub record IsReadable (head : StilHead) (statement : PatternStatement) : Type 0 where
  pub accepted : AreAccepted head statement
  pub placed : IsPlaced statement
  pub small : length (text_of statement) < 2 ^ 32

-- so is a statement that is taken
abbrev pub IsReadableItem : StilHead → Option PatternItem → Type 0
IsReadableItem head None = Unit {0}
IsReadableItem head (Some (Named name)) = Unit {0}
IsReadableItem head (Some (Stated statement)) = IsReadable head statement

-- the item that a piece is, if it is one
abbrev pub item_of : Piece → Option PatternItem
item_of (Gap None) = None
item_of (Gap (Some name)) = Some (Named name)
item_of (Statement s) = Some (Stated s)

-- the bytes at a later point leave what those at a point do
pub record Leaves (head : StilHead) (p : Point) (rest : List ℕ) (q : Point) (left : List ℕ) : Type 0 where
  pub early : IsEarly q
  pub within : length left ≤ length rest
  pub same : ahead_from head p rest ≡ ahead_from head q left

-- an item comes first of what the bytes at a point say; behind it stand these bytes
pub record ComesFirst (head : StilHead) (ahead : Ahead) (taken : Taken) : Type 0 where
  pub is : ahead ≡ with_item taken.item (ahead_from head taken.point taken.rest.now)
  pub readable : IsReadableItem head (Some taken.item)
  pub early : IsEarly taken.point
  pub within : length taken.rest.now < 2 ^ 32

-- the first item, or the end
abbrev pub IsFirst : StilHead → Ahead → Option Taken → Type 0
IsFirst head ahead None = IsAtEnd ahead
IsFirst head ahead (Some taken) = ComesFirst head ahead taken
