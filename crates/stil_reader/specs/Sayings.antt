-- What a STIL text says beside a head, in order: the head where it is still to come, the bytes that belong to no statement, the
-- names of the Patterns that open, the statements; and then the fault, if there is one.
use Rattle.std.specs.Prelude.{ℕ, ◌-◌, Bool, true, false, List, [], ◌∷◌, ◌++◌, take, drop, Option, Some, None}
use Rattle.std.specs.List.{flat_map}
use Rattle.base_types.specs.declared.kind.Kind.TheVariants.{FileSize}
use Rattle.stil_tokens.specs.StilTokens.{tokens_in}
use Rattle.stil_types.specs.declared.head.StilHead.{StilHead}
use Rattle.stil_types.specs.declared.statement.PatternStatement.{PatternStatement}
use Rattle.stil_types.specs.declared.statement.PatternStatement.TheVariants as statements
use Rattle.stil_parts.specs.declared.gap.Place.TheVariants.{Top}
use Rattle.stil_parts.specs.declared.gap.Comment.TheVariants.{Outside}
use Rattle.stil_parts.specs.declared.gap.Point.{Point}
use Rattle.stil_parts.specs.declared.part.Part.{Part}
use Rattle.stil_parts.specs.declared.part.Part.TheVariants.{Passes, Opens, Whole}
use Rattle.stil_parts.specs.declared.part.PartFault.{PartFault}
use Rattle.stil_parts.specs.Coming.{Event, Byte, Opened, Statement, Coming, fault_at, moved, to_come}
use Rattle.stil_parts.specs.Heads.{head_len}
use Rattle.stil_syntax.specs.Shapes.{shape_of}
use Rattle.stil_calls.specs.Statements.{statement_of}
use Rattle.stil_calls.specs.declared.judging.Judging.{Judging}
use Rattle.stil_calls.specs.declared.judging.Judging.TheVariants.{Lengths}
use Rattle.stil_calls.specs.Parts.{opened_in, judge_by}

-- the beginning of a text
abbrev pub beginning : Point
beginning = record { given = 0; line = 1; opened = 0; place = Top; comment = Outside }

-- the bytes of a statement
abbrev pub text_of : PatternStatement → List ℕ
text_of (statements.Scan pattern text call line) = text
text_of (statements.Other pattern text) = text
text_of (statements.Loop pattern text times body line) = text

-- the head; a byte that belongs to no statement; a Pattern of this name opens behind the byte before; a statement in a Pattern
pub data Saying : Type 0 where
  Head : List ℕ → Saying
  GapByte : ℕ → Saying
  Named : List ℕ → Saying
  Stated : PatternStatement → Saying

-- what a text says, and the fault behind that
pub record Told : Type 0 where
  pub says : List Saying
  pub fault : Option PartFault

-- some sayings, and then what is told
abbrev pub after : List Saying → Told → Told
after says rest = record { says = says ++ rest.says; fault = rest.fault }

-- a fault comes first
abbrev pub refusal : PartFault → Told
refusal f = record { says = []; fault = Some f }

-- the name of the Pattern that a part opens, if it opens one
abbrev pub name_in : Part → List ℕ → Option (List ℕ)
name_in (Passes n) text = None
name_in (Opens n) text = opened_in text
name_in (Whole n) text = None

-- the name of a Pattern that opens, if one does
abbrev pub named : Option (List ℕ) → List Saying
named None = []
named (Some name) = Named name ∷ []

-- a statement, if there is one
abbrev pub stated : Option PatternStatement → List Saying
stated None = []
stated (Some statement) = Stated statement ∷ []

-- the statement that bytes at a point denote beside a head, in the Pattern that opened last
abbrev pub statement_at : StilHead → Point → List ℕ → Option PatternStatement
statement_at head p text = statement_of head (p.opened - 1) p.line text (shape_of head false (tokens_in text))

-- what each part of a text says
abbrev pub said : StilHead → Event → List Saying
said head (Byte b) = GapByte b ∷ []
said head (Opened text p) = named (opened_in text)
said head (Statement text p) = stated (statement_at head p text)

-- the same of all that comes
abbrev pub told : StilHead → Coming → Told
told head c = record { says = flat_map (said head) c.events; fault = c.fault }

-- behind the head, its parts being judged beside it
abbrev pub told_by : Judging → StilHead → Point → List ℕ → Told
told_by judging head p bytes = told head (to_come (judge_by judging head) p 0 bytes)

-- where all kinds of faults count
abbrev pub told_behind : StilHead → Point → List ℕ → Told
told_behind head p bytes = told_by Lengths head p bytes

-- a head of so many bytes and what stands behind it; or no head ends within the limit
abbrev pub told_before : StilHead → Point → List ℕ → Option ℕ → Told
told_before head p bytes None = refusal (fault_at FileSize 0)
told_before head p bytes (Some n) = after (Head (take n bytes) ∷ []) (told_behind head (moved p (take n bytes) Top Outside) (drop n bytes))

-- what the bytes from a point on say, where the head is still to come and where it isn't
abbrev pub told_from : StilHead → Bool → Point → List ℕ → Told
told_from head true p bytes = told_before head p bytes (head_len bytes)
told_from head false p bytes = told_behind head p bytes

-- what a whole text says
abbrev pub told_whole : StilHead → List ℕ → Told
told_whole head text = told_from head true beginning text
