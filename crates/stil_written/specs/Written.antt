-- The written form of what a text says: all bytes that belong to no statement as they are, and for each statement a text of its
-- own, which reads as it should.
use Rattle.std.specs.Prelude.{◌≡◌, ⊤, ℕ, Bool, false, List, [], ◌∷◌, ◌++◌, length, take, Some, None}
use Rattle.std.specs.List.{flat_map}
use Rattle.stil_tokens.specs.StilTokens.{tokens_in}
use Rattle.stil_types.specs.declared.head.ScanChainDecl.{ScanChainDecl}
use Rattle.stil_types.specs.declared.head.StilHead.{StilHead}
use Rattle.stil_types.specs.declared.statement.PatternStatement.{PatternStatement}
use Rattle.stil_types.specs.declared.statement.PatternStatement.TheVariants as statements
use Rattle.stil_parts.specs.declared.gap.Place.{Place}
use Rattle.stil_parts.specs.declared.gap.Place.TheVariants.{Top, Pattern}
use Rattle.stil_parts.specs.declared.gap.Point.{Point}
use Rattle.stil_parts.specs.declared.word.Word.TheVariants.{Known}
use Rattle.stil_parts.specs.declared.scan.Found.{Found}
use Rattle.stil_parts.specs.Scanner.{end_of}
use Rattle.stil_parts.specs.Parts.{begin}
use Rattle.stil_syntax.specs.Shapes.{shape_of}
use Rattle.stil_calls.specs.declared.judging.Judging.{Judging}
use Rattle.stil_calls.specs.Faults.{fault_by}
use Rattle.stil_calls.specs.Statements.{statement_of}
use Rattle.stil_reader.specs.Sayings.{Saying, Head, GapByte, Named, Stated, Told, text_of}
use Rattle.stil_reader.specs.Patterns.{names_in, statements_in}

-- how a head and each statement are written
pub record Form : Type 0 where
  pub head : List ℕ → List ℕ
  pub statement : PatternStatement → List ℕ

-- what stands for a saying; the name of a Pattern stands in the bytes before it
abbrev pub written_saying : Form → Saying → List ℕ
written_saying form (Head text) = form.head text
written_saying form (GapByte b) = b ∷ []
written_saying form (Named name) = []
written_saying form (Stated statement) = form.statement statement

-- what stands for sayings, one behind the other
abbrev pub written_says : Form → List Saying → List ℕ
written_says form says = flat_map (written_saying form) says

-- so much is written of what a whole text says, and this is still to come of it
pub record IsWrittenTo (form : Form) (whole : Told) (done : List ℕ) (rest : Told) : Type 0 where
  pub same : written_says form whole.says ≡ done ++ written_says form rest.says
  pub fault : whole.fault ≡ rest.fault

-- the number of the Pattern that a statement stands in
abbrev pub pattern_of : PatternStatement → ℕ
pattern_of (statements.Scan pattern text call line) = pattern
pattern_of (statements.Other pattern text) = pattern
pattern_of (statements.Loop pattern text times body line) = pattern

-- a head with other declarations of chains: what its patterns mean by themselves is the same
abbrev pub with_chains : StilHead → List ScanChainDecl → Bool → ℕ → StilHead
with_chains head chains marks end = record { chains = chains; procedures = head.procedures; macros = head.macros; keywords = head.keywords; marks = marks; end = end }

-- at each place of both lists stand two statements that belong together
abbrev pub AllPairs : (PatternStatement → PatternStatement → Type 0) → List PatternStatement → List PatternStatement → Type 0
AllPairs R [] [] = ⊤
AllPairs R [] (t ∷ ts) = ⊥
AllPairs R (s ∷ ss) [] = ⊥
AllPairs R (s ∷ ss) (t ∷ ts) = R s t × AllPairs R ss ts

-- beside a head bytes have no fault that counts, and are a statement that belongs to this one, in the same Pattern
pub record ReadsAs (judging : Judging) (head : StilHead) (R : PatternStatement → PatternStatement → Type 0) (s : PatternStatement) (line : ℕ) (new : List ℕ) : Type 0 where
  pub sound : fault_by judging head line new ≡ None
  pub statement : PatternStatement
  pub is : statement_of head (pattern_of s) line new (shape_of head false (tokens_in new)) ≡ Some statement
  pub pairs : R s statement

-- bytes are a statement of a Pattern from the first to the last of them
pub record IsWhole (text : List ℕ) : Type 0 where
  pub end : Found
  pub ends : end_of false (begin (Known false)) text ≡ Some end
  pub whole : end.len ≡ length text

-- a statement is what its bytes denote at some line, and they have no fault that counts
pub record IsStated (judging : Judging) (head : StilHead) (s : PatternStatement) : Type 0 where
  pub whole : IsWhole (text_of s)
  pub line : ℕ
  pub sound : fault_by judging head line (text_of s) ≡ None
  pub is : statement_of head (pattern_of s) line (text_of s) (shape_of head false (tokens_in (text_of s))) ≡ Some s

-- bytes may stand for a statement: they begin as it does, end where a statement does, and are read as one that belongs to it
pub record IsRewritten (judging : Judging) (head : StilHead) (R : PatternStatement → PatternStatement → Type 0) (s : PatternStatement) (new : List ℕ) : Type 0 where
  pub begins : take 2 (text_of s) ≡ take 2 new
  pub whole : IsWhole new
  pub reads : (line : ℕ) → ReadsAs judging head R s line new

-- two places: both at the top, or both in a Pattern
abbrev pub SamePlace : Place → Place → Type 0
SamePlace Top Top = ⊤
SamePlace Top (Pattern line) = ⊥
SamePlace (Pattern line) Top = ⊥
SamePlace (Pattern line) (Pattern other) = ⊤

-- points at the same place of the form, whatever their bytes and lines
pub record AreTogether (p q : Point) : Type 0 where
  pub opened : q.opened ≡ p.opened
  pub place : SamePlace p.place q.place
  pub comment : q.comment ≡ p.comment

-- what is told has no fault, the same names, and statements that belong to those that were said
pub record SaysSame (R : PatternStatement → PatternStatement → Type 0) (says : List Saying) (told : Told) : Type 0 where
  pub sound : told.fault ≡ None
  pub names : names_in told.says ≡ names_in says
  pub statements : AllPairs R (statements_in says) (statements_in told.says)
