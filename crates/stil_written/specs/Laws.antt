-- Laws of the definitions, which know nothing of the code.
use Rattle.std.specs.Prelude.{◌≡◌, ◌⊎◌, ℕ, Bool, true, List, [], ◌∷◌, ◌++◌, map, take, drop, Option, Some, None}
use Rattle.std.specs.List.{AllByRecursion as Each}
use Rattle.token_forms.specs.Tokens.{Token}
use Rattle.stil_types.specs.declared.head.ScanChainDecl.{ScanChainDecl}
use Rattle.stil_types.specs.declared.head.StilHead.{StilHead}
use Rattle.stil_types.specs.declared.statement.PatternStatement.{PatternStatement}
use Rattle.stil_types.specs.declared.statement.PatternStatement.TheVariants.{Other}
use Rattle.stil_parts.specs.declared.gap.Comment.TheVariants.{Outside}
use Rattle.stil_parts.specs.declared.gap.Place.TheVariants.{Top}
use Rattle.stil_parts.specs.declared.gap.Point.{Point}
use Rattle.stil_parts.specs.declared.head.HeadTurn.TheVariants.{Here}
use Rattle.stil_parts.specs.declared.part.PartFault.{PartFault}
use Rattle.stil_parts.specs.Coming.{Judge, to_come}
use Rattle.stil_parts.specs.Heads.{head_turn, head_end}
use Rattle.stil_syntax.specs.Shapes.{shape_of}
use Rattle.stil_calls.specs.declared.judging.Judging.{Judging}
use Rattle.stil_reader.specs.Sayings.{Saying, Head, GapByte, Stated, Told, after, refusal, named, text_of}
use Rattle.stil_reader.specs.Patterns.{statements_in}
use Rattle.stil_tester.specs.declared.chains.Chains.{Chains}
use Rattle.stil_tester.specs.Meaning.{AreAlike, StatementsShowSame, RunAlike}
use Rattle.stil_written.specs.Readings.{reading}
use Rattle.stil_written.specs.Unbounded.{comes, IsSizeFault, says_free}
use Rattle.stil_written.specs.Written.{Form, written_says, IsWrittenTo, with_chains, IsStated, IsRewritten, AreTogether, SaysSame}

-- what comes of a text is what comes of it whatever its size, or a fault of size comes in its place
abbrev pub SizeLaw : Type 0
SizeLaw = (judge : Judge) (p : Point) (inside : ℕ) (bs : List ℕ) → (to_come judge p inside bs ≡ comes judge p inside bs) ⊎ IsSizeFault (to_come judge p inside bs).fault

-- a statement and the one that is read in its place: alike, and from whatever cells their calls show the same
pub record IsKept (old new : Chains) (s t : PatternStatement) : Type 0 where
  pub alike : AreAlike reading s t
  pub shows : StatementsShowSame old new s t

-- what is told has no fault, the same names, and statements that run alike on other chains
pub record HasMeaning (old new : Chains) (says : List Saying) (told : Told) : Type 0 where
  pub same : SaysSame (IsKept old new) says told
  pub run : RunAlike reading (record { chains = old; statements = statements_in says }) (record { chains = new; statements = statements_in told.says })

-- a text without fault, each statement of which is written so that it reads beside another head as one that is kept on other chains,
-- is read so whole: without fault, with the same names, and running alike on both chains, whatever its size
abbrev pub WholeLaw : Type 0
WholeLaw = (form : Form) (judging : Judging) (head other : StilHead) (old new : Chains) (p q : Point) (bytes : List ℕ)
    → AreTogether p q → (says_free judging head p bytes).fault ≡ None → old.cells ≡ new.cells
    → Each (λ s. IsStated judging head s → IsRewritten judging other (IsKept old new) s (form.statement s)) (statements_in (says_free judging head p bytes).says)
    → HasMeaning old new (says_free judging head p bytes).says (says_free judging other q (written_says form (says_free judging head p bytes).says))

-- what is written piece by piece is a prefix of the written form at any stop, and all of it at the end and at a fault
pub record PiecesLaw : Type 0 where
  pub begins : (form : Form) (whole : Told) → IsWrittenTo form whole [] whole
  pub goes : (form : Form) (whole rest : Told) (done : List ℕ) (says : List Saying) → IsWrittenTo form whole done (after says rest) → IsWrittenTo form whole (done ++ written_says form says) rest
  pub prefix : (form : Form) (whole rest : Told) (done : List ℕ) → IsWrittenTo form whole done rest → (more : List ℕ) × (written_says form whole.says ≡ done ++ more)
  pub ends : (form : Form) (whole : Told) (done : List ℕ) → IsWrittenTo form whole done (record { says = []; fault = None }) → (done ≡ written_says form whole.says) × (whole.fault ≡ None)
  pub stops : (form : Form) (whole : Told) (done : List ℕ) (f : PartFault) → IsWrittenTo form whole done (refusal f) → (done ≡ written_says form whole.says) × (whole.fault ≡ Some f)
  pub gap : (form : Form) (text : List ℕ) (name : Option (List ℕ)) → written_says form (map GapByte text ++ named name) ≡ text
  pub statement : (form : Form) (s : PatternStatement) → written_says form (Stated s ∷ []) ≡ form.statement s
  pub head : (form : Form) (text : List ℕ) → written_says form (Head text ∷ []) ≡ form.head text

-- a statement that isn't a scan call or a Loop may stand as it was, whatever the chains are
abbrev pub OtherLaw : Type 0
OtherLaw = (judging : Judging) (head : StilHead) (chains : List ScanChainDecl) (marks : Bool) (end : ℕ) (old new : Chains) (pattern : ℕ) (text : List ℕ)
    → IsStated judging head (Other pattern text) → IsRewritten judging (with_chains head chains marks end) (IsKept old new) (Other pattern text) text

-- a statement has the same form beside a head with other chains
abbrev pub ShapeLaw : Type 0
ShapeLaw = (head : StilHead) (chains : List ScanChainDecl) (marks : Bool) (end : ℕ) (inside : Bool) (ts : List Token) → shape_of (with_chains head chains marks end) inside ts ≡ shape_of head inside ts

-- nothing, or a Pattern: what stands where a head ends
abbrev pub IsFront : List ℕ → Type 0
IsFront bytes = (bytes ≡ []) ⊎ (head_turn true Outside bytes ≡ Some Here)

-- what is written behind a head begins as it did, as far as the head's end looks, where each statement keeps its first two bytes
abbrev pub FrontLaw : Type 0
FrontLaw = (form : Form) (judging : Judging) (head : StilHead) (p : Point) (rest : List ℕ) → p.place ≡ Top → p.comment ≡ Outside → (says_free judging head p rest).fault ≡ None
    → Each (λ s. IsStated judging head s → take 2 (text_of s) ≡ take 2 (form.statement s)) (statements_in (says_free judging head p rest).says)
    → IsFront rest → IsFront (written_says form (says_free judging head p rest).says)

-- so stands what is read there
abbrev pub HeadFrontLaw : Type 0
HeadFrontLaw = (bytes : List ℕ) (n : ℕ) → head_end true Outside 0 bytes ≡ Some n → IsFront (drop n bytes)
