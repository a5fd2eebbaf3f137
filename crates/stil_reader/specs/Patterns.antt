-- What the patterns of a STIL text are beside its head (IEEE 1450-1999, Pattern), from what the text says behind it.
use Rattle.std.specs.Prelude.{◌≡◌, ℕ, ◌+◌, List, [], ◌∷◌, ◌++◌, length, take, drop, None}
use Rattle.base_types.specs.declared.fault.Fault.{Fault}
use Rattle.stil_types.specs.declared.head.StilHead.{StilHead}
use Rattle.stil_types.specs.declared.statement.PatternStatement.{PatternStatement}
use Rattle.stil_parts.specs.declared.gap.Place.TheVariants.{Top}
use Rattle.stil_parts.specs.declared.gap.Comment.TheVariants.{Outside}
use Rattle.stil_parts.specs.declared.gap.Point.{Point}
use Rattle.stil_parts.specs.Coming.{moved}
use Rattle.stil_calls.specs.declared.judging.Judging.{Judging}
use Rattle.stil_calls.specs.declared.judging.Judging.TheVariants.{Form, Lengths}
use Rattle.stil_calls.specs.Statements.{IsFaultOf}
use Rattle.stil_head.specs.Heads.{DenotesHead}
use Rattle.stil_head.specs.Faults.{HoldsInHead}
use Rattle.stil_reader.specs.declared.stil.Stil.{Stil}
use Rattle.stil_reader.specs.declared.stil.Judged.{Judged}
use Rattle.stil_reader.specs.Sayings.{Saying, Head, GapByte, Named, Stated, Told, beginning, told_by, text_of}

-- the names of the Patterns that open
abbrev pub names_in : List Saying → List (List ℕ)
names_in [] = []
names_in (Head text ∷ says) = names_in says
names_in (GapByte b ∷ says) = names_in says
names_in (Named name ∷ says) = name ∷ names_in says
names_in (Stated statement ∷ says) = names_in says

-- the statements
abbrev pub statements_in : List Saying → List PatternStatement
statements_in [] = []
statements_in (Head text ∷ says) = statements_in says
statements_in (GapByte b ∷ says) = statements_in says
statements_in (Named name ∷ says) = statements_in says
statements_in (Stated statement ∷ says) = statement ∷ statements_in says

-- the bytes before the first statement, between two, and behind the last; the first of these begin with some bytes
abbrev pub gaps_from : List ℕ → List Saying → List (List ℕ)
gaps_from gap [] = gap ∷ []
gaps_from gap (Head text ∷ says) = gaps_from gap says
gaps_from gap (GapByte b ∷ says) = gaps_from (gap ++ b ∷ []) says
gaps_from gap (Named name ∷ says) = gaps_from gap says
gaps_from gap (Stated statement ∷ says) = gap ∷ gaps_from [] says

-- the bytes before the first statement, between two, and behind the last
abbrev pub gaps_in : List Saying → List (List ℕ)
gaps_in says = gaps_from [] says

-- the first gap, the bytes of the first statement, the second gap and so on
abbrev pub pieces_of : List (List ℕ) → List PatternStatement → List ℕ
pieces_of [] statements = []
pieces_of (gap ∷ gaps) [] = gap
pieces_of (gap ∷ gaps) (statement ∷ statements) = gap ++ (text_of statement ++ pieces_of gaps statements)

-- the point behind a head
abbrev pub behind_head : StilHead → List ℕ → Point
behind_head head bytes = moved beginning (take head.end bytes) Top Outside

-- what a text says behind a head
abbrev pub patterns_told : Judging → StilHead → List ℕ → Told
patterns_told judging head bytes = told_by judging head (behind_head head bytes) (drop head.end bytes)

-- a text has no fault behind a head that counts, and says this there
pub record SaysPatterns (judging : Judging) (bytes : List ℕ) (head : StilHead) (stil : Stil) : Type 0 where
  pub head_is : stil.head ≡ head
  pub sound : (patterns_told judging head bytes).fault ≡ None
  pub patterns : stil.patterns ≡ names_in (patterns_told judging head bytes).says
  pub statements : stil.statements ≡ statements_in (patterns_told judging head bytes).says

-- a text denotes a head and its patterns; loads may be short and compares long
pub record DenotesStil (bytes : List ℕ) (stil : Stil) : Type 0 where
  pub head : DenotesHead bytes stil.head
  pub says : SaysPatterns Form bytes stil.head stil

-- beside a head a text has these patterns, with these gaps between the statements; all kinds of faults count
pub record IsJudged (bytes : List ℕ) (head : StilHead) (judged : Judged) : Type 0 where
  pub says : SaysPatterns Lengths bytes head judged.stil
  pub gaps : judged.gaps ≡ gaps_in (patterns_told Lengths head bytes).says

-- the head's bytes, the gaps and the statements make up the text; there is one gap more than statements
pub record MakesUp (bytes : List ℕ) (head : StilHead) (judged : Judged) : Type 0 where
  pub count : length judged.gaps ≡ length judged.stil.statements + 1
  pub whole : take head.end bytes ++ pieces_of judged.gaps judged.stil.statements ≡ bytes

-- the first fault behind a head that counts
abbrev pub HoldsBehind : Judging → List ℕ → StilHead → Fault → Type 0
HoldsBehind judging bytes head fault = IsFaultOf (patterns_told judging head bytes).fault fault

-- what may be wrong with a STIL text; loads may be short and compares long
pub data HoldsInStil (bytes : List ℕ) (fault : Fault) : Type 0 where
  InHead : HoldsInHead bytes fault → HoldsInStil bytes fault
  InPatterns : (head : StilHead) → DenotesHead bytes head → HoldsBehind Form bytes head fault → HoldsInStil bytes fault
