-- Where the head of a text ends: at the first statement at the top whose word is Pattern. Labels, names with a colon
-- behind them, may stand before the word. The same by the tokens of the text stands in ByTokens.
use Rattle.std.specs.Prelude.{◌≡◌, ℕ, zero, suc, ◌+◌, ◌-◌, Bool, true, false, nat_lt, if◌then◌else◌, List, [], ◌∷◌, ◌++◌, length, take, Option, Some, None}
use Rattle.stil_parts.specs.declared.gap.Place.TheVariants.{Top}
use Rattle.stil_parts.specs.declared.gap.Comment.{Comment}
use Rattle.stil_parts.specs.declared.gap.Comment.TheVariants.{Outside}
use Rattle.stil_parts.specs.declared.scan.Found.{Found}
use Rattle.stil_parts.specs.declared.word.Word.TheVariants.{Start, Known}
use Rattle.stil_parts.specs.declared.scan.Scan.{Scan}
use Rattle.stil_parts.specs.declared.scan.After.TheVariants.{Goes, Ends, Opens}
use Rattle.stil_parts.specs.Words.{word_settled, word_shown}
use Rattle.stil_parts.specs.declared.head.HeadTurn.{HeadTurn}
use Rattle.stil_parts.specs.declared.head.HeadTurn.TheVariants.{Passed, Here}
use Rattle.stil_parts.specs.Scanner.{step, end_of}
use Rattle.stil_parts.specs.Parts.{begin}
use Rattle.stil_parts.specs.Gaps.{gap_at}
use Rattle.stil_parts.specs.Coming.{largest}

-- whether a part's word is Pattern, where the bytes show it: what ends the part settles it
unfoldable pub word_of : Bool → Scan → List ℕ → Option Bool
word_of last s [] = word_shown last s.word
word_of last s (b ∷ bs) = elim (word_shown false s.word) [
  | Some is ↦ Some is
  | None ↦ elim (step s b) [ Goes t ↦ word_of last t bs | Ends ↦ word_shown true (word_settled s.word) | Opens ↦ Some true ]
]

-- behind what is known of the word, and the end of the statement
abbrev pub statement_turn : Option Bool → Option Found → Option HeadTurn
statement_turn None e = None
statement_turn (Some true) e = Some Here
statement_turn (Some false) None = None
statement_turn (Some false) (Some f) = Some (Passed f.len Outside)

-- the front of a head: a gap; the first Pattern; another statement that is whole; or nothing that is shown
unfoldable pub head_turn : Bool → Comment → List ℕ → Option HeadTurn
head_turn last comment bs =
    let g = gap_at Top comment bs in
    if nat_lt 0 g.len then Some (Passed g.len g.comment) else statement_turn (word_of last (begin Start) bs) (end_of last (begin (Known false)) bs)

-- where the head ends: behind so many bytes, where the bytes show it; last tells whether the text goes no further
unfoldable pub head_end : Bool → Comment → ℕ → List ℕ → Option ℕ
head_end last comment inside [] = if last then Some 0 else None
head_end last comment (suc inside) (b ∷ bs) = elim (head_end last comment inside bs) [ None ↦ None | Some n ↦ Some (1 + n) ]
head_end last comment zero (b ∷ bs) = elim (head_turn last comment (b ∷ bs)) [
  | None ↦ if last then Some (length (b ∷ bs)) else None
  | Some turn ↦ elim turn [ Here ↦ Some 0 | Passed n c ↦ elim (head_end last c (n - 1) bs) [ None ↦ None | Some m ↦ Some (1 + m) ] ]
]

-- the head is to end within its limit, shown without the text's end where the text is longer
abbrev pub head_len : List ℕ → Option ℕ
head_len text = if nat_lt largest (length text) then head_end false Outside 0 (take largest text) else head_end true Outside 0 text

-- what the bytes show of a head's end doesn't change with bytes that follow
abbrev pub HeadLaw : Type 0
HeadLaw = (last : Bool) (comment : Comment) (inside n : ℕ) (x y : List ℕ) → head_end false comment inside x ≡ Some n → head_end last comment inside (x ++ y) ≡ Some n
