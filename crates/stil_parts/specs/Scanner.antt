-- Where a statement of a STIL text ends (IEEE 1450-1999, clause 6), read byte by byte: what a byte makes of what was read
-- before it doesn't hang on the bytes behind it.
use Rattle.std.specs.Prelude.{◌≡◌, ℕ, ◌+◌, ◌-◌, ◌≤◌, Bool, true, false, ◌&&◌, ◌==◌, if◌then◌else◌, List, [], ◌∷◌, length, drop, Option, Some, None}
use Rattle.stil_tokens.specs.StilTokens.{is_blank, is_quote, other_mark}
use Rattle.stil_parts.specs.declared.word.Word.{Word}
use Rattle.stil_parts.specs.Words.{word_byte, word_ends, word_settled, quote_word, mark_word, names_pattern}
use Rattle.stil_parts.specs.declared.scan.Mode.{Mode}
use Rattle.stil_parts.specs.declared.scan.Mode.TheVariants.{Free, Run, Slash, Quoted, Line, Block, Brace, Note}
use Rattle.stil_parts.specs.declared.scan.Scan.{Scan}
use Rattle.stil_parts.specs.declared.scan.After.{After}
use Rattle.stil_parts.specs.declared.scan.After.TheVariants.{Goes, Ends, Opens}
use Rattle.stil_parts.specs.declared.scan.Found.{Found}
use Rattle.stil_parts.specs.declared.scan.Scanned.{Scanned}
use Rattle.stil_parts.specs.declared.scan.Scanned.TheVariants as scanned

-- the part goes on
abbrev pub goes : Mode → ℕ → Word → After
goes mode depth word = Goes (record { mode = mode; depth = depth; word = word })

-- a byte that is no blank and no quote, in a run or where a token may begin
unfoldable pub mark_step : Word → ℕ → ℕ → After
mark_step word depth b =
    if b == 59 then (if depth == 0 then Ends else goes Free depth (word_settled word))
    else (if b == 125 then (if depth == 1 then Ends else goes Free (depth - 1) (word_settled word))
    else (if b == 123 then goes Brace depth (word_settled word)
    else (if other_mark b then goes Free depth (mark_word b word)
    else goes Run depth (word_byte b word))))

-- a byte in a run
unfoldable pub run_step : Word → ℕ → ℕ → After
run_step word depth b =
    if is_blank b then goes Free depth (word_ends word)
    else (if is_quote b then goes (Quoted b) depth (quote_word b word)
    else mark_step word depth b)

-- a byte where a token may begin
unfoldable pub free_step : Word → ℕ → ℕ → After
free_step word depth b = if b == 47 then goes Slash depth word else run_step word depth b

-- behind a brace a block opens, or at the top a Pattern
abbrev pub block_step : Word → ℕ → ℕ → After
block_step word depth b = if names_pattern word && depth == 0 then Opens else free_step word (depth + 1) b

-- inside a token or a comment, which the byte ends or not
abbrev pub inside : Bool → Mode → Word → ℕ → After
inside ends mode word depth = if ends then goes Free depth word else goes mode depth word

-- what a byte makes of what was read, by the mode
unfoldable pub mode_step : Mode → Word → ℕ → ℕ → After
mode_step Free word depth b = free_step word depth b
mode_step Run word depth b = run_step word depth b
mode_step Slash word depth b =
    if b == 47 then goes Line depth (word_ends word)
    else (if b == 42 then goes (Block false) depth (word_ends word)
    else run_step (word_byte 47 word) depth b)
mode_step (Quoted quote) word depth b = inside (b == quote) (Quoted quote) word depth
mode_step Line word depth b = inside (b == 10) Line word depth
mode_step (Block star) word depth b = inside (star && b == 47) (Block (b == 42)) word depth
mode_step Brace word depth b = if b == 42 then goes (Note false) depth word else block_step word depth b
mode_step (Note star) word depth b =
    if star && b == 125 then (if depth == 0 then Ends else goes Free depth word) else goes (Note (b == 42)) depth word

-- what a byte makes of what was read before it: it goes on, the byte ends the part, or the brace before the byte opened a
-- Pattern
unfoldable pub step : Scan → ℕ → After
step s b = mode_step s.mode s.word s.depth b

-- a brace came last
abbrev pub is_brace : Mode → Bool
is_brace Free = false
is_brace Run = false
is_brace Slash = false
is_brace (Quoted quote) = false
is_brace Line = false
is_brace (Block star) = false
is_brace Brace = true
is_brace (Note star) = false

-- a Pattern opens where the text ends
abbrev pub at_brace : Scan → Bool
at_brace s = (names_pattern s.word && s.depth == 0) && is_brace s.mode

-- an end behind so many bytes, or a Pattern that opens there
abbrev pub found : ℕ → Bool → Found
found len opens = record { len = len; opens = opens }

-- what was found so many bytes later
abbrev pub later : ℕ → Option Found → Option Found
later n None = None
later n (Some f) = Some (found (n + f.len) f.opens)

-- the bytes up to and with the first end, or up to and with the brace that opens a Pattern; last tells whether the text goes
-- no further
unfoldable pub end_of : Bool → Scan → List ℕ → Option Found
end_of last s [] = if last && at_brace s then Some (found 0 true) else None
end_of last s (b ∷ bs) = elim (step s b) [ Goes t ↦ later 1 (end_of last t bs) | Ends ↦ Some (found 1 false) | Opens ↦ Some (found 0 true) ]

-- what was read where no end came
unfoldable pub run : Scan → List ℕ → Scan
run s [] = s
run s (b ∷ bs) = elim (step s b) [ Goes t ↦ run t bs | Ends ↦ s | Opens ↦ s ]

-- what a scan of the bytes behind a place answers
pub record HasReached (last : Bool) (bytes : List ℕ) (from : ℕ) (s t : Scan) : Type 0 where
  pub none : end_of last s (drop from bytes) ≡ None
  pub same : run s (drop from bytes) ≡ t
  pub shallow : t.depth ≤ length bytes

-- the bytes show an end
pub record HasFound (last : Bool) (bytes : List ℕ) (from : ℕ) (s : Scan) (f : Found) : Type 0 where
  pub same : later from (end_of last s (drop from bytes)) ≡ Some f
  pub within : f.len ≤ length bytes
  pub some : from ≤ f.len

-- one of both
abbrev pub ScannedOn : Bool → List ℕ → ℕ → Scan → Scanned → Type 0
ScannedOn last bytes from s (scanned.Found f) = HasFound last bytes from s f
ScannedOn last bytes from s (scanned.Reached t) = HasReached last bytes from s t
