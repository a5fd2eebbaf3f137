-- The data of a scan call (IEEE 1450-1999, Shift, in this profile): characters that stand for themselves, and `\r`, digits of
-- a number from 1, blanks, and one character that stands for so many. Of data that isn't only runs, a token that is none
-- begins with a byte that is of no alphabet.
use Rattle.std.specs.Prelude.{ℕ, ◌+◌, Bool, true, false, ◌&&◌, ◌||◌, ◌==◌, if◌then◌else◌, max, List, [], ◌∷◌, ◌++◌, map, replicate, codes, Option, Some, None}
use Rattle.std.specs.List.{list_all}
use Rattle.stil_types.specs.Calls.{is_load_character, is_compare_character, is_expectation}
use Rattle.stil_calls.specs.declared.repeats.Repeat.{Repeat}
use Rattle.stil_calls.specs.declared.repeats.Escape.{Escape}
use Rattle.stil_calls.specs.declared.repeats.Escape.TheVariants.{Outside, Slash, Count, Waits, Broken}
use Rattle.stil_calls.specs.declared.repeats.Side.{Side}
use Rattle.stil_calls.specs.declared.repeats.Side.TheVariants.{Load, Compare}
use Rattle.stil_syntax.specs.Digits.{is_digit, counted}

-- a character so many times
abbrev pub repeat : ℕ → ℕ → Repeat
repeat times character = record { times = times; character = character }

-- where a byte leads: outside an escape, behind its backslash, in its digits, or behind these
abbrev pub behind : Escape → ℕ → Escape
behind Outside b = if b == 92 then Slash else Outside
behind Slash b = if b == 114 then Count 0 else Broken
behind (Count n) b = if is_digit b then Count (counted n b) else (if n == 0 then Broken else (if b == 32 then Waits n else Outside))
behind (Waits n) b = if b == 32 then Waits n else Outside
behind Broken b = Broken

-- what a byte completes
abbrev pub completed : Escape → ℕ → Option Repeat
completed Outside b = if b == 32 || b == 92 then None else Some (repeat 1 b)
completed Slash b = None
completed (Count n) b = if is_digit b || (n == 0 || b == 32) then None else Some (repeat n b)
completed (Waits n) b = if b == 32 then None else Some (repeat n b)
completed Broken b = None

-- one more in front, where there is one
abbrev pub put_first : Option Repeat → List Repeat → List Repeat
put_first None rs = rs
put_first (Some r) rs = r ∷ rs

-- the repeats that bytes write, behind a place in an escape or outside
unfoldable pub repeats_from : Escape → List ℕ → List Repeat
repeats_from e [] = []
repeats_from e (b ∷ bs) = put_first (completed e b) (repeats_from (behind e b) bs)

-- outside an escape
abbrev pub is_outside : Escape → Bool
is_outside Outside = true
is_outside Slash = false
is_outside (Count n) = false
is_outside (Waits n) = false
is_outside Broken = false

-- each escape is whole
unfoldable pub whole_from : Escape → List ℕ → Bool
whole_from e [] = is_outside e
whole_from e (b ∷ bs) = whole_from (behind e b) bs

-- the repeats of data
abbrev pub repeats_of : List ℕ → List Repeat
repeats_of bytes = repeats_from Outside bytes

-- each byte for itself
abbrev pub singly : List ℕ → List Repeat
singly bytes = map (λ b. repeat 1 b) bytes

-- the alphabet of a side
abbrev pub is_character : Side → ℕ → Bool
is_character Load b = is_load_character b
is_character Compare b = is_compare_character b

-- its characters in a list
abbrev pub alphabet : Side → List ℕ
alphabet Load = codes "01N"
alphabet Compare = codes "LHX"

-- the data are of the side's alphabet, with whole escapes
abbrev pub is_sound : Side → List ℕ → Bool
is_sound side bytes = whole_from Outside bytes && list_all (λ r. is_character side r.character) (repeats_of bytes)

-- how many characters they stand for
abbrev pub count_of : List Repeat → ℕ
count_of [] = 0
count_of (r ∷ rs) = r.times + count_of rs

-- how many up to and with the last L or H, of which so many stand before
abbrev pub reach_from : ℕ → List Repeat → ℕ
reach_from before [] = 0
reach_from before (r ∷ rs) = max (if is_expectation r.character then before + r.times else 0) (reach_from (before + r.times) rs)

-- the characters, written out
abbrev pub written : List Repeat → List ℕ
written [] = []
written (r ∷ rs) = replicate r.times r.character ++ written rs
