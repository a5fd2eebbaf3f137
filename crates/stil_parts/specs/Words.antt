-- The first word of a part, byte by byte (IEEE 1450-1999, clause 6): labels, names with a colon behind them, may stand before
-- it. A name is a run, or a text in ", or such a text with a run right behind it; a word is a run. The same by the tokens of the
-- text stands in ByTokens.
use Rattle.std.specs.Prelude.{ℕ, ◌+◌, Bool, true, false, ◌&&◌, ◌==◌, nat_lt, if◌then◌else◌, codes, slice_index, Option, Some, None}
use Rattle.stil_parts.specs.declared.word.Word.{Word}
use Rattle.stil_parts.specs.declared.word.Word.TheVariants.{Start, Letters, Run, Text, Joined, After, Known}

-- a byte of a run
abbrev pub word_byte : ℕ → Word → Word
word_byte b Start = if b == 80 then Letters 1 else Run
word_byte b (Letters k) = if nat_lt k 7 && b == slice_index (codes "Pattern") k then Letters (k + 1) else Run
word_byte b Run = Run
word_byte b Text = Joined
word_byte b Joined = Joined
word_byte b (After is) = Known is
word_byte b (Known is) = Known is

-- a blank or a comment, which end a token
abbrev pub word_ends : Word → Word
word_ends Start = Start
word_ends (Letters k) = After (k == 7)
word_ends Run = After false
word_ends Text = After false
word_ends Joined = After false
word_ends (After is) = After is
word_ends (Known is) = Known is

-- a token that is no name and no colon begins
abbrev pub word_settled : Word → Word
word_settled Start = Known false
word_settled (Letters k) = Known (k == 7)
word_settled Run = Known false
word_settled Text = Known false
word_settled Joined = Known false
word_settled (After is) = Known is
word_settled (Known is) = Known is

-- a text in " begins
abbrev pub word_text : Word → Word
word_text Start = Text
word_text (Letters k) = Known (k == 7)
word_text Run = Known false
word_text Text = Known false
word_text Joined = Known false
word_text (After is) = Known is
word_text (Known is) = Known is

-- a colon: the name before it is a label
abbrev pub word_colon : Word → Word
word_colon Start = Known false
word_colon (Letters k) = Start
word_colon Run = Start
word_colon Text = Start
word_colon Joined = Start
word_colon (After is) = Start
word_colon (Known is) = Known is

-- a text begins with this quote
abbrev pub quote_word : ℕ → Word → Word
quote_word b w = if b == 34 then word_text w else word_settled w

-- one of the marks : = !
abbrev pub mark_word : ℕ → Word → Word
mark_word b w = if b == 58 then word_colon w else word_settled w

-- the word is known to be Pattern
abbrev pub names_pattern : Word → Bool
names_pattern Start = false
names_pattern (Letters k) = false
names_pattern Run = false
names_pattern Text = false
names_pattern Joined = false
names_pattern (After is) = false
names_pattern (Known is) = is

-- whether the word is Pattern is known
abbrev pub is_known : Word → Bool
is_known Start = false
is_known (Letters k) = false
is_known Run = false
is_known Text = false
is_known Joined = false
is_known (After is) = false
is_known (Known is) = true

-- whether the word is Pattern, where that is known, as at the end of the text; last tells whether it ends here
abbrev pub word_shown : Bool → Word → Option Bool
word_shown last Start = if last then Some false else None
word_shown last (Letters k) = if last then Some (k == 7) else None
word_shown last Run = if last then Some false else None
word_shown last Text = if last then Some false else None
word_shown last Joined = if last then Some false else None
word_shown last (After is) = if last then Some is else None
word_shown last (Known is) = Some is
