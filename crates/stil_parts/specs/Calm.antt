-- Bytes that a scan passes at once where its word is known: they open and close no block, end no statement and begin no text and
-- no comment.
use Rattle.std.specs.Prelude.{ℕ, Bool, true, false, ◌&&◌, ◌||◌, not, ◌==◌, if◌then◌else◌}
use Rattle.stil_tokens.specs.StilTokens.{is_blank, other_mark}
use Rattle.stil_parts.specs.Words.{is_known}
use Rattle.stil_parts.specs.declared.scan.Mode.{Mode}
use Rattle.stil_parts.specs.declared.scan.Mode.TheVariants.{Free, Run, Slash, Quoted, Line, Block, Brace, Note}
use Rattle.stil_parts.specs.declared.scan.Scan.{Scan}

-- ; { }
abbrev pub is_block_mark : ℕ → Bool
is_block_mark b = b == 59 || b == 123 || b == 125

-- a quote, or the first byte of a comment
abbrev pub begins_text : ℕ → Bool
begins_text b = b == 34 || b == 39 || b == 47

-- no such byte
abbrev pub is_calm : ℕ → Bool
is_calm b = not (is_block_mark b) && not (begins_text b)

-- what a scan is in behind such a byte: a run, or where a token may begin
abbrev pub mode_behind : ℕ → Mode
mode_behind b = if is_blank b || other_mark b then Free else Run

-- in a run, or where a token may begin
abbrev pub is_loose : Mode → Bool
is_loose Free = true
is_loose Run = true
is_loose Slash = false
is_loose (Quoted quote) = false
is_loose Line = false
is_loose (Block star) = false
is_loose Brace = false
is_loose (Note star) = false

-- there, and the word is known
abbrev pub is_between : Scan → Bool
is_between s = is_loose s.mode && is_known s.word
