-- Where a Pattern opens and where the head of a text ends, by the tokens of the text alone (IEEE 1450-1999, clause 6). At the top
-- a statement may begin with labels, which are names with a colon behind them; the token behind them is its word. A name is a
-- run, or a text in ", or such a text with a run right behind it.
use Rattle.std.specs.Prelude.{◌≡◌, ℕ, zero, suc, ◌+◌, Bool, true, false, ◌&&◌, ◌==◌, nat_lt, if◌then◌else◌, List, [], ◌∷◌, length, drop, codes, Option, Some, None}
use Rattle.std.specs.Str.{bytes_eq}
use Rattle.token_forms.specs.Tokens.{Token, place_of}
use Rattle.stil_tokens.specs.StilTokens.{is_run, tokens_in}
use Rattle.stil_tokens.specs.StilStatements.{is_only, token_ends, stil_statements}
use Rattle.stil_parts.specs.declared.gap.Place.{Place}
use Rattle.stil_parts.specs.declared.gap.Place.TheVariants.{Top, Pattern}
use Rattle.stil_parts.specs.declared.gap.Comment.TheVariants.{Outside}
use Rattle.stil_parts.specs.declared.word.Word.TheVariants.{Start}
use Rattle.stil_parts.specs.declared.scan.Found.{Found}
use Rattle.stil_parts.specs.declared.part.Part.{Part}
use Rattle.stil_parts.specs.declared.part.Search.{Search}
use Rattle.stil_parts.specs.declared.part.Search.TheVariants as searches
use Rattle.stil_parts.specs.Scanner.{found, end_of}
use Rattle.stil_parts.specs.Parts.{begin, parted, part_at}
use Rattle.stil_parts.specs.Ending.{statement_end}
use Rattle.stil_parts.specs.Heads.{head_end, head_len}
use Rattle.stil_parts.specs.Coming.{largest}

-- the token is a run: it begins with no quote and no mark
abbrev pub is_bare : List ℕ → Bool
is_bare [] = false
is_bare (b ∷ bs) = is_run b

-- the token is a text in "
abbrev pub is_string : List ℕ → Bool
is_string [] = false
is_string (b ∷ bs) = b == 34

-- how many tokens the name has that begins with a text in ": a run right behind the text belongs to it
abbrev pub string_len : Token → List Token → ℕ
string_len t [] = 1
string_len t (u ∷ us) = if is_bare u.text && u.start == t.end then 2 else 1

-- how many tokens the name at the front has; 0 where none stands there
abbrev pub name_len : List Token → ℕ
name_len [] = 0
name_len (t ∷ ts) = if is_bare t.text then 1 else (if is_string t.text then string_len t ts else 0)

-- a colon stands first
abbrev pub begins_colon : List Token → Bool
begins_colon [] = false
begins_colon (t ∷ ts) = is_only 58 t.text

-- a label stands first: a name, and a colon behind it
abbrev pub begins_label : List Token → Bool
begins_label ts = nat_lt 0 (name_len ts) && begins_colon (drop (name_len ts) ts)

-- the tokens behind the first label
abbrev pub behind_label : List Token → List Token
behind_label ts = drop (name_len ts + 1) ts

-- the tokens behind so many labels at most
unfoldable pub behind_within : ℕ → List Token → List Token
behind_within zero ts = ts
behind_within (suc n) ts = if begins_label ts then behind_within n (behind_label ts) else ts

-- the tokens from the word of the first statement on: those behind its labels
abbrev pub from_word : List Token → List Token
from_word ts = behind_within (length ts) ts

-- the first token is the run Pattern
abbrev pub begins_pattern : List Token → Bool
begins_pattern [] = false
begins_pattern (t ∷ ts) = bytes_eq t.text (codes "Pattern")

-- the word of the first statement is Pattern
abbrev pub is_pattern : List Token → Bool
is_pattern ts = begins_pattern (from_word ts)

-- the place behind the first {, where none of the tokens before it ends the statement
abbrev pub brace_end : List Token → Option ℕ
brace_end [] = None
brace_end (t ∷ ts) = if is_only 123 t.text then Some t.end else (if token_ends 0 t.text then None else brace_end ts)

-- the place behind the brace that opens a Pattern, where the word is Pattern and the statement has a block
abbrev pub opened : List Token → Option ℕ
opened ts = if is_pattern ts then brace_end ts else None

-- behind a statement's end
abbrev pub ended : Option ℕ → Option Found
ended None = None
ended (Some n) = Some (found n false)

-- behind the brace that opens a Pattern, or else behind the end of the statement
abbrev pub opened_or : Option ℕ → Option Found → Option Found
opened_or None end = end
opened_or (Some n) end = Some (found n true)

-- the part at the top: a Pattern up to and with its brace, or another statement up to its end
abbrev pub part_in : List Token → Option Found
part_in ts = opened_or (opened ts) (ended (statement_end 0 ts))

-- what is shown of it where the text goes on: a { as the last byte may begin an annotation, so it shows nothing
abbrev pub shown_of : ℕ → Option Found → Option Found
shown_of size None = None
shown_of size (Some f) = if f.opens && f.len == size then None else Some f

-- what is shown of it; last tells whether the text goes no further
abbrev pub shown : Bool → ℕ → Option Found → Option Found
shown true size part = part
shown false size part = shown_of size part

-- at the top a scan finds the brace that opens a Pattern, or else the end of the statement, where the tokens have it
abbrev pub OpensLaw : Type 0
OpensLaw = (last : Bool) (text : List ℕ) → end_of last (begin Start) text ≡ shown last (length text) (part_in (tokens_in text))

-- the part that the tokens hold from their front
abbrev pub part_by_tokens : Bool → Place → List ℕ → Option Part
part_by_tokens last Top text = parted Top (shown last (length text) (part_in (tokens_in text)))
part_by_tokens last (Pattern line) text = parted (Pattern line) (ended (statement_end 0 (tokens_in text)))

-- it is the part that a scan finds
abbrev pub PartLaw : Type 0
PartLaw = (last : Bool) (place : Place) (text : List ℕ) → part_at last place text ≡ part_by_tokens last place text

-- the part that a search found, if it found one
abbrev pub part_found : Search → Option Part
part_found (searches.Part part) = Some part
part_found (searches.Open scan) = None

-- the place of the first statement whose word is Pattern; where none has it, the place n
abbrev pub pattern_place : ℕ → List (List Token) → ℕ
pattern_place n [] = n
pattern_place n (s ∷ ss) = if is_pattern s then (place_of s).start else pattern_place n ss

-- where the head of a text ends: where its first statement begins whose word is Pattern, or where the text ends
abbrev pub head_place : List ℕ → ℕ
head_place text = pattern_place (length text) (stil_statements (tokens_in text))

-- the head of a text ends there, and what is shown of a head's end within the limit is that place
pub record HeadPlaceLaw : Type 0 where
  pub ends : (text : List ℕ) → head_end true Outside 0 text ≡ Some (head_place text)
  pub within : (text : List ℕ) → nat_lt largest (length text) ≡ false → head_len text ≡ Some (head_place text)
  pub shown : (text : List ℕ) (n : ℕ) → head_len text ≡ Some n → n ≡ head_place text
