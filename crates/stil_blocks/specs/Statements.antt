-- The statements of the head of a STIL text, and what a statement and its block are made of (IEEE 1450-1999, clause 6).
use Rattle.std.specs.Prelude.{ℕ, Bool, false, ◌&&◌, ◌||◌, not, List, [], ◌∷◌, drop, codes, Option, Some, None}
use Rattle.std.specs.Str.{bytes_eq}
use Rattle.base_types.specs.declared.span.Span.{Span}
use Rattle.token_forms.specs.Tokens.{Token, place_of}
use Rattle.stil_tokens.specs.StilTokens.{tokens_in}
use Rattle.stil_tokens.specs.StilStatements.{is_only, is_closed}
use Rattle.stil_syntax.specs.Names.{is_word, name_at}
use Rattle.stil_syntax.specs.Shapes.{behind_labels, closes_nothing, in_block, body_statements}

-- the statements of a head's text; those that are a lone ; don't count
abbrev pub statements_of : List ℕ → List (List Token)
statements_of text = body_statements (tokens_in text)

-- where a statement begins: at its first token
abbrev pub start_of : List Token → ℕ
start_of s = (place_of s).start

-- the place of a token
abbrev pub span_of : Token → Span
span_of t = record { start = t.start; end = t.end }

-- a token by its bytes and its place
abbrev pub token_at : List ℕ → Span → Token
token_at text at = record { text = text; start = at.start; end = at.end }

-- a statement has its end, and in it no } closes nothing
abbrev pub is_whole : List Token → Bool
is_whole s = is_closed s && not (closes_nothing 0 s)

-- the bytes of the first token; none where there is no token
abbrev pub first_text : List Token → List ℕ
first_text [] = []
first_text (t ∷ ts) = t.text

-- this word stands first
abbrev pub begins_word : List ℕ → List Token → Bool
begins_word word [] = false
begins_word word (t ∷ ts) = bytes_eq t.text word

-- a run stands first
abbrev pub begins_run : List Token → Bool
begins_run [] = false
begins_run (t ∷ ts) = is_word t.text

-- a statement has a word: a run behind its labels
unfoldable pub is_worded : List Token → Bool
is_worded s = begins_run (behind_labels s)

-- a statement has this word
unfoldable pub has_word : List ℕ → List Token → Bool
has_word word s = begins_word word (behind_labels s)

-- what stands behind the word of a statement
unfoldable pub behind_word : List Token → List Token
behind_word s = drop 1 (behind_labels s)

-- nothing is left but a ;
abbrev pub is_end : List Token → Bool
is_end [] = false
is_end (t ∷ []) = is_only 59 t.text
is_end (t ∷ u ∷ ts) = false

-- a block stands first
abbrev pub opens : List Token → Bool
opens ts = begins_word (codes "{") ts

-- a block stands behind a name
abbrev pub opens_behind : Option (List ℕ × List Token) → Bool
opens_behind None = false
opens_behind (Some n) = opens n.1

-- name { ..
unfoldable pub opens_named : List Token → Bool
opens_named ts = opens_behind (name_at ts)

-- [name] { ..
unfoldable pub opens_maybe_named : List Token → Bool
opens_maybe_named ts = opens ts || opens_named ts

-- the statements in the block of a statement; those that are a lone ; don't count
abbrev pub statements_in : List Token → List (List Token)
statements_in s = body_statements (in_block s)
