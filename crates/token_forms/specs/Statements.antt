-- How tokens are cut into statements.
use Rattle.std.specs.Prelude.{ℕ, ◌+◌, Bool, if◌then◌else◌, List, [], ◌∷◌}
use Rattle.std.specs.Str.{bytes_eq}
use Rattle.token_forms.specs.Tokens.{Token}

-- the token ends a statement
abbrev pub is_semicolon : Token → Bool
is_semicolon t = bytes_eq t.text (59 ∷ [])

-- how many tokens stand up to and with the first semicolon; all where there is none
abbrev pub statement_len : List Token → ℕ
statement_len [] = 0
statement_len (t ∷ ts) = if is_semicolon t then 1 else 1 + statement_len ts

-- a token in front of the first statement
abbrev pub begin_with : Token → List (List Token) → List (List Token)
begin_with t [] = (t ∷ []) ∷ []
begin_with t (s ∷ ss) = (t ∷ s) ∷ ss

-- each statement ends with a semicolon, but for a rest without one
unfoldable pub statements_of : List Token → List (List Token)
statements_of [] = []
statements_of (t ∷ ts) = if is_semicolon t then (t ∷ []) ∷ statements_of ts else begin_with t (statements_of ts)
