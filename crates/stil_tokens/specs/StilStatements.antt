-- How the tokens of STIL are cut into statements (IEEE 1450-1999, clause 6).
use Rattle.std.specs.Prelude.{◌≡◌, ℕ, zero, suc, ◌+◌, ◌-◌, ◌<◌, Bool, true, false, ◌&&◌, ◌||◌, ◌==◌, if◌then◌else◌, List, [], ◌∷◌, ◌++◌, length, take, drop, ◌⊎◌}
use Rattle.token_forms.specs.Tokens.{Token}
use Rattle.stil_tokens.specs.StilTokens.{has_close}

-- the token is this one byte
abbrev pub is_only : ℕ → List ℕ → Bool
is_only m [] = false
is_only m (b ∷ []) = b == m
is_only m (b ∷ c ∷ bs) = false

-- behind its brace an annotation begins, and has its end
abbrev pub has_end : List ℕ → Bool
has_end [] = false
has_end (b ∷ bs) = b == 42 && has_close 125 false bs

-- the token is an annotation with its end
abbrev pub is_note : List ℕ → Bool
is_note [] = false
is_note (b ∷ bs) = b == 123 && has_end bs

-- a semicolon or an annotation outside a block ends a statement, and so does the brace that closes its first block; depth is
-- the number of open blocks
abbrev pub token_ends : ℕ → List ℕ → Bool
token_ends depth t = is_only 59 t && depth == 0 || (is_only 125 t && depth == 1 || is_note t && depth == 0)

-- the open blocks behind a token; a closing brace that closes none changes nothing
abbrev pub depth_behind : ℕ → List ℕ → ℕ
depth_behind depth t = if is_only 123 t then depth + 1 else (if is_only 125 t then depth - 1 else depth)

-- the last of the tokens ends a statement; where none is left, what the one before them did counts
abbrev pub closed_in : Bool → ℕ → List Token → Bool
closed_in closed depth [] = closed
closed_in closed depth (t ∷ ts) = closed_in (token_ends depth t.text) (depth_behind depth t.text) ts

-- the tokens have the end of a statement
abbrev pub is_closed : List Token → Bool
is_closed ts = closed_in false 0 ts

-- how many tokens stand up to and with the first that ends a statement; all where none does
abbrev pub len_in : ℕ → List Token → ℕ
len_in depth [] = 0
len_in depth (t ∷ ts) = if token_ends depth t.text then 1 else 1 + len_in (depth_behind depth t.text) ts

-- how many tokens the first statement has
abbrev pub statement_len : List Token → ℕ
statement_len ts = len_in 0 ts

-- the statements of some tokens, of which there are no more than so many
unfoldable pub statements_within : ℕ → List Token → List (List Token)
statements_within zero ts = []
statements_within (suc n) [] = []
statements_within (suc n) (t ∷ ts) =
    take (statement_len (t ∷ ts)) (t ∷ ts) ∷ statements_within n (drop (statement_len (t ∷ ts)) (t ∷ ts))

-- the statements of some tokens
abbrev pub stil_statements : List Token → List (List Token)
stil_statements ts = statements_within (length ts) ts

-- the first statement of some tokens: the shortest front that is closed, or all tokens where none is
pub record IsFirstStatement (s ts : List Token) : Type 0 where
  pub rest : List Token
  pub is : ts ≡ s ++ rest
  pub some : 0 < length s
  pub ends : (is_closed s ≡ true) ⊎ (rest ≡ [])
  pub shortest : (n : ℕ) → n < length s → is_closed (take n s) ≡ false

-- the statements are those of the tokens, one behind the other
abbrev pub IsStatementSplit : List Token → List (List Token) → Type 0
IsStatementSplit ts [] = ts ≡ []
IsStatementSplit ts (s ∷ ss) = (first : IsFirstStatement s ts) × IsStatementSplit first.rest ss

-- no others are
abbrev pub OnlyStatementsLaw : Type 0
OnlyStatementsLaw = (ts : List Token) (ss : List (List Token)) → IsStatementSplit ts ss → ss ≡ stil_statements ts

-- the statements of tokens are their split
abbrev pub StatementsLaw : Type 0
StatementsLaw = (ts : List Token) → IsStatementSplit ts (stil_statements ts)

-- behind the first statement the others follow
abbrev pub FirstLaw : Type 0
FirstLaw = (t : Token) (ts : List Token) → stil_statements (t ∷ ts) ≡ take (statement_len (t ∷ ts)) (t ∷ ts) ∷ stil_statements (drop (statement_len (t ∷ ts)) (t ∷ ts))
