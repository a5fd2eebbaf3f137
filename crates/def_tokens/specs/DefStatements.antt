-- How the tokens of LEF or DEF are cut into statements (LEF/DEF 5.8).
use Rattle.std.specs.Prelude.{◌≡◌, ℕ, zero, suc, ◌+◌, ◌<◌, Bool, true, false, ◌==◌, if◌then◌else◌, min, List, [], ◌∷◌, ◌++◌, length, take, drop, codes, ◌⊎◌}
use Rattle.std.specs.Str.{bytes_eq}
use Rattle.token_forms.specs.Tokens.{Token}

-- the last token has this text
abbrev pub ends_with : List ℕ → List Token → Bool
ends_with word [] = false
ends_with word (t ∷ []) = bytes_eq t.text word
ends_with word (t ∷ u ∷ ts) = ends_with word (u ∷ ts)

-- the tokens have the end of a statement: END and one token more, PROPERTYDEFINITIONS by itself, an extension up to
-- ENDEXT, or else a semicolon
abbrev pub is_closed : List Token → Bool
is_closed [] = false
is_closed (t ∷ ts) =
    if bytes_eq t.text (codes "END") then length ts == 1
    else (if bytes_eq t.text (codes "PROPERTYDEFINITIONS") then length ts == 0
    else (if bytes_eq t.text (codes "BEGINEXT") then ends_with (codes "ENDEXT") ts
    else ends_with (codes ";") (t ∷ ts)))

-- how many tokens stand up to and with the first of this text; all where there is none
abbrev pub count_with : List ℕ → List Token → ℕ
count_with word [] = 0
count_with word (t ∷ ts) = if bytes_eq t.text word then 1 else 1 + count_with word ts

-- how many tokens the first statement has
unfoldable pub statement_len : List Token → ℕ
statement_len [] = 0
statement_len (t ∷ ts) =
    if bytes_eq t.text (codes "END") then min 2 (1 + length ts)
    else (if bytes_eq t.text (codes "PROPERTYDEFINITIONS") then 1
    else (if bytes_eq t.text (codes "BEGINEXT") then 1 + count_with (codes "ENDEXT") ts
    else count_with (codes ";") (t ∷ ts)))

-- the statements of some tokens, of which there are no more than so many
unfoldable pub statements_within : ℕ → List Token → List (List Token)
statements_within zero ts = []
statements_within (suc n) [] = []
statements_within (suc n) (t ∷ ts) =
    take (statement_len (t ∷ ts)) (t ∷ ts) ∷ statements_within n (drop (statement_len (t ∷ ts)) (t ∷ ts))

-- the statements of some tokens
abbrev pub def_statements : List Token → List (List Token)
def_statements ts = statements_within (length ts) ts

-- the first statement of some tokens: the shortest front that is closed, or all tokens where none is
pub record IsFirstStatement (s ts : List Token) : Type 0 where
  pub rest : List Token
  pub is : ts ≡ s ++ rest
  pub some : 0 < length s
  pub ends : (is_closed s ≡ true) ⊎ (rest ≡ [])
  pub shortest : (n : ℕ) → n < length s → is_closed (take n s) ≡ false

-- the statements are those of the tokens, one behind the other
abbrev pub IsStatementSplit : List Token → List (List Token) → Type 0
IsStatementSplit ts [] = ts ≡ []
IsStatementSplit ts (s ∷ ss) = (first : IsFirstStatement s ts) × IsStatementSplit first.rest ss

-- no others are
abbrev pub OnlyStatementsLaw : Type 0
OnlyStatementsLaw = (ts : List Token) (ss : List (List Token)) → IsStatementSplit ts ss → ss ≡ def_statements ts

-- the statements of tokens are their split
abbrev pub StatementsLaw : Type 0
StatementsLaw = (ts : List Token) → IsStatementSplit ts (def_statements ts)

-- behind the first statement the others follow
abbrev pub FirstLaw : Type 0
FirstLaw = (t : Token) (ts : List Token) → def_statements (t ∷ ts) ≡ take (statement_len (t ∷ ts)) (t ∷ ts) ∷ def_statements (drop (statement_len (t ∷ ts)) (t ∷ ts))
