-- How a statement of a Pattern is read beside the data of its scan calls (IEEE 1450-1999, Pattern statements): by its tokens, and by its
-- heading, which is its labels, its word and what it calls, each by its plain name.
use Rattle.std.specs.Prelude.{ℕ, zero, suc, if◌then◌else◌, List, [], ◌∷◌, ◌++◌, length, Option, Some, None}
use Rattle.base_types.specs.Names.{plain_name}
use Rattle.token_forms.specs.Tokens.{Token}
use Rattle.token_forms.specs.Parts.{token_texts}
use Rattle.stil_tokens.specs.StilTokens.{tokens_in}
use Rattle.stil_syntax.specs.Names.{name_at}
use Rattle.stil_syntax.specs.Shapes.{label_at, behind_labels, is_call}
use Rattle.stil_tester.specs.Meaning.{Reading}

-- a name without its backslashes, where one stands there
abbrev pub name_there : Option (List ℕ × List Token) → List (List ℕ)
name_there None = []
name_there (Some n) = plain_name n.0 ∷ []

-- the names of the labels, of which there are no more than so many
unfoldable pub label_names : ℕ → List Token → List (List ℕ)
label_names zero ts = []
label_names (suc n) ts = elim (label_at ts) [ None ↦ [] | Some rest ↦ name_there (name_at ts) ++ label_names n rest ]

-- the word behind the labels, and behind Call and Macro a name
abbrev pub word_and_name : List Token → List (List ℕ)
word_and_name [] = []
word_and_name (t ∷ ts) = t.text ∷ (if is_call t.text then name_there (name_at ts) else [])

-- the same by all tokens
abbrev pub heading_by : List Token → List (List ℕ)
heading_by ts = label_names (length ts) ts ++ word_and_name (behind_labels ts)

-- of bytes
abbrev pub heading_of : List ℕ → List (List ℕ)
heading_of text = heading_by (tokens_in text)

-- how each statement is read
abbrev pub reading : Reading
reading = record { tokens = λ text. token_texts (tokens_in text); heading = heading_of }
