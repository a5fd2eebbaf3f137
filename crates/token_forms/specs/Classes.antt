-- Which tokens may stand at a place: some words, or all but some words.
use Rattle.std.specs.Prelude.{ℕ, Bool, false, not, List, [], ◌∷◌}
use Rattle.std.specs.List.{list_any, list_all}
use Rattle.std.specs.Str.{bytes_eq}
use Rattle.token_forms.specs.Tokens.{Token}

-- a class of tokens by their texts: these alone, or all but these
pub data Class : Type 0 where
  Only : List (List ℕ) → Class
  But : List (List ℕ) → Class

-- the text is one of the words
abbrev pub is_among : List (List ℕ) → List ℕ → Bool
is_among words text = list_any (bytes_eq text) words

-- the text is in the class
abbrev pub is_in : Class → List ℕ → Bool
is_in (Only words) text = is_among words text
is_in (But words) text = not (is_among words text)

-- no text is in both
abbrev pub are_apart : Class → Class → Bool
are_apart (Only us) (Only vs) = list_all (λ u. not (is_among vs u)) us
are_apart (Only us) (But vs) = list_all (is_among vs) us
are_apart (But us) (Only vs) = list_all (is_among us) vs
are_apart (But us) (But vs) = false

-- the text is in one of the classes
abbrev pub is_in_any : List Class → List ℕ → Bool
is_in_any cs text = list_any (λ c. is_in c text) cs

-- no text is in a class of both lists
abbrev pub all_apart : List Class → List Class → Bool
all_apart cs ds = list_all (λ c. list_all (are_apart c) ds) cs

-- whether a token of one of the classes stands first
abbrev pub begins : List Class → List Token → Bool
begins cs [] = false
begins cs (t ∷ ts) = is_in_any cs t.text
