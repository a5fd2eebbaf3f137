-- Words as a text of DEF: how they are laid out, and of which words the text has the tokens.
use Rattle.std.specs.Prelude.{◌≡◌, ℕ, ◌+◌, Bool, true, false, ◌&&◌, ◌||◌, not, ◌==◌, List, [], ◌∷◌, ◌++◌, length, codes}
use Rattle.std.specs.Str.{bytes_eq}
use Rattle.std.specs.List.{flat_map, list_all, prefix_len}
use Rattle.token_forms.specs.Pieces.{texts_from}
use Rattle.def_tokens.specs.DefTokens.{is_black, has_end, piece_at}
use Rattle.def_tokens.specs.DefSplit.{begins_run, goes_on}

-- the texts of the tokens of a text
abbrev pub texts : List ℕ → List (List ℕ)
texts text = texts_from piece_at 0 text

-- each word with a blank before it
abbrev pub spaced : List (List ℕ) → List ℕ
spaced ws = flat_map (λ w. 32 ∷ w) ws

-- the words with a blank between each two
abbrev pub joined : List (List ℕ) → List ℕ
joined [] = []
joined (w ∷ ws) = w ++ spaced ws

-- a text in quotes: the next quote is its last byte
abbrev pub is_quoted : List ℕ → Bool
is_quoted [] = false
is_quoted (b ∷ bs) = b == 34 && prefix_len (λ c. not (c == 34)) bs + 1 == length bs

-- bytes that aren't blanks, which begin neither a comment nor a text in quotes
abbrev pub is_run : List ℕ → Bool
is_run w = begins_run w && list_all is_black w

-- a word that is one token before a blank: a text in quotes, or a run whose end isn't cut off
abbrev pub is_whole : List ℕ → Bool
is_whole w = is_quoted w || (is_run w && not (has_end w))

-- the text has the tokens of these texts, and what stands behind it keeps its own, where no byte goes on with its last one
pub record HasWords (text : List ℕ) (ws : List (List ℕ)) : Type 0 where
  pub goes : (z : List ℕ) → goes_on z ≡ false → texts (text ++ z) ≡ ws ++ texts z

-- joined whole words are the tokens of the text
abbrev pub JoinedLaw : Type 0
JoinedLaw = (ws : List (List ℕ)) → list_all is_whole ws ≡ true → HasWords (joined ws) ws

-- a run whose end would be cut off before a blank
abbrev pub is_cut : List ℕ → Bool
is_cut w = is_run w && has_end w

-- each word but the last is whole, or is one that a semicolon ends
abbrev pub are_standing : List (List ℕ) → Bool
are_standing [] = true
are_standing (w ∷ []) = true
are_standing (w ∷ v ∷ ws) = (is_whole w || (is_cut w && bytes_eq v (codes ";"))) && are_standing (v ∷ ws)

-- the tokens of any text stand so
abbrev pub StandingLaw : Type 0
StandingLaw = (text : List ℕ) → are_standing (texts text) ≡ true
