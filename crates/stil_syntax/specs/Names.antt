-- The words and names of STIL, by tokens (IEEE 1450-1999, clause 6).
use Rattle.std.specs.Prelude.{◌≡◌, ℕ, ◌-◌, Bool, true, false, ◌&&◌, ◌||◌, not, ◌==◌, if◌then◌else◌, List, [], ◌∷◌, ◌++◌, length, take, drop, codes, Option, Some, None}
use Rattle.token_forms.specs.Tokens.{Token}
use Rattle.token_forms.specs.Classes.{But, is_in}
use Rattle.token_forms.specs.Forms.{Form}

-- the text begins with this byte
abbrev pub begins_with : ℕ → List ℕ → Bool
begins_with b [] = false
begins_with b (c ∷ cs) = c == b

-- { } ; = : !
abbrev pub marks : List (List ℕ)
marks = codes "{" ∷ codes "}" ∷ codes ";" ∷ codes "=" ∷ codes ":" ∷ codes "!" ∷ []

-- a text in ", a text in ' or an annotation
abbrev pub is_enclosed : List ℕ → Bool
is_enclosed text = begins_with 34 text || (begins_with 39 text || begins_with 123 text)

-- a run: a token that is no mark, no text in quotes and no annotation
abbrev pub is_word : List ℕ → Bool
is_word text = is_in (But marks) text && not (is_enclosed text)

-- a text in "
abbrev pub is_string : List ℕ → Bool
is_string text = begins_with 34 text

-- a text without its quotes
abbrev pub inner : List ℕ → List ℕ
inner text = take (length text - 2) (drop 1 text)

-- the tokens spell the name: a run, or a text in ", or such a text with a run right behind it
pub data IsName (name : List ℕ) (ts : List Token) : Type 0 where
  Word : (t : Token) → ts ≡ t ∷ [] → is_word t.text ≡ true → t.text ≡ name → IsName name ts
  Quoted : (t : Token) → ts ≡ t ∷ [] → is_string t.text ≡ true → inner t.text ≡ name → IsName name ts
  Joined : (t u : Token) → ts ≡ t ∷ u ∷ [] → is_string t.text ≡ true → is_word u.text ≡ true → u.start ≡ t.end → inner t.text ++ u.text ≡ name → IsName name ts

-- the name that begins with a text in ", and what is left behind it
abbrev pub string_at : Token → List Token → List ℕ × List Token
string_at t [] = (inner t.text, [])
string_at t (u ∷ us) = if is_word u.text && u.start == t.end then (inner t.text ++ u.text, us) else (inner t.text, u ∷ us)

-- the name at the front of tokens, and what is left behind it
unfoldable pub name_at : List Token → Option (List ℕ × List Token)
name_at [] = None
name_at (t ∷ ts) = if is_word t.text then Some (t.text, ts) else (if is_string t.text then Some (string_at t ts) else None)

-- a name
abbrev pub name : Form (List ℕ)
name = record { spells = IsName; reads = name_at; starts = But marks ∷ []; goes_on = But marks ∷ []; may_be_empty = false; is_clear = true }
