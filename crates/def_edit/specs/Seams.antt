-- A text of DEF in which runs of tokens are replaced, and the words that it then has.
use Rattle.std.specs.Prelude.{◌≡◌, ◌<◌, ℕ, Bool, true, false, ◌&&◌, not, ◌==◌, List, [], ◌∷◌, ◌++◌, length, drop, map, codes, ◌⊎◌}
use Rattle.std.specs.Str.{bytes_eq}
use Rattle.token_forms.specs.Tokens.{Token, place_of}
use Rattle.token_forms.specs.Parts.{token_texts}
use Rattle.splice.specs.declared.Edit.{Edit}
use Rattle.splice.specs.Spliced.{spliced, AreRising}
use Rattle.def_tokens.specs.DefTokens.{tokens_in}
use Rattle.def_tokens.specs.DefSplit.{goes_on}
use Rattle.def_layout.specs.Words.{texts}

-- an edit of a text, and the words that it puts there
pub record WordEdit : Type 0 where
  pub edit : Edit
  pub words : List (List ℕ)

-- the edits alone
abbrev pub edits_of : List WordEdit → List Edit
edits_of es = map (λ (e : WordEdit). e.edit) es

-- a semicolon stands first, and a blank or the end behind it
abbrev pub begins_end : List ℕ → Bool
begins_end [] = false
begins_end (b ∷ bs) = b == 59 && not (goes_on bs)

-- a blank or the end stands first, or a semicolon before these
abbrev pub IsParted : List ℕ → Type 0
IsParted z = (goes_on z ≡ false) ⊎ (begins_end z ≡ true)

-- a quote stands first
abbrev pub begins_quote : List ℕ → Bool
begins_quote [] = false
begins_quote (b ∷ bs) = b == 34

-- the text has its words before z, and before each other text that a blank or the end begins, or a semicolon before these, where z
-- is begun so
pub record HasWordsBefore (text : List ℕ) (ws : List (List ℕ)) (z : List ℕ) : Type 0 where
  pub goes : (r : List ℕ) → (goes_on z ≡ false → goes_on r ≡ false) → (begins_end z ≡ true → begins_end r ≡ true) → texts (text ++ r) ≡ ws ++ texts r

-- the first token is no semicolon
abbrev pub is_firm : List Token → Bool
is_firm [] = false
is_firm (t ∷ ts) = not (bytes_eq t.text (codes ";"))

-- the last token is no text in quotes
abbrev pub ends_plain : List Token → Bool
ends_plain [] = false
ends_plain (t ∷ []) = not (begins_quote t.text)
ends_plain (t ∷ u ∷ ts) = ends_plain (u ∷ ts)

-- the first edit is of a run of the tokens; before it stands one that stays, where none may be left out
pub record IsWordEdit (text : List ℕ) (free : Bool) (ts : List Token) (e : WordEdit) (ws : List (List ℕ)) (More : Bool → List Token → List (List ℕ) → Type 0) : Type 0 where
  pub front : List Token
  pub run : List Token
  pub behind : List Token
  pub is : ts ≡ front ++ (run ++ behind)
  pub apart : (free ≡ true) ⊎ (0 < length front)
  pub firm : is_firm run ≡ true
  pub place : e.edit.span ≡ place_of run
  pub begins : goes_on e.edit.text ≡ true
  pub news : HasWordsBefore e.edit.text e.words (drop e.edit.span.end text)
  pub later : List (List ℕ)
  pub words : ws ≡ token_texts front ++ (e.words ++ later)
  pub more : More (ends_plain run) behind later

-- the edits are of runs of the tokens, in their order, and ws the words with these made; between two of them a token stays, or the
-- one before ends with no text in quotes
abbrev pub AreWordEditsOf : List ℕ → Bool → List Token → List WordEdit → List (List ℕ) → Type 0
AreWordEditsOf text free ts [] ws = ws ≡ token_texts ts
AreWordEditsOf text free ts (e ∷ es) ws = IsWordEdit text free ts e ws (λ free' behind later. AreWordEditsOf text free' behind es later)

-- so they are of the tokens of the text
abbrev pub AreWordEdits : List ℕ → List WordEdit → List (List ℕ) → Type 0
AreWordEdits text es ws = AreWordEditsOf text true (tokens_in text) es ws

-- such edits lie in the text in their order, with a byte at least between two of them
abbrev pub RisingLaw : Type 0
RisingLaw = (text : List ℕ) (es : List WordEdit) (ws : List (List ℕ)) → AreWordEdits text es ws → AreRising 0 (length text) (edits_of es)

-- with them made, the text has these words
abbrev pub SeamLaw : Type 0
SeamLaw = (text : List ℕ) (es : List WordEdit) (ws : List (List ℕ)) → AreWordEdits text es ws → texts (spliced text (edits_of es)) ≡ ws

-- behind a token that is no text in quotes stands a blank or the end, or the semicolon that was cut off it
abbrev pub PartedLaw : Type 0
PartedLaw = (text : List ℕ) (front run behind : List Token) → tokens_in text ≡ front ++ (run ++ behind) → ends_plain run ≡ true → IsParted (drop (place_of run).end text)

-- a blank or the end, where the next token is no semicolon
abbrev pub BehindLaw : Type 0
BehindLaw = (text : List ℕ) (front run behind : List Token) → tokens_in text ≡ front ++ (run ++ behind) → ends_plain run ≡ true → is_firm behind ≡ true → goes_on (drop (place_of run).end text) ≡ false
