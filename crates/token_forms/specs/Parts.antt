-- How a form is spelled in tokens, for any reader: a form is a list of parts, and these fit some tokens.
use Rattle.std.specs.Prelude.{◌≡◌, ℕ, List, [], ◌∷◌, ◌++◌, map}
use Rattle.token_forms.specs.Tokens.{Token}
use Rattle.base_types.specs.declared.span.Span.{Span}

-- a token with this text; or, between two marks, the tokens of an expression that can be replaced: the opening mark, the
-- expression's place, its tokens' texts, the closing mark
pub data Part : Type 0 where
  Fixed : List ℕ → Part
  Slot : ℕ → Span → List (List ℕ) → ℕ → Part

-- items with commas between them, and a closing mark behind the last
abbrev pub list_parts : {X : Type 0} → (X → List Part) → ℕ → List X → List Part
list_parts parts closing [] = Fixed (closing ∷ []) ∷ []
list_parts parts closing (x ∷ []) = parts x ++ Fixed (closing ∷ []) ∷ []
list_parts parts closing (x ∷ y ∷ ys) = parts x ++ Fixed (44 ∷ []) ∷ list_parts parts closing (y ∷ ys)

-- the texts of the tokens that the parts are spelled by
abbrev pub spelled : List Part → List (List ℕ)
spelled [] = []
spelled (Fixed w ∷ ps) = w ∷ spelled ps
spelled (Slot opening place ws closing ∷ ps) = (opening ∷ []) ∷ ws ++ ((closing ∷ []) ∷ spelled ps)

-- the texts of tokens
abbrev pub token_texts : List Token → List (List ℕ)
token_texts ts = map (λ t. t.text) ts

-- the place of some tokens, or of none before the next one
abbrev pub last_end : Token → List Token → ℕ
last_end t [] = t.end
last_end t (u ∷ us) = last_end u us

-- the place of some tokens, which is empty before the next one where there are none
abbrev pub IsPlace : Span → List Token → Token → Type 0
IsPlace place [] next = (place.start ≡ next.start) × (place.end ≡ next.start)
IsPlace place (t ∷ ts) next = (place.start ≡ t.start) × (place.end ≡ last_end t ts)

-- the tokens begin with this text
pub record FitsFixed (w : List ℕ) (ts : List Token) (More : List Token → Type 0) : Type 0 where
  pub token : Token
  pub behind : List Token
  pub is : ts ≡ token ∷ behind
  pub text : token.text ≡ w
  pub more : More behind

-- the tokens begin with what stands between two marks, at this place
pub record FitsSlot (opening : ℕ) (place : Span) (ws : List (List ℕ)) (closing : ℕ) (ts : List Token) (More : List Token → Type 0) : Type 0 where
  pub mark : Token
  pub run : List Token
  pub next : Token
  pub behind : List Token
  pub is : ts ≡ mark ∷ (run ++ next ∷ behind)
  pub opens : mark.text ≡ opening ∷ []
  pub closes : next.text ≡ closing ∷ []
  pub texts : token_texts run ≡ ws
  pub placed : IsPlace place run next
  pub more : More behind

-- the parts stand at the front of the tokens, and these behind them
abbrev pub Fits : List Part → List Token → List Token → Type 0
Fits [] rest ts = ts ≡ rest
Fits (Fixed w ∷ ps) rest ts = FitsFixed w ts (Fits ps rest)
Fits (Slot opening place ws closing ∷ ps) rest ts = FitsSlot opening place ws closing ts (Fits ps rest)
