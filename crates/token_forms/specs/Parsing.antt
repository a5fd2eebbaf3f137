-- What the functions of a reader take from the front of some tokens: a value and the tokens behind it, or None where
-- the tokens match no form.
use Rattle.std.specs.Prelude.{◌≡◌, ℕ, if◌then◌else◌, List, [], ◌∷◌, Option, Some, None, option_and_then, Result, Ok, Err}
use Rattle.std.specs.Str.{bytes_eq}
use Rattle.token_forms.specs.Tokens.{Token}
use Rattle.base_types.specs.declared.stop.Stop.{Stop}
use Rattle.base_types.specs.declared.stop.Stop.TheVariants as stops

-- what a value leads to, if there is one
infixl 10 ◌>>=◌
abbrev pub ◌>>=◌ : {A B : Type 0} → Option A → (A → Option B) → Option B
o >>= f = option_and_then f o

-- what a function of the code read: the value and the tokens behind it, or that the tokens match no form
abbrev pub Gives : {X : Type 0} → Result X Stop → List Token → Option (X × List Token) → Type 0
Gives (Ok x) rest read = read ≡ Some (x, rest)
Gives (Err stops.NoForm) rest read = read ≡ None
Gives (Err stops.NoMemory) rest read = Unit {0}

-- the same where nothing is left behind the value
abbrev pub GivesAll : {X : Type 0} → Result X Stop → Option X → Type 0
GivesAll (Ok x) read = read ≡ Some x
GivesAll (Err stops.NoForm) read = read ≡ None
GivesAll (Err stops.NoMemory) read = Unit {0}

-- a call that takes no memory never wants any
abbrev pub TakesNoMemory : {X : Type 0} → Result X Stop → Type 0
TakesNoMemory (Ok x) = Unit {0}
TakesNoMemory (Err stops.NoForm) = Unit {0}
TakesNoMemory (Err stops.NoMemory) = ⊥

-- a token with this text
unfoldable pub word_at : List ℕ → List Token → Option (Unit {0} × List Token)
word_at word [] = None
word_at word (t ∷ ts) = if bytes_eq t.text word then Some (tt, ts) else None
