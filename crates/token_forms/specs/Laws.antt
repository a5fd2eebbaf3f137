-- What holds of each form that is made by the words of Forms.
use Rattle.std.specs.Prelude.{◌≡◌, true, false, List, [], ◌∷◌, ◌++◌, Some, Result, Ok, Err}
use Rattle.token_forms.specs.Tokens.{Token}
use Rattle.base_types.specs.declared.stop.Stop.{Stop}
use Rattle.base_types.specs.declared.stop.Stop.TheVariants as stops
use Rattle.token_forms.specs.Classes.{is_in_any, begins}
use Rattle.token_forms.specs.Forms.{Form, AreMany}

-- tokens that spell the value stand in front of the rest
pub record Stands (P : List Token → Type 0) (ts rest : List Token) : Type 0 where
  pub front : List Token
  pub is : ts ≡ front ++ rest
  pub holds : P front

-- the two readings of a form agree
pub record IsLawful {X : Type 0} (f : Form X) : Type 0 where
  -- what is read is spelled so
  pub spelled : (ts : List Token) (x : X) (rest : List Token) → f.reads ts ≡ Some (x, rest) → Stands (f.spells x) ts rest
  -- what is spelled so is read, before anything with which it couldn't go on
  pub read : f.is_clear ≡ true → (x : X) (front rest : List Token) → f.spells x front → begins f.goes_on rest ≡ false → f.reads (front ++ rest) ≡ Some (x, rest)
  pub first : (x : X) (t : Token) (ts : List Token) → f.spells x (t ∷ ts) → is_in_any f.starts t.text ≡ true
  pub not_empty : f.may_be_empty ≡ false → (x : X) → f.spells x [] → ⊥

-- a value and no other is spelled by the tokens, or none is; which want of memory may hide
abbrev pub IsExactly : {X : Type 0} → Result X Stop → Form X → List Token → Type 0
IsExactly (Ok x) f ts = f.spells x ts × ((y : _) → f.spells y ts → y ≡ x)
IsExactly (Err stops.NoForm) f ts = (y : _) → f.spells y ts → ⊥
IsExactly (Err stops.NoMemory) f ts = Unit {0}

-- the value that stands in front of the rest, and no other; or none stands in front of anything
abbrev pub IsExactlyFirst : {X : Type 0} → Result X Stop → Form X → List Token → List Token → Type 0
IsExactlyFirst (Ok x) f ts rest = Stands (f.spells x) ts rest × ((y : _) (other : List Token) → Stands (f.spells y) ts other → (y ≡ x) × (other ≡ rest))
IsExactlyFirst (Err stops.NoForm) f ts rest = (y : _) (other : List Token) → Stands (f.spells y) ts other → ⊥
IsExactlyFirst (Err stops.NoMemory) f ts rest = Unit {0}

-- values one behind the other, and then a token with which none begins; or, behind such values, one that begins and is of no form
abbrev pub AreExactly : {X : Type 0} → Result (List X) Stop → Form X → List Token → List Token → Type 0
AreExactly {X} (Ok xs) f ts rest =
    Stands (AreMany f.spells xs) ts rest × (begins f.starts rest ≡ false)
    × ((ys : List X) (other : List Token) → Stands (AreMany f.spells ys) ts other → begins f.starts other ≡ false → (ys ≡ xs) × (other ≡ rest))
AreExactly {X} (Err stops.NoForm) f ts rest =
    (xs : List X) × Stands (AreMany f.spells xs) ts rest × (begins f.starts rest ≡ true) × ((y : X) (other : List Token) → Stands (f.spells y) rest other → ⊥)
AreExactly (Err stops.NoMemory) f ts rest = Unit {0}

-- nothing goes on behind a value, as where it ends with a mark
pub record IsStatement {X : Type 0} (f : Form X) : Type 0 where
  pub lawful : IsLawful f
  pub clear : f.is_clear ≡ true
  pub full : f.may_be_empty ≡ false
  pub closed : f.goes_on ≡ []
