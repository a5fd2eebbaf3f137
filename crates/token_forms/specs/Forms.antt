-- Grammars as values. A form says which tokens spell a value of its type; the same form reads the value from the front of
-- tokens, by one token of foresight. What the form reads is spelled so, and what is spelled so is read: proofs/Laws.
use Rattle.std.specs.Prelude.{◌≡◌, ◌-◌, ◌==◌, ◌+◌, ℕ, zero, suc, Bool, true, false, ◌&&◌, ◌||◌, not, if◌then◌else◌, List, [], ◌∷◌, ◌++◌, length, Option, Some, None, IsSomeAnd, codes, ◌⊎◌}
use Prim.Native.String.{String}
use Rattle.std.specs.Str.{bytes_eq}
use Rattle.token_forms.specs.Tokens.{Token, place_of, run_place, front_of}
use Rattle.base_types.specs.declared.span.Span.{Span}
use Rattle.token_forms.specs.Parsing.{◌>>=◌, word_at}
use Rattle.token_forms.specs.Classes.{Class, Only, is_in, all_apart, begins}

-- Read `spells` for the meaning: these tokens, all of them, spell the value. The rest is for reading.
pub record Form (X : Type 0) : Type 1 where
  pub spells : X → List Token → Type 0
  -- the value at the front, and the tokens behind it
  pub reads : List Token → Option (X × List Token)
  -- the tokens that may come first, and those with which a longer value of the form could go on
  pub starts : List Class
  pub goes_on : List Class
  pub may_be_empty : Bool
  -- one token of foresight decides
  pub is_clear : Bool

-- the tokens are cut in two
pub record Split (P Q : List Token → Type 0) (ts : List Token) : Type 0 where
  pub front : List Token
  pub back : List Token
  pub is : ts ≡ front ++ back
  pub first : P front
  pub second : Q back

-- nothing is cut off in front or behind
abbrev pub IsNothing : List Token → Type 0
IsNothing ts = ts ≡ []

-- the tokens are the one word
pub record IsWord (word : List ℕ) (ts : List Token) : Type 0 where
  pub token : Token
  pub is : ts ≡ token ∷ []
  pub text : token.text ≡ word

-- a token with this text
abbrev pub word : List ℕ → Form (Unit {0})
word w =
    record { spells = λ nothing. IsWord w; reads = word_at w; starts = Only (w ∷ []) ∷ []; goes_on = []; may_be_empty = false; is_clear = true }

-- the same, read at a text with quotes
abbrev pub key : String → Form (Unit {0})
key w = word (codes w)

-- the tokens are one, whose text is the value
pub record IsText (kind : Class) (test : List ℕ → Bool) (value : List ℕ) (ts : List Token) : Type 0 where
  pub token : Token
  pub is : ts ≡ token ∷ []
  pub text : token.text ≡ value
  pub kind_is : is_in kind value ≡ true
  pub passes : test value ≡ true

-- the text of the first token, if it is of the class and passes the test
unfoldable pub text_at : Class → (List ℕ → Bool) → List Token → Option (List ℕ × List Token)
text_at kind test [] = None
text_at kind test (t ∷ ts) = if (is_in kind t.text && test t.text) then Some (t.text, ts) else None

-- a token of the class that passes a test, as its text
abbrev pub text : Class → (List ℕ → Bool) → Form (List ℕ)
text kind test =
    record { spells = IsText kind test; reads = text_at kind test; starts = kind ∷ []; goes_on = []; may_be_empty = false; is_clear = true }

-- one behind the other
infixr 20 ◌&◌
abbrev pub ◌&◌ : {A B : Type 0} → Form A → Form B → Form (A × B)
a & b =
    record {
      spells = λ x ts. Split (a.spells x.0) (b.spells x.1) ts;
      reads = λ ts. a.reads ts >>= λ x. b.reads x.1 >>= λ y. Some ((x.0, y.0), y.1);
      starts = a.starts ++ (if a.may_be_empty then b.starts else []);
      goes_on = b.goes_on ++ (if b.may_be_empty then a.goes_on else []);
      may_be_empty = a.may_be_empty && b.may_be_empty;
      is_clear = a.is_clear && (b.is_clear && all_apart a.goes_on b.starts);
    }

-- the value is made of parts of which this holds
pub record IsMade {A X : Type 0} (f : A → X) (P : A → Type 0) (x : X) : Type 0 where
  pub parts : A
  pub is : f parts ≡ x
  pub holds : P parts

-- a value made of what another form spells
abbrev pub made : {A X : Type 0} → (A → X) → Form A → Form X
made f a =
    record {
      spells = λ x ts. IsMade f (λ p. a.spells p ts) x;
      reads = λ ts. a.reads ts >>= λ p. Some (f p.0, p.1);
      starts = a.starts;
      goes_on = a.goes_on;
      may_be_empty = a.may_be_empty;
      is_clear = a.is_clear;
    }

-- a word in front, or behind, of which the value says nothing
infixr 20 ◌▸◌
abbrev pub ◌▸◌ : {A : Type 0} → String → Form A → Form A
w ▸ a = made (λ x. x.1) (key w & a)

-- a form and a word behind it
infixl 15 ◌◂◌
abbrev pub ◌◂◌ : {A : Type 0} → Form A → String → Form A
a ◂ w = made (λ x. x.0) (a & key w)

-- this holds of the value, and it passes the test
pub record Passes {X : Type 0} (P : X → Type 0) (test : X → Bool) (x : X) : Type 0 where
  pub holds : P x
  pub passes : test x ≡ true

-- only the values that pass a test
infixl 12 ◌only_if◌
abbrev pub ◌only_if◌ : {X : Type 0} → Form X → (X → Bool) → Form X
a only_if test =
    record {
      spells = λ x ts. Passes (λ y. a.spells y ts) test x;
      reads = λ ts. a.reads ts >>= λ p. if test p.0 then Some p else None;
      starts = a.starts;
      goes_on = a.goes_on;
      may_be_empty = a.may_be_empty;
      is_clear = a.is_clear;
    }

-- the one or the other, as the first token says
infixr 10 ◌or◌
abbrev pub ◌or◌ : {X : Type 0} → Form X → Form X → Form X
a or b =
    record {
      spells = λ x ts. a.spells x ts ⊎ b.spells x ts;
      reads = λ ts. if begins a.starts ts then a.reads ts else b.reads ts;
      starts = a.starts ++ b.starts;
      goes_on = a.goes_on ++ (b.goes_on ++ (if b.may_be_empty then a.starts else []));
      may_be_empty = a.may_be_empty || b.may_be_empty;
      is_clear = (a.is_clear && not a.may_be_empty) && (b.is_clear && all_apart a.starts b.starts);
    }

-- the tokens spell the value, or are none where there is no value
abbrev pub IsMaybe : {X : Type 0} → (X → List Token → Type 0) → Option X → List Token → Type 0
IsMaybe P None ts = IsNothing ts
IsMaybe P (Some x) ts = P x ts

-- a value, or none
abbrev pub maybe : {X : Type 0} → Form X → Form (Option X)
maybe a =
    record {
      spells = IsMaybe a.spells;
      reads = λ ts. if begins a.starts ts then (a.reads ts >>= λ p. Some (Some p.0, p.1)) else Some (None, ts);
      starts = a.starts;
      goes_on = a.goes_on ++ a.starts;
      may_be_empty = true;
      is_clear = a.is_clear && not a.may_be_empty;
    }

-- the tokens spell the values, one behind the other
abbrev pub AreMany : {X : Type 0} → (X → List Token → Type 0) → List X → List Token → Type 0
AreMany P [] ts = IsNothing ts
AreMany P (x ∷ xs) ts = Split (P x) (AreMany P xs) ts

-- as many as there are, which are no more than so many
unfoldable pub many_within : {X : Type 0} → List Class → (List Token → Option (X × List Token)) → ℕ → List Token → Option (List X × List Token)
many_within starts reads zero ts = if begins starts ts then None else Some ([], ts)
many_within starts reads (suc n) ts =
    if begins starts ts then (reads ts >>= λ x. many_within starts reads n x.1 >>= λ xs. Some (x.0 ∷ xs.0, xs.1)) else Some ([], ts)

-- values as long as one begins
unfoldable pub many_at : {X : Type 0} → List Class → (List Token → Option (X × List Token)) → List Token → Option (List X × List Token)
many_at starts reads ts = many_within starts reads (length ts) ts

-- values one behind the other, also none
abbrev pub many : {X : Type 0} → Form X → Form (List X)
many a =
    record {
      spells = AreMany a.spells;
      reads = many_at a.starts a.reads;
      starts = a.starts;
      goes_on = a.goes_on ++ a.starts;
      may_be_empty = true;
      is_clear = a.is_clear && (not a.may_be_empty && all_apart a.goes_on a.starts);
    }

-- one or more
abbrev pub some : {X : Type 0} → Form X → Form (List X)
some a = made (λ x. x.0 ∷ x.1) (a & many a)

-- one or more, with a word between them
abbrev pub listed : {X : Type 0} → Form X → String → Form (List X)
listed a w = made (λ x. x.0 ∷ x.1) (a & many (w ▸ a))

-- tokens that pass unread: those of one class, and brackets, in which those of another class stand
pub record Passing : Type 0 where
  pub outside : Class
  pub opens : List ℕ
  pub closes : List ℕ
  pub inside : Class

-- how many brackets are open behind a token, where it may pass
abbrev pub depth_behind : Passing → ℕ → List ℕ → Option ℕ
depth_behind p depth text =
    if bytes_eq text p.opens then Some (depth + 1)
    else if depth == 0 then (if is_in p.outside text then Some 0 else None)
    else if bytes_eq text p.closes then Some (depth - 1)
    else if is_in p.inside text then Some depth else None

-- each may pass, and each bracket is closed
abbrev pub AllPass : Passing → ℕ → List Token → Type 0
AllPass p depth [] = depth ≡ 0
AllPass p depth (t ∷ ts) = IsSomeAnd (depth_behind p depth t.text) (λ d. AllPass p d ts)

-- tokens that are passed unread, in balanced brackets
pub record IsPassing (p : Passing) (ts : List Token) : Type 0 where
  pub all : AllPass p 0 ts

-- passing tokens from a depth of brackets on
unfoldable pub passes_at : Passing → ℕ → List Token → Option (Unit {0} × List Token)
passes_at p depth [] = if depth == 0 then Some (tt, []) else None
passes_at p depth (t ∷ ts) =
    elim (depth_behind p depth t.text) [ None ↦ if depth == 0 then Some (tt, t ∷ ts) else None | Some d ↦ passes_at p d ts ]

-- the form of tokens that are passed unread
abbrev pub passed : Passing → Form (Unit {0})
passed p =
    record {
      spells = λ nothing. IsPassing p;
      reads = passes_at p 0;
      starts = Only (p.opens ∷ []) ∷ p.outside ∷ [];
      goes_on = Only (p.opens ∷ []) ∷ p.outside ∷ [];
      may_be_empty = true;
      is_clear = true;
    }

-- the tokens spell the value, and stand at the place
pub record IsAt {X : Type 0} (P : X → List Token → Type 0) (x : X × Span) (ts : List Token) : Type 0 where
  pub holds : P x.0 ts
  pub place : x.1 ≡ place_of ts

-- a value, and where it stands
abbrev pub at : {X : Type 0} → Form X → Form (X × Span)
at a =
    record {
      spells = IsAt a.spells;
      reads = λ ts. a.reads ts >>= λ p. Some ((p.0, place_of (front_of ts p.1)), p.1);
      starts = a.starts;
      goes_on = a.goes_on;
      may_be_empty = a.may_be_empty;
      is_clear = a.is_clear;
    }

-- an opening mark, a run, and a closing mark; the place is the run's
pub record IsBetween (opening closing : List ℕ) (P : List Token → Type 0) (place : Span) (ts : List Token) : Type 0 where
  pub mark : Token
  pub run : List Token
  pub next : Token
  pub is : ts ≡ mark ∷ (run ++ next ∷ [])
  pub opens : mark.text ≡ opening
  pub holds : P run
  pub closes : next.text ≡ closing
  pub placed : place ≡ run_place run (next ∷ [])

-- a value between two marks, and where it stands: of no tokens, in the empty place before the closing mark
abbrev pub between : {A : Type 0} → String → Form A → String → Form (A × Span)
between w a v =
    record {
      spells = λ x ts. IsBetween (codes w) (codes v) (a.spells x.0) x.1 ts;
      reads = λ ts. word_at (codes w) ts >>= λ o. a.reads o.1 >>= λ x. word_at (codes v) x.1 >>= λ c. Some ((x.0, run_place (front_of o.1 x.1) x.1), c.1);
      starts = Only (codes w ∷ []) ∷ [];
      goes_on = [];
      may_be_empty = false;
      is_clear = a.is_clear && all_apart a.goes_on (Only (codes v ∷ []) ∷ []);
    }

-- the value is made of parts, where they make one
pub record IsMadeIf {A X : Type 0} (f : A → Option X) (P : A → Type 0) (x : X) : Type 0 where
  pub parts : A
  pub is : f parts ≡ Some x
  pub holds : P parts

-- a value made of what another form spells, where that makes one
abbrev pub made_if : {A X : Type 0} → (A → Option X) → Form A → Form X
made_if f a =
    record {
      spells = λ x ts. IsMadeIf f (λ p. a.spells p ts) x;
      reads = λ ts. a.reads ts >>= λ p. f p.0 >>= λ x. Some (x, p.1);
      starts = a.starts;
      goes_on = a.goes_on;
      may_be_empty = a.may_be_empty;
      is_clear = a.is_clear;
    }

-- what pieces make of a value one after the other, where each may be put to it
unfoldable pub put_all : {S X : Type 0} → (S → X → Option S) → S → List X → Option S
put_all put s [] = Some s
put_all put s (x ∷ xs) = put s x >>= λ t. put_all put t xs

-- what is read where pieces are put to a value
unfoldable pub gathered_at : {S X : Type 0} → (S → X → Option S) → List Class → (List Token → Option (X × List Token)) → S → List Token → Option (S × List Token)
gathered_at put starts reads s ts = many_at starts reads ts >>= λ p. put_all put s p.0 >>= λ t. Some (t, p.1)

-- a value and pieces that are put to it in any order
abbrev pub gathered : {S X : Type 0} → Form S → (S → X → Option S) → Form X → Form S
gathered {S} start put piece =
    record {
      spells = λ x ts. IsMadeIf (λ p. put_all put p.0 p.1) (λ p. (start & many piece).spells p ts) x;
      reads = λ ts. start.reads ts >>= λ s. gathered_at put piece.starts piece.reads s.0 s.1;
      starts = (start & many piece).starts;
      goes_on = (start & many piece).goes_on;
      may_be_empty = (start & many piece).may_be_empty;
      is_clear = (start & many piece).is_clear;
    }
