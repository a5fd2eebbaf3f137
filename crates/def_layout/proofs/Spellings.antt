-- Which values tokens of some texts spell, form by form, where no place is asked for.
use Rattle.std.proofs.Common.{◌≡◌, ℕ, Bool, true, List, [], ◌∷◌, ◌++◌, append_assoc, map, refl, sym, ap, ◌∙◌, subst, inl, inr, Option, Some, None, codes}
use Rattle.std.specs.List.{flat_map, list_all}
use Rattle.std.proofs.lemmas.Bool.{and_parts}
use Prim.Native.String.{String}
use Rattle.token_forms.specs.Tokens.{Token}
use Rattle.token_forms.specs.Parts.{token_texts}
use Rattle.token_forms.specs.Classes.{Class, is_in}
use Rattle.token_forms.specs.Forms.{Form, word, text, ◌&◌, made, made_if, ◌▸◌, ◌◂◌, ◌or◌, maybe, many, some, put_all, gathered, AreMany}

-- tokens of these texts spell the value
abbrev pub Spells : {X : Type 0} → Form X → X → List (List ℕ) → Type 0
Spells f x ws = (ts : List Token) → token_texts ts ≡ ws → f.spells x ts

-- tokens cut where their texts are
pub record Cut (ts : List Token) (ws vs : List (List ℕ)) : Type 0 where
  pub front : List Token
  pub back : List Token
  pub is : ts ≡ front ++ back
  pub first : token_texts front ≡ ws
  pub second : token_texts back ≡ vs

pub cut_texts : (ts : List Token) (ws vs : List (List ℕ)) → token_texts ts ≡ ws ++ vs → Cut ts ws vs
cut_texts ts [] vs e = record { front = []; back = ts; is = refl; first = refl; second = e }
cut_texts [] (w ∷ ws) vs e = absurd cc
cut_texts (t ∷ ts) (w ∷ ws) vs e =
    let here : t.text ≡ w = cc in
    let r = cut_texts ts ws vs cc in
    record { front = t ∷ r.front; back = r.back; is = ap (λ (l : List Token). t ∷ l) r.is; first = rw (here, r.first) refl; second = r.second }

pub word_spells : (w : List ℕ) → Spells (word w) tt (w ∷ [])
word_spells w [] e = absurd cc
word_spells w (t ∷ []) e = record { token = t; is = refl; text = cc }
word_spells w (t ∷ u ∷ ts) e = absurd cc

pub text_spells : (kind : Class) (test : List ℕ → Bool) (w : List ℕ) → is_in kind w ≡ true → test w ≡ true → Spells (text kind test) w (w ∷ [])
text_spells kind test w is passes [] e = absurd cc
text_spells kind test w is passes (t ∷ []) e = record { token = t; is = refl; text = cc; kind_is = is; passes = passes }
text_spells kind test w is passes (t ∷ u ∷ ts) e = absurd cc

module _ {X : Type 0} (a : Form X) where
  pub left_spells : (b : Form X) (x : X) (ws : List (List ℕ)) → Spells a x ws → Spells (a or b) x ws
  left_spells b x ws f ts e = inl (f ts e)

  pub right_spells : (b : Form X) (x : X) (ws : List (List ℕ)) → Spells b x ws → Spells (a or b) x ws
  right_spells b x ws f ts e = inr (f ts e)

  pub none_spells : Spells (maybe a) None []
  none_spells [] e = refl
  none_spells (t ∷ ts) e = absurd cc

  pub maybe_spells : (x : X) (ws : List (List ℕ)) → Spells a x ws → Spells (maybe a) (Some x) ws
  maybe_spells x ws f ts e = f ts e

  pub many_nil : Spells (many a) [] []
  many_nil [] e = refl
  many_nil (t ∷ ts) e = absurd cc

  pub many_cons : (x : X) (xs : List X) (ws vs : List (List ℕ)) → Spells a x ws → Spells (many a) xs vs → Spells (many a) (x ∷ xs) (ws ++ vs)
  many_cons x xs ws vs f g ts e = let c = cut_texts ts ws vs e in record { front = c.front; back = c.back; is = c.is; first = f c.front c.first; second = g c.back c.second }

  pub some_spells : (x : X) (xs : List X) (ws vs : List (List ℕ)) → Spells a x ws → Spells (many a) xs vs → Spells (some a) (x ∷ xs) (ws ++ vs)
  some_spells x xs ws vs f g ts e =
      let c = cut_texts ts ws vs e in
      record { parts = (x, xs); is = refl; holds = record { front = c.front; back = c.back; is = c.is; first = f c.front c.first; second = g c.back c.second } }

  pub before_spells : (w : String) (x : X) (ws : List (List ℕ)) → Spells a x ws → Spells (w ▸ a) x (codes w ∷ ws)
  before_spells w x ws f ts e =
      let c = cut_texts ts (codes w ∷ []) ws e in
      record { parts = (tt, x); is = refl; holds = record { front = c.front; back = c.back; is = c.is; first = word_spells (codes w) c.front c.first; second = f c.back c.second } }

  pub behind_spells : (w : String) (x : X) (ws : List (List ℕ)) → Spells a x ws → Spells (a ◂ w) x (ws ++ codes w ∷ [])
  behind_spells w x ws f ts e =
      let c = cut_texts ts ws (codes w ∷ []) e in
      record { parts = (x, tt); is = refl; holds = record { front = c.front; back = c.back; is = c.is; first = f c.front c.first; second = word_spells (codes w) c.back c.second } }

module _ {A B : Type 0} (a : Form A) (b : Form B) where
  pub seq_spells : (x : A) (y : B) (ws vs : List (List ℕ)) → Spells a x ws → Spells b y vs → Spells (a & b) (x, y) (ws ++ vs)
  seq_spells x y ws vs f g ts e = let c = cut_texts ts ws vs e in record { front = c.front; back = c.back; is = c.is; first = f c.front c.first; second = g c.back c.second }

  pub gathered_spells : (put : A → B → Option A) (s x : A) (xs : List B) (ws vs : List (List ℕ)) → Spells a s ws → Spells (many b) xs vs → put_all put s xs ≡ Some x → Spells (gathered a put b) x (ws ++ vs)
  gathered_spells put s x xs ws vs f g is ts e =
      let c = cut_texts ts ws vs e in
      record { parts = (s, xs); is = is; holds = record { front = c.front; back = c.back; is = c.is; first = f c.front c.first; second = g c.back c.second } }

module _ {A B : Type 0} (a : Form A) where
  pub made_spells : (f : A → B) (p : A) (ws : List (List ℕ)) → Spells a p ws → Spells (made f a) (f p) ws
  made_spells f p ws h ts e = record { parts = p; is = refl; holds = h ts e }

  pub made_if_spells : (f : A → Option B) (p : A) (x : B) (ws : List (List ℕ)) → f p ≡ Some x → Spells a p ws → Spells (made_if f a) x ws
  made_if_spells f p x ws is h ts e = record { parts = p; is = is; holds = h ts e }

-- values of some items one behind the other
pub each_spells : {X Y : Type 0} (a : Form X) (value : Y → X) (words : Y → List (List ℕ)) (test : Y → Bool) → ((y : Y) → test y ≡ true → Spells a (value y) (words y)) → (ys : List Y) → list_all test ys ≡ true
    → Spells (many a) (map value ys) (flat_map words ys)
each_spells a value words test f [] all = many_nil a
each_spells a value words test f (y ∷ ys) all =
    let h = and_parts (test y) (list_all test ys) all in
    many_cons a (value y) (map value ys) (words y) (flat_map words ys) (f y h.0) (each_spells a value words test f ys h.1)

-- values behind values
pub are_both : {X : Type 0} (P : X → List Token → Type 0) (xs ys : List X) (front back : List Token) → AreMany P xs front → AreMany P ys back → AreMany P (xs ++ ys) (front ++ back)
are_both P [] ys front back h k = subst (λ (ts : List Token). AreMany P ys (ts ++ back)) (sym h) k
are_both P (x ∷ xs) ys front back h k =
    record { front = h.front; back = h.back ++ back; is = ap (λ (ts : List Token). ts ++ back) h.is ∙ append_assoc h.front h.back back; first = h.first; second = are_both P xs ys h.back back h.second k }

pub many_both : {X : Type 0} (a : Form X) (xs ys : List X) (ws vs : List (List ℕ)) → Spells (many a) xs ws → Spells (many a) ys vs → Spells (many a) (xs ++ ys) (ws ++ vs)
many_both a xs ys ws vs f g ts e =
    let c = cut_texts ts ws vs e in
    subst (λ (us : List Token). AreMany a.spells (xs ++ ys) us) (sym c.is) (are_both a.spells xs ys c.front c.back (f c.front c.first) (g c.back c.second))
