-- Tokens with the texts of some pieces are spelled by the forms that the words of Forms make of these.
use Rattle.std.proofs.Common.{◌≡◌, ℕ, Bool, true, List, [], ◌∷◌, ◌++◌, map, codes, refl, sym, ap, ◌∙◌, append_assoc, append-nil}
use Prim.Native.String.{String}
use Rattle.std.specs.List.{AllByRecursion as Each, flat_map}
use Rattle.base_types.specs.declared.span.Span.{Span}
use Rattle.token_forms.specs.Tokens.{Token, run_place}
use Rattle.token_forms.specs.Classes.{Class, is_in}
use Rattle.token_forms.specs.Parts.{Part, Fixed, list_parts, spelled, token_texts}
use Rattle.token_forms.specs.Forms.{Form, Split, IsWord, IsText, AreMany, between, listed, ◌▸◌, ◌◂◌}
use Rattle.token_forms.proofs.Spelled.{spelled_append}

pub no_texts : (ts : List Token) → token_texts ts ≡ [] → ts ≡ []
no_texts [] e = refl
no_texts (t ∷ ts) e = absurd cc

-- where the texts of tokens are cut, so are the tokens
pub record CutTexts (us ws : List (List ℕ)) (ts : List Token) : Type 0 where
  pub front : List Token
  pub behind : List Token
  pub is : ts ≡ front ++ behind
  pub first : token_texts front ≡ us
  pub second : token_texts behind ≡ ws

pub cut_texts : (us ws : List (List ℕ)) (ts : List Token) → token_texts ts ≡ us ++ ws → CutTexts us ws ts
cut_texts [] ws ts e = record { front = []; behind = ts; is = refl; first = refl; second = e }
cut_texts (u ∷ us) ws [] e = absurd cc
cut_texts (u ∷ us) ws (t ∷ ts) e =
    let text : t.text ≡ u = cc in
    let c = cut_texts us ws ts cc in
    record { front = t ∷ c.front; behind = c.behind; is = ap (λ (l : List Token). t ∷ l) {y = c.front ++ c.behind} c.is; first = rw (text, c.first) refl; second = c.second }

pub word_joined : (w : List ℕ) (ts : List Token) → token_texts ts ≡ w ∷ [] → IsWord w ts
word_joined w [] e = absurd cc
word_joined w (t ∷ []) e = record { token = t; is = refl; text = cc }
word_joined w (t ∷ u ∷ us) e = absurd cc

pub text_joined : (kind : Class) (test : List ℕ → Bool) (w : List ℕ) (ts : List Token) → is_in kind w ≡ true → test w ≡ true → token_texts ts ≡ w ∷ [] → IsText kind test w ts
text_joined kind test w ts k p e = let one = word_joined w ts e in record { token = one.token; is = one.is; text = one.text; kind_is = k; passes = p }

-- one behind the other, where the tokens are cut so
pub split_cut : {P Q : List Token → Type 0} {us ws : List (List ℕ)} {ts : List Token} → (c : CutTexts us ws ts) → P c.front → Q c.behind → Split P Q ts
split_cut c p q = record { front = c.front; back = c.behind; is = c.is; first = p; second = q }

pub split_joined : {P Q : List Token → Type 0} (us ws : List (List ℕ)) (ts : List Token) → ((vs : List Token) → token_texts vs ≡ us → P vs) → ((vs : List Token) → token_texts vs ≡ ws → Q vs)
    → token_texts ts ≡ us ++ ws → Split P Q ts
split_joined us ws ts f g e = let c = cut_texts us ws ts e in record { front = c.front; back = c.behind; is = c.is; first = f c.front c.first; second = g c.behind c.second }

-- a word in front, or behind
pub front_cut : {A : Type 0} (w : String) (a : Form A) (x : A) (ws : List (List ℕ)) (ts : List Token) → (c : CutTexts (codes w ∷ []) ws ts) → a.spells x c.behind → (w ▸ a).spells x ts
front_cut w a x ws ts c h = record { parts = (tt, x); is = refl; holds = record { front = c.front; back = c.behind; is = c.is; first = word_joined (codes w) c.front c.first; second = h } }

pub back_cut : {A : Type 0} (a : Form A) (w : String) (x : A) (us : List (List ℕ)) (ts : List Token) → (c : CutTexts us (codes w ∷ []) ts) → a.spells x c.front → (a ◂ w).spells x ts
back_cut a w x us ts c h = record { parts = (x, tt); is = refl; holds = record { front = c.front; back = c.behind; is = c.is; first = h; second = word_joined (codes w) c.behind c.second } }

pub front_joined : {A : Type 0} (w : String) (a : Form A) (x : A) (ws : List (List ℕ)) (ts : List Token) → ((vs : List Token) → token_texts vs ≡ ws → a.spells x vs) → token_texts ts ≡ codes w ∷ ws → (w ▸ a).spells x ts
front_joined w a x ws ts f e = let c = cut_texts (codes w ∷ []) ws ts e in front_cut w a x ws ts c (f c.behind c.second)

pub back_joined : {A : Type 0} (a : Form A) (w : String) (x : A) (us : List (List ℕ)) (ts : List Token) → ((vs : List Token) → token_texts vs ≡ us → a.spells x vs) → token_texts ts ≡ us ++ codes w ∷ [] → (a ◂ w).spells x ts
back_joined a w x us ts f e = let c = cut_texts us (codes w ∷ []) ts e in back_cut a w x us ts c (f c.front c.first)

-- a value that is equal to x but for places, which bare leaves out
pub record Joins {X Y : Type 0} (P : X → List Token → Type 0) (bare : X → Y) (x : X) (ts : List Token) : Type 0 where
  pub value : X
  pub holds : P value ts
  pub same : bare value ≡ bare x

-- a value between two marks stands somewhere
pub record JoinsBetween {A : Type 0} (w : String) (a : Form A) (v : String) (x : A) (ts : List Token) : Type 0 where
  pub place : Span
  pub holds : (between w a v).spells (x, place) ts

pub between_joined : {A : Type 0} (w : String) (a : Form A) (v : String) (x : A) (us : List (List ℕ)) (ts : List Token) → ((run : List Token) → token_texts run ≡ us → a.spells x run)
    → token_texts ts ≡ codes w ∷ (us ++ codes v ∷ []) → JoinsBetween w a v x ts
between_joined w a v x us ts f e =
    let o = cut_texts (codes w ∷ []) (us ++ codes v ∷ []) ts e in
    let c = cut_texts us (codes v ∷ []) o.behind o.second in
    let open_ = word_joined (codes w) o.front o.first in
    let close = word_joined (codes v) c.behind c.second in
    let inside : o.behind ≡ c.front ++ close.token ∷ [] = c.is ∙ ap (λ (l : List Token). c.front ++ l) close.is in
    record {
      place = run_place c.front (close.token ∷ []);
      holds = record {
        mark = open_.token;
        run = c.front;
        next = close.token;
        is = o.is ∙ ap (λ (l : List Token). l ++ o.behind) open_.is ∙ ap (λ (l : List Token). open_.token ∷ l) inside;
        opens = open_.text;
        holds = f c.front c.first;
        closes = close.text;
        placed = refl;
      };
    }

-- values
pub record JoinsAll {X Y : Type 0} (P : List X → List Token → Type 0) (bare : X → Y) (xs : List X) (ts : List Token) : Type 0 where
  pub values : List X
  pub holds : P values ts
  pub same : map bare values ≡ map bare xs

pub many_joined : {X Y : Type 0} (P : X → List Token → Type 0) (bare : X → Y) (texts : X → List (List ℕ)) (Good : X → Type 0)
    → ((x : X) (ts : List Token) → Good x → token_texts ts ≡ texts x → Joins P bare x ts) → (xs : List X) (ts : List Token) → Each Good xs → token_texts ts ≡ flat_map texts xs → JoinsAll (AreMany P) bare xs ts
many_joined P bare texts Good law [] ts good e = record { values = []; holds = no_texts ts e; same = refl }
many_joined P bare texts Good law (x ∷ xs) ts good e =
    let c = cut_texts (texts x) (flat_map texts xs) ts e in
    let one = law x c.front good.0 c.first in
    let more = many_joined P bare texts Good law xs c.behind good.1 c.second in
    record { values = one.value ∷ more.values; holds = record { front = c.front; back = c.behind; is = c.is; first = one.holds; second = more.holds }; same = rw (one.same, more.same) refl }

-- with commas between them
abbrev pub comma_texts : {X : Type 0} → (X → List (List ℕ)) → X → List (List ℕ)
comma_texts texts x = (44 ∷ []) ∷ texts x

abbrev pub listed_texts : {X : Type 0} → (X → List (List ℕ)) → List X → List (List ℕ)
listed_texts texts [] = []
listed_texts texts (x ∷ xs) = texts x ++ flat_map (comma_texts texts) xs

module _ {X Y : Type 0} (f : Form X) (bare : X → Y) (texts : X → List (List ℕ)) (Good : X → Type 0)
    (law : (x : X) (ts : List Token) → Good x → token_texts ts ≡ texts x → Joins f.spells bare x ts) where
  comma_joined : (x : X) (ts : List Token) → Good x → token_texts ts ≡ comma_texts texts x → Joins ("," ▸ f).spells bare x ts
  comma_joined x ts good e =
      let c = cut_texts ((44 ∷ []) ∷ []) (texts x) ts e in
      let one = law x c.behind good c.second in
      record {
        value = one.value;
        holds = front_cut "," f one.value (texts x) ts c one.holds;
        same = one.same;
      }

  pub listed_joined : (x : X) (xs : List X) (ts : List Token) → Each Good (x ∷ xs) → token_texts ts ≡ listed_texts texts (x ∷ xs) → JoinsAll (listed f ",").spells bare (x ∷ xs) ts
  listed_joined x xs ts good e =
      let c = cut_texts (texts x) (flat_map (comma_texts texts) xs) ts e in
      let one = law x c.front good.0 c.first in
      let more = many_joined ("," ▸ f).spells bare (comma_texts texts) Good comma_joined xs c.behind good.1 c.second in
      record {
        values = one.value ∷ more.values;
        holds = record { parts = (one.value, more.values); is = refl; holds = record { front = c.front; back = c.behind; is = c.is; first = one.holds; second = more.holds } };
        same = rw (one.same, more.same) refl;
      }

-- a list of parts
pub list_texts : {X : Type 0} (parts : X → List Part) (closing : ℕ) (xs : List X) → spelled (list_parts parts closing xs) ≡ listed_texts (λ x. spelled (parts x)) xs ++ (closing ∷ []) ∷ []
list_texts parts closing [] = refl
list_texts parts closing (x ∷ []) =
    spelled_append (parts x) (Fixed (closing ∷ []) ∷ []) ∙ ap (λ (l : List (List ℕ)). l ++ (closing ∷ []) ∷ []) (sym (append-nil (spelled (parts x))))
list_texts {X = X} parts closing (x ∷ y ∷ ys) =
    spelled_append (parts x) (Fixed (44 ∷ []) ∷ list_parts parts closing (y ∷ ys))
    ∙ ap (λ (l : List (List ℕ)). spelled (parts x) ++ (44 ∷ []) ∷ l) (list_texts parts closing (y ∷ ys))
    ∙ sym (append_assoc (spelled (parts x)) (flat_map (comma_texts (λ (x : X). spelled (parts x))) (y ∷ ys)) ((closing ∷ []) ∷ []))
