-- What a form spells, as parts: the pieces that the words of Forms make it of, as tokens with these texts.
use Rattle.std.proofs.Common.{◌≡◌, ℕ, ◌<◌, Bool, List, [], ◌∷◌, ◌++◌, length, map, codes, refl, sym, ap, ◌∙◌, subst, append_assoc, arith}
use Prim.Native.String.{String}
use Rattle.std.proofs.lemmas.List.{map-append}
use Rattle.std.specs.List.{AllByRecursion as Each, flat_map}
use Rattle.base_types.specs.declared.span.Span.{Span}
use Rattle.token_forms.specs.Tokens.{Token, last_end_of, run_place}
use Rattle.token_forms.specs.Classes.{Class}
use Rattle.token_forms.specs.Parts.{Part, Fixed, Slot, list_parts, token_texts, last_end, IsPlace, Fits}
use Rattle.token_forms.specs.Forms.{Form, Split, IsWord, IsText, IsBetween, AreMany, listed, ◌▸◌, ◌◂◌}
use Rattle.token_forms.proofs.Spelled.{fits-append}

pub word_texts : (w : List ℕ) (ts : List Token) → IsWord w ts → token_texts ts ≡ w ∷ []
word_texts w ts s = ap token_texts s.is ∙ ap (λ (v : List ℕ). v ∷ []) s.text

pub text_texts : (kind : Class) (test : List ℕ → Bool) (w : List ℕ) (ts : List Token) → IsText kind test w ts → token_texts ts ≡ w ∷ []
text_texts kind test w ts s = ap token_texts s.is ∙ ap (λ (v : List ℕ). v ∷ []) s.text

pub split_texts : {P Q : List Token → Type 0} (ts : List Token) (s : Split P Q ts) → token_texts ts ≡ token_texts s.front ++ token_texts s.back
split_texts ts s = ap token_texts s.is ∙ map-append (λ t. t.text) s.front s.back

-- a word in front or behind, and a value
pub behind_word : {A : Type 0} (w : String) (a : Form A) (x : A) (ts : List Token) → (w ▸ a).spells x ts → Split (IsWord (codes w)) (a.spells x) ts
behind_word {A = A} w a x ts m = record { front = m.holds.front; back = m.holds.back; is = m.holds.is; first = m.holds.first; second = subst (λ (y : A). a.spells y m.holds.back) m.is m.holds.second }

pub before_word : {A : Type 0} (a : Form A) (w : String) (x : A) (ts : List Token) → (a ◂ w).spells x ts → Split (a.spells x) (IsWord (codes w)) ts
before_word {A = A} a w x ts m = record { front = m.holds.front; back = m.holds.back; is = m.holds.is; first = subst (λ (y : A). a.spells y m.holds.front) m.is m.holds.first; second = m.holds.second }

-- the parts stand there, whatever is behind them
pub record Makes (ps : List Part) (ts : List Token) : Type 0 where
  pub fits : (rest : List Token) → Fits ps rest (ts ++ rest)

pub makes_nothing : (ts : List Token) → ts ≡ [] → Makes [] ts
makes_nothing ts none = record { fits = λ rest. ap (λ (l : List Token). l ++ rest) none }

pub makes_word : (w : List ℕ) (ts : List Token) → IsWord w ts → Makes (Fixed w ∷ []) ts
makes_word w ts s = record { fits = λ rest. record { token = s.token; behind = rest; is = ap (λ (l : List Token). l ++ rest) s.is; text = s.text; more = refl } }

pub makes_text : (kind : Class) (test : List ℕ → Bool) (w : List ℕ) (ts : List Token) → IsText kind test w ts → Makes (Fixed w ∷ []) ts
makes_text kind test w ts s = record { fits = λ rest. record { token = s.token; behind = rest; is = ap (λ (l : List Token). l ++ rest) s.is; text = s.text; more = refl } }

pub makes_texts : (ts : List Token) → Makes (map Fixed (token_texts ts)) ts
makes_texts [] = record { fits = λ rest. refl }
makes_texts (t ∷ ts) = let more = makes_texts ts in record { fits = λ rest. record { token = t; behind = ts ++ rest; is = refl; text = refl; more = more.fits rest } }

-- parts one behind the other
pub makes_join : (ps qs : List Part) (us vs : List Token) → Makes ps us → Makes qs vs → Makes (ps ++ qs) (us ++ vs)
makes_join ps qs us vs a b =
    record { fits = λ rest. fits-append ps qs ((us ++ vs) ++ rest) (vs ++ rest) rest (subst (Fits ps (vs ++ rest)) (sym (append_assoc us vs rest)) (a.fits (vs ++ rest))) (b.fits rest) }

pub makes_split : {P Q : List Token → Type 0} (ps qs : List Part) (ts : List Token) (s : Split P Q ts) → Makes ps s.front → Makes qs s.back → Makes (ps ++ qs) ts
makes_split ps qs ts s a b = subst (Makes (ps ++ qs)) (sym s.is) (makes_join ps qs s.front s.back a b)

last_same : (t : Token) (ts : List Token) → last_end_of t ts ≡ last_end t ts
last_same t [] = refl
last_same t (u ∷ us) = last_same u us

place_is : (place : Span) (run : List Token) (next : Token) → place ≡ run_place run (next ∷ []) → IsPlace place run next
place_is place [] next is = (ap (λ (s : Span). s.start) is, ap (λ (s : Span). s.end) is)
place_is place (t ∷ ts) next is = (ap (λ (s : Span). s.start) is, ap (λ (s : Span). s.end) is ∙ last_same t ts)

-- a run between two marks
pub makes_between : (o c : ℕ) (P : List Token → Type 0) (place : Span) (ws : List (List ℕ)) (ts : List Token) → (s : IsBetween (o ∷ []) (c ∷ []) P place ts) → token_texts s.run ≡ ws → Makes (Slot o place ws c ∷ []) ts
makes_between o c P place ws ts s texts =
    record {
      fits = λ rest. record {
        mark = s.mark;
        run = s.run;
        next = s.next;
        behind = rest;
        is = ap (λ (l : List Token). l ++ rest) s.is ∙ ap (λ (l : List Token). s.mark ∷ l) (append_assoc s.run (s.next ∷ []) rest);
        opens = s.opens;
        closes = s.closes;
        texts = texts;
        placed = place_is place s.run s.next s.placed;
        more = refl;
      };
    }

-- values one behind the other
pub record SpellsAll {X : Type 0} (item_texts : X → List (List ℕ)) (Good : X → Type 0) (xs : List X) (ts : List Token) : Type 0 where
  pub texts : token_texts ts ≡ flat_map item_texts xs
  pub good : Each Good xs

pub many_texts : {X : Type 0} (P : X → List Token → Type 0) (texts : X → List (List ℕ)) (Good : X → Type 0)
    → ((x : X) (ts : List Token) → P x ts → (token_texts ts ≡ texts x) × Good x) → (xs : List X) (ts : List Token) → AreMany P xs ts → SpellsAll texts Good xs ts
many_texts P texts Good law [] ts h = record { texts = ap token_texts h; good = tt }
many_texts P texts Good law (x ∷ xs) ts h =
    let one = law x h.front h.first in
    let more = many_texts P texts Good law xs h.back h.second in
    record { texts = split_texts ts h ∙ rw (one.0, more.texts) refl; good = (one.1, more.good) }

-- values with commas between them, and a closing mark behind the last
pub record MakesList {X : Type 0} (parts : X → List Part) (Good : X → Type 0) (closing : ℕ) (xs : List X) (ts : List Token) : Type 0 where
  pub makes : Makes (list_parts parts closing xs) ts
  pub good : Each Good xs

module _ {X : Type 0} (f : Form X) (parts : X → List Part) (Good : X → Type 0)
    (law : (x : X) (ts : List Token) → f.spells x ts → Makes (parts x) ts × Good x) (closing : ℕ) (us : List Token) (close : IsWord (closing ∷ []) us) where
  behind_first : (x : X) (xs : List X) (vs ts : List Token) → f.spells x vs → AreMany ("," ▸ f).spells xs ts → MakesList parts Good closing (x ∷ xs) (vs ++ (ts ++ us))
  behind_first x [] vs ts h none =
      let one = law x vs h in
      let closed : us ≡ ts ++ us = ap (λ (l : List Token). l ++ us) (sym none) in
      record {
        makes = makes_join (parts x) (Fixed (closing ∷ []) ∷ []) vs (ts ++ us) one.0 (subst (Makes (Fixed (closing ∷ []) ∷ [])) closed (makes_word (closing ∷ []) us close));
        good = (one.1, tt);
      }
  behind_first x (y ∷ ys) vs ts h more =
      let one = law x vs h in
      let pair = behind_word "," f y more.front more.first in
      let later = behind_first y ys pair.back more.back pair.second more.second in
      let comma = makes_word (44 ∷ []) pair.front pair.first in
      let all : List Part = list_parts parts closing (y ∷ ys) in
      let cut : pair.front ++ (pair.back ++ (more.back ++ us)) ≡ ts ++ us
      = sym (append_assoc pair.front pair.back (more.back ++ us)) ∙ ap (λ (l : List Token). l ++ (more.back ++ us)) (sym pair.is)
      ∙ sym (append_assoc more.front more.back us) ∙ ap (λ (l : List Token). l ++ us) (sym more.is)
      in
      let rest = subst (Makes (Fixed (44 ∷ []) ∷ all)) cut (makes_join (Fixed (44 ∷ []) ∷ []) all pair.front (pair.back ++ (more.back ++ us)) comma later.makes) in
      record { makes = makes_join (parts x) (Fixed (44 ∷ []) ∷ all) vs (ts ++ us) one.0 rest; good = (one.1, later.good) }

  pub makes_list : (xs : List X) (ts : List Token) → (listed f ",").spells xs ts → (0 < length xs) × MakesList parts Good closing xs (ts ++ us)
  makes_list xs ts s =
      let all = s.holds in
      let found = behind_first s.parts.0 s.parts.1 all.front all.back all.first all.second in
      let cut : all.front ++ (all.back ++ us) ≡ ts ++ us = sym (append_assoc all.front all.back us) ∙ ap (λ (l : List Token). l ++ us) (sym all.is) in
      let some : 0 < length (s.parts.0 ∷ s.parts.1) = omega arith in
      subst (λ (ys : List X). (0 < length ys) × MakesList parts Good closing ys (ts ++ us)) s.is (some, subst (MakesList parts Good closing (s.parts.0 ∷ s.parts.1)) cut found)
