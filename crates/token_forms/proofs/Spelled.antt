-- Parts one behind the other, and the tokens that they fit.
use Rattle.std.proofs.Common.{◌≡◌, ℕ, Bool, true, false, cond, List, [], ◌∷◌, ◌++◌, refl, sym, ap, ◌∙◌, subst, append_assoc}
use Rattle.std.proofs.lemmas.List.{map-append}
use Rattle.token_forms.specs.Tokens.{Token}
use Rattle.token_forms.specs.Parts.{Part, Fixed, Slot, spelled, token_texts, Fits}

pub choose : {P X : Type 0} (t : Bool) (x y z : X) → cond t x y ≡ z → (t ≡ true → x ≡ z → P) → (t ≡ false → y ≡ z → P) → P
choose true x y z h f g = f refl h
choose false x y z h f g = g refl h

pub spelled_append : (ps qs : List Part) → spelled (ps ++ qs) ≡ spelled ps ++ spelled qs
spelled_append [] qs = refl
spelled_append (Fixed w ∷ ps) qs = ap (λ (l : List (List ℕ)). w ∷ l) (spelled_append ps qs)
spelled_append (Slot o sp ws c ∷ ps) qs =
    ap (λ (l : List (List ℕ)). (o ∷ []) ∷ ws ++ ((c ∷ []) ∷ l)) (spelled_append ps qs) ∙ ap (λ (l : List (List ℕ)). (o ∷ []) ∷ l) (sym (append_assoc ws ((c ∷ []) ∷ spelled ps) (spelled qs)))

pub fits-append : (ps qs : List Part) (ts us rest : List Token) → Fits ps us ts → Fits qs rest us → Fits (ps ++ qs) rest ts
fits-append [] qs ts us rest f g = subst (Fits qs rest) (sym f) g
fits-append (Fixed w ∷ ps) qs ts us rest f g = record { token = f.token; behind = f.behind; is = f.is; text = f.text; more = fits-append ps qs f.behind us rest f.more g }
fits-append (Slot o sp ws c ∷ ps) qs ts us rest f g =
    record { mark = f.mark; run = f.run; next = f.next; behind = f.behind; is = f.is; opens = f.opens; closes = f.closes; texts = f.texts; placed = f.placed; more = fits-append ps qs f.behind us rest f.more g }

-- and the other way round
pub record Split (ps qs : List Part) (rest ts : List Token) : Type 0 where
  pub middle : List Token
  pub first : Fits ps middle ts
  pub second : Fits qs rest middle

pub split_fits : (ps qs : List Part) (rest ts : List Token) → Fits (ps ++ qs) rest ts → Split ps qs rest ts
split_fits [] qs rest ts f = record { middle = ts; first = refl; second = f }
split_fits (Fixed w ∷ ps) qs rest ts f =
    let s = split_fits ps qs rest f.behind f.more in
    record { middle = s.middle; first = record { token = f.token; behind = f.behind; is = f.is; text = f.text; more = s.first }; second = s.second }
split_fits (Slot o sp ws c ∷ ps) qs rest ts f =
    let s = split_fits ps qs rest f.behind f.more in
    record {
      middle = s.middle;
      first = record { mark = f.mark; run = f.run; next = f.next; behind = f.behind; is = f.is; opens = f.opens; closes = f.closes; texts = f.texts; placed = f.placed; more = s.first };
      second = s.second;
    }

-- the tokens that parts fit have the texts that spell these
pub record Front (ps : List Part) (rest ts : List Token) : Type 0 where
  pub front : List Token
  pub is : ts ≡ front ++ rest
  pub texts : token_texts front ≡ spelled ps

pub fits_front : (ps : List Part) (rest ts : List Token) → Fits ps rest ts → Front ps rest ts
fits_front [] rest ts f = record { front = []; is = f; texts = refl }
fits_front (Fixed w ∷ ps) rest ts f =
    let r = fits_front ps rest f.behind f.more in
    record { front = f.token ∷ r.front; is = f.is ∙ ap (λ (l : List Token). f.token ∷ l) r.is; texts = rw (f.text, r.texts) refl }
fits_front (Slot o sp ws c ∷ ps) rest ts f =
    let r = fits_front ps rest f.behind f.more in
    record {
      front = f.mark ∷ f.run ++ (f.next ∷ r.front);
      is = f.is ∙ ap (λ (l : List Token). f.mark ∷ (f.run ++ f.next ∷ l)) r.is ∙ ap (λ (l : List Token). f.mark ∷ l) (sym (append_assoc f.run (f.next ∷ r.front) rest));
      texts = rw (f.opens) (ap (λ (l : List (List ℕ)). (o ∷ []) ∷ l) (map-append (λ t. t.text) f.run (f.next ∷ r.front) ∙ rw (f.texts, f.closes, r.texts) refl));
    }
