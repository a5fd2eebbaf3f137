-- Lists side by side.
use Rattle.std.proofs.Common.{◌≡◌, ℕ, suc, zero, ◌+◌, ◌<◌, ◌≤◌, min, Bool, true, false, cond, List, [], ◌∷◌, ◌++◌, length, take, get_or, refl, sym, ap, ap₂, ◌∙◌, arith, add-one}
use Rattle.std.specs.List.{flat_map, filter, zip}
use Rattle.std.proofs.lemmas.List.Elements.{filter_more}
use Rattle.std.proofs.lemmas.List.{append-nil}
use Rattle.std.proofs.lemmas.List.Concat.{flat_map-append}
use Rattle.netlist_core.specs.Netlists.{pairs}

module _ {X Y : Type 0} where
  zip_next : (xs : List X) (ys : List Y) (i : ℕ) (d : X) (e : Y) → i < length xs → i < length ys → zip (take (suc i) xs) (take (suc i) ys) ≡ zip (take i xs) (take i ys) ++ (get_or xs i d, get_or ys i e) ∷ []
  zip_next [] ys i d e l m = absurd (omega (arith, l))
  zip_next (x ∷ xs) [] i d e l m = absurd (omega (arith, m))
  zip_next (x ∷ xs) (y ∷ ys) zero d e l m = refl
  zip_next (x ∷ xs) (y ∷ ys) (suc i) d e l m = ap (λ (ps : List (X × Y)). (x, y) ∷ ps) (zip_next xs ys i d e (omega (arith, l)) (omega (arith, m)))

  pub zip_more : (xs : List X) (ys : List Y) (i : ℕ) (d : X) (e : Y) → i < length xs → i < length ys → zip (take (i + 1) xs) (take (i + 1) ys) ≡ zip (take i xs) (take i ys) ++ (get_or xs i d, get_or ys i e) ∷ []
  zip_more xs ys i d e l m = ap (λ (k : ℕ). zip (take k xs) (take k ys)) (add-one i) ∙ zip_next xs ys i d e l m

  pub zip_all : (xs : List X) (ys : List Y) (i : ℕ) → min (length xs) (length ys) ≤ i → zip (take i xs) (take i ys) ≡ zip xs ys
  zip_all [] ys zero le = refl
  zip_all [] ys (suc i) le = refl
  zip_all (x ∷ xs) [] zero le = refl
  zip_all (x ∷ xs) [] (suc i) le = refl
  zip_all (x ∷ xs) (y ∷ ys) zero le = absurd (omega (arith, le))
  zip_all (x ∷ xs) (y ∷ ys) (suc i) le = ap (λ (ps : List (X × Y)). (x, y) ∷ ps) (zip_all xs ys i (omega (arith, le)))

pub pairs_all : {X : Type 0} (xs ys : List X) (i : ℕ) → min (length xs) (length ys) ≤ i → pairs (take i xs) (take i ys) ≡ pairs xs ys
pairs_all [] ys zero le = refl
pairs_all [] ys (suc i) le = refl
pairs_all (x ∷ xs) [] zero le = refl
pairs_all (x ∷ xs) [] (suc i) le = refl
pairs_all (x ∷ xs) (y ∷ ys) zero le = absurd (omega (arith, le))
pairs_all {X} (x ∷ xs) (y ∷ ys) (suc i) le = ap (λ (ps : List (X × X)). (x, y) ∷ ps) (pairs_all xs ys i (omega (arith, le)))

-- what members give, one member more
pub flat_more : {P Y : Type 0} (f : P → List Y) (ps qs : List P) (p : P) (old new : List Y) → qs ≡ ps ++ p ∷ [] → old ≡ flat_map f ps → new ≡ old ++ f p → new ≡ flat_map f qs
flat_more {P} {Y} f ps qs p old new more was put =
    put ∙ ap₂ (λ (a b : List Y). a ++ b) was (sym (append-nil (f p))) ∙ sym (ap (flat_map f) more ∙ flat_map-append f ps (p ∷ []))

-- what passes a test, one member more
pub kept_more : {X : Type 0} (p : X → Bool) (xs : List X) (i : ℕ) (d : X) (b : Bool) (old new : List X) → i < length xs → b ≡ p (get_or xs i d) → old ≡ filter p (take i xs)
    → new ≡ cond b (old ++ get_or xs i d ∷ []) old → new ≡ filter p (take (i + 1) xs)
kept_more {X} p xs i d b old new lt is was put =
    put ∙ by_case b old was ∙ ap (λ (t : Bool). filter p (take i xs) ++ cond t (get_or xs i d ∷ []) []) is ∙ sym (filter_more p xs i d lt) where
      by_case : (b : Bool) (old : List X) → old ≡ filter p (take i xs) → cond b (old ++ get_or xs i d ∷ []) old ≡ filter p (take i xs) ++ cond b (get_or xs i d ∷ []) []
      by_case true old was = ap (λ (l : List X). l ++ get_or xs i d ∷ []) was
      by_case false old was = was ∙ sym (append-nil (filter p (take i xs)))
