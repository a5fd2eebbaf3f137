-- Lists without equal members, by a test of the members and by what the members show.
use Rattle.std.proofs.Common.{◌≡◌, ◌<◌, ◌⊎◌, inl, inr, ℕ, arith, Bool, true, false, eqb, List, [], ◌∷◌, length, get_or, map, refl, sym, ap, ◌∙◌, subst, Bor, ◌+◌, ◌||◌, cond, take}
use Rattle.std.specs.Bool.{Decides}
use Rattle.std.specs.List.{IsDistinct, list_any}
use Rattle.std.specs.Cmp.{IsEquivalence, unsigned_Decides}
use Rattle.std.specs.HashSet as bag
use Rattle.std.specs.Str.{bytes_eq}
use Rattle.std.proofs.lemmas.Bool.Decides.{Decides-eqb}
use Rattle.std.proofs.lemmas.Bool.{cases_order, false_from_ne_true, false≢true}
use Rattle.std.proofs.lemmas.List.{get_or-map, length-map, take_more}
use Rattle.std.proofs.lemmas.List.Folds.{list_any-append}
use Rattle.std.proofs.lemmas.Cmp.{nat_eq_equiv, nat_list_eq_equiv, on_equiv}
use Rattle.std.proofs.lemmas.Slice.Eq.{bytes_eq-Decides}
use Rattle.std.proofs.lemmas.Map.Keys.{apart_from_distinct, IsDistinct-from_apart}
use Rattle.std.proofs.lemmas.Map.Made.{hash_set_len-from_list, IsDistinct-from_count, distinct_count-from_IsDistinct}
use Rattle.netlist_core.specs.Netlists.{AreDistinct}

module _ {K X : Type 0} {eq : K → K → Bool} (shows : K → X) (same : (a b : K) → Decides (eq a b) (shows a ≡ shows b)) where
  module _ (xs : List K) (e : K) (i j : ℕ) (d : X) (li : i < length xs) (lj : j < length xs) where
    to_keys : get_or (map shows xs) i d ≡ get_or (map shows xs) j d → shows (get_or xs i e) ≡ shows (get_or xs j e)
    to_keys is = sym (get_or-map shows xs i e d li) ∙ is ∙ get_or-map shows xs j e d lj

    to_shown : shows (get_or xs i e) ≡ shows (get_or xs j e) → get_or (map shows xs) i d ≡ get_or (map shows xs) j d
    to_shown is = get_or-map shows xs i e d li ∙ is ∙ sym (get_or-map shows xs j e d lj)

  not_below : (xs : List K) (e : K) (i j : ℕ) → IsDistinct eq xs → i < j → j < length xs → shows (get_or xs i e) ≡ shows (get_or xs j e) → ⊥
  not_below xs e i j apart lt lj is =
      false≢true (sym (apart_from_distinct eq xs i j e apart lt lj) ∙ (same (get_or xs i e) (get_or xs j e)).1 is)

  one_place : (xs : List K) (e : K) (i j : ℕ) → IsDistinct eq xs → i < length xs → j < length xs → shows (get_or xs i e) ≡ shows (get_or xs j e)
      → (i ≡ j) ⊎ ((i < j) ⊎ (j < i)) → i ≡ j
  one_place xs e i j apart li lj is (inl one) = one
  one_place xs e i j apart li lj is (inr (inl lt)) = absurd (not_below xs e i j apart lt lj is)
  one_place xs e i j apart li lj is (inr (inr lt)) = absurd (not_below xs e j i apart lt li (sym is))

  shown_apart : (xs : List K) → IsDistinct eq xs → AreDistinct (map shows xs)
  shown_apart [] apart i j d li lj is = absurd (omega arith)
  shown_apart (x ∷ xs) apart i j d li lj is =
      let ki : i < length (x ∷ xs) = omega (arith, length-map (x ∷ xs) shows) in
      let kj : j < length (x ∷ xs) = omega (arith, length-map (x ∷ xs) shows) in
      one_place (x ∷ xs) x i j apart ki kj (to_keys (x ∷ xs) x i j d ki kj is) (cases_order i j)

  keys_apart : (xs : List K) → AreDistinct (map shows xs) → IsDistinct eq xs
  keys_apart xs distinct = IsDistinct-from_apart eq xs (λ i j e lt lj. false_from_ne_true (eq (get_or xs i e) (get_or xs j e)) (λ is.
      let li : i < length xs = omega arith in
      let mi : i < length (map shows xs) = omega (arith, length-map xs shows) in
      let mj : j < length (map shows xs) = omega (arith, length-map xs shows) in
      let one : i ≡ j = distinct i j (shows e) mi mj (to_shown xs e i j (shows e) li lj ((same (get_or xs i e) (get_or xs j e)).0 is)) in
      absurd (omega (arith, one))))

  -- a set of the members is as large as their list exactly where no two show the same
  pub set_decides : IsEquivalence eq → {S : Type 0} (xs : List K) (set : bag.HashSet K S) → bag.IsFromIterResult eq xs set
      → Decides (eqb (bag.hash_set_len set) (length xs)) (AreDistinct (map shows xs))
  set_decides laws xs set made =
      let len = hash_set_len-from_list laws xs set made in (
        λ t. shown_apart xs (IsDistinct-from_count laws xs (sym len ∙ (Decides-eqb _ _).0 t)),
        λ distinct. (Decides-eqb _ _).1 (len ∙ distinct_count-from_IsDistinct laws xs (keys_apart xs distinct)),
      )

or_cond : (a b : Bool) → (a || (b || false)) ≡ cond b true a
or_cond true true = refl
or_cond true false = refl
or_cond false true = refl
or_cond false false = refl

-- a name after some others
pub one_more : (xs : List (Bor (List ℕ))) (i : ℕ) (d q : Bor (List ℕ)) → i < length xs
    → list_any (λ x. bytes_eq q.now x.now) (take (i + 1) xs) ≡ cond (bytes_eq (get_or xs i d).now q.now) true (list_any (λ x. bytes_eq q.now x.now) (take i xs))
one_more xs i d q lt =
    let before = list_any (λ (x : Bor (List ℕ)). bytes_eq q.now x.now) (take i xs) in
    ap (list_any (λ (x : Bor (List ℕ)). bytes_eq q.now x.now)) (take_more xs i d lt)
    ∙ list_any-append (λ (x : Bor (List ℕ)). bytes_eq q.now x.now) (take i xs) (get_or xs i d ∷ [])
    ∙ ap (λ (b : Bool). before || (b || false)) (nat_list_eq_equiv.symm q.now (get_or xs i d).now)
    ∙ or_cond before (bytes_eq (get_or xs i d).now q.now)

same_list : (xs : List ℕ) → map (λ x. x) xs ≡ xs
same_list [] = refl
same_list (x ∷ xs) = ap (λ (ys : List ℕ). x ∷ ys) (same_list xs)

pub numbers_decide : {S : Type 0} (xs : List ℕ) (set : bag.HashSet ℕ S) → bag.IsFromIterResult eqb xs set
    → Decides (eqb (bag.hash_set_len set) (length xs)) (AreDistinct xs)
numbers_decide xs set made =
    subst (λ (ys : List ℕ). Decides (eqb (bag.hash_set_len set) (length xs)) (AreDistinct ys)) (same_list xs)
    (set_decides (λ x. x) unsigned_Decides nat_eq_equiv xs set made)

pub names_decide : {S : Type 0} (xs : List (Bor (List ℕ))) (set : bag.HashSet (Bor (List ℕ)) S) → bag.IsFromIterResult (λ x y. bytes_eq x.now y.now) xs set
    → Decides (eqb (bag.hash_set_len set) (length xs)) (AreDistinct (map (λ x. x.now) xs))
names_decide xs set made =
    set_decides (λ x. x.now) (λ a b. bytes_eq-Decides a.now b.now) (on_equiv (λ (x : Bor (List ℕ)). x.now) nat_list_eq_equiv) xs set made
