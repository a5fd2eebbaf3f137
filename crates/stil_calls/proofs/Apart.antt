-- Names whose keys differ are different.
use Rattle.std.proofs.Common.{◌≡◌, ◌<◌, ◌≤◌, ℕ, true, false, nat_lt, nat_eq, List, [], ◌∷◌, map, refl, sym, ap, ◌∙◌, subst, arith}
use Rattle.std.specs.List.{AllByRecursion, IsDistinct}
use Rattle.std.specs.List.Sorted.{IsPermutation}
use Rattle.std.specs.Str.{bytes_eq}
use Rattle.std.proofs.lemmas.Bool.{and_parts, false_from_ne_true, ltb-true, ne_eqb, eqb-false, eqb-true, eq-eqb}
use Rattle.std.proofs.lemmas.Slice.Eq.{bytes_eq-Decides}
use Rattle.std.proofs.lemmas.Map.Keys.{IsDistinct-IsPermutation}
use Rattle.std.proofs.lemmas.List.Sorted.{IsPermutation-sym}
use Rattle.base_types.proofs.TruthValues.{same_truth}
use Rattle.stil_syntax.specs.declared.item.Item.{Item}
use Rattle.stil_calls.specs.Scans.{gives_twice}
use Rattle.stil_calls.specs.Keys.{key_of, keys_rise_beside, keys_rise}
use Rattle.stil_calls.proofs.Sorted.{names, once}

-- keys that rise differ
above : (low last : ℕ) (ks : List ℕ) → low ≤ last → keys_rise_beside last ks ≡ true → AllByRecursion (λ y. nat_eq low y ≡ false) ks
above low last [] le e = tt
above low last (k ∷ ks) le e =
    let p = and_parts (nat_lt last k) (keys_rise_beside k ks) e in
    let more : last < k = ltb-true last k (p.0) in
    let less : low < k = omega arith in
    (ne_eqb low k (λ same. absurd (omega (arith, same))), above low k ks (omega arith) (p.1))

beside : (last : ℕ) (ks : List ℕ) → keys_rise_beside last ks ≡ true → IsDistinct nat_eq (last ∷ ks)
unfolding IsDistinct
beside last [] e = (tt, tt)
beside last (k ∷ ks) e =
    let p = and_parts (nat_lt last k) (keys_rise_beside k ks) e in
    (above last last (k ∷ ks) (omega arith) e, beside k ks (p.1))

rising : (ks : List ℕ) → keys_rise ks ≡ true → IsDistinct nat_eq ks
unfolding IsDistinct
rising [] e = tt
rising (k ∷ ks) e = beside k ks e

-- names differ where their keys do
differ : (x y : List ℕ) → nat_eq (key_of x) (key_of y) ≡ false → bytes_eq x y ≡ false
differ x y e = false_from_ne_true (bytes_eq x y) (λ same. eqb-false (key_of x) (key_of y) e (ap key_of ((bytes_eq-Decides x y).0 same)))

each_differs : (x : List ℕ) (ns : List (List ℕ)) → AllByRecursion (λ y. nat_eq (key_of x) y ≡ false) (map key_of ns) → AllByRecursion (λ y. bytes_eq x y ≡ false) ns
each_differs x [] a = tt
each_differs x (n ∷ ns) a = (differ x n (a.0), each_differs x ns (a.1))

all_differ : (ns : List (List ℕ)) → IsDistinct nat_eq (map key_of ns) → IsDistinct bytes_eq ns
unfolding IsDistinct
all_differ [] d = tt
all_differ (n ∷ ns) d = (each_differs n ns (d.0), all_differ ns (d.1))

turned : (x y : ℕ) → nat_eq x y ≡ nat_eq y x
turned x y =
    let flip : (a b : ℕ) → nat_eq a b ≡ true → nat_eq b a ≡ true = λ a b e. eq-eqb b a (sym (eqb-true a b e)) in
    same_truth (nat_eq x y) (nat_eq y x) (flip x y) (flip y x)

keys_through : (items : List Item) → map (λ i. key_of i.name) items ≡ map key_of (names items)
keys_through [] = refl
keys_through (i ∷ is) = ap (λ (ks : List ℕ). key_of i.name ∷ ks) (keys_through is)

pub none_by_keys : (items : List Item) (xs ys : List ℕ) → xs ≡ map (λ i. key_of i.name) items → IsPermutation xs ys → keys_rise ys ≡ true → false ≡ gives_twice items
none_by_keys items xs ys are moved e =
    let sorted : IsDistinct nat_eq xs = IsDistinct-IsPermutation nat_eq turned ys xs (IsPermutation-sym xs ys moved) (rising ys e) in
    sym (once items (all_differ (names items) (subst (IsDistinct nat_eq) (are ∙ keys_through items) sorted)))
