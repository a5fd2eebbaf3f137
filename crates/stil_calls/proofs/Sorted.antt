-- Sorted names, beside one another, tell whether any stands twice.
use Rattle.std.proofs.Common.{◌≡◌, ℕ, Bool, true, false, ◌||◌, List, [], ◌∷◌, map, Bor, Less, Equal, Greater, Ordering, refl, sym, ◌∙◌, subst}
use Rattle.std.specs.List.{AllByRecursion, IsDistinct}
use Rattle.std.specs.List.Sorted.{IsPermutation, IsStrictlySortedBy}
use Rattle.std.specs.Str.{bytes_eq}
use Rattle.std.specs.Ordering.{nat_cmp, is_lt, eq_by_cmp}
use Rattle.std.specs.Cmp.Lexicographic.{slice_cmp}
use Rattle.std.proofs.lemmas.Bool.{or_parts, or_from, false≢true, and_parts, true_from_ne_false}
use Rattle.std.proofs.lemmas.Cmp.{nat_list_cmp_total}
use Rattle.std.proofs.lemmas.Map.Keys.{IsDistinct-IsPermutation, IsDistinct-from_sorted}
use Rattle.std.proofs.lemmas.Map.Text.{is_eq-slice_cmp}
use Rattle.std.proofs.lemmas.List.Sorted.{IsPermutation-map, IsPermutation-sym}
use Rattle.base_types.proofs.TruthValues.{bytes_turned}
use Rattle.stil_syntax.specs.declared.item.Item.{Item}
use Rattle.stil_calls.specs.Scans.{has_name, gives_twice}
use Rattle.stil_calls.specs.Twice.{equal_beside, has_equal, rises_beside, rises}

abbrev pub names : List Item → List (List ℕ)
names items = map (λ i. i.name) items

-- no name is given twice exactly where the names are distinct
apart : (name : List ℕ) (items : List Item) → has_name items name ≡ false → AllByRecursion (λ y. bytes_eq name y ≡ false) (names items)
apart name [] e = tt
apart name (i ∷ is) e =
    let p = or_parts (bytes_eq i.name name) (has_name is name) e in
    (bytes_turned name i.name ∙ p.0, apart name is (p.1))

together : (name : List ℕ) (items : List Item) → AllByRecursion (λ y. bytes_eq name y ≡ false) (names items) → has_name items name ≡ false
together name [] a = refl
together name (i ∷ is) a = or_from (bytes_eq i.name name) (has_name is name) (bytes_turned i.name name ∙ a.0) (together name is (a.1))

distinct : (items : List Item) → gives_twice items ≡ false → IsDistinct bytes_eq (names items)
unfolding IsDistinct
distinct [] e = tt
distinct (i ∷ is) e =
    let p = or_parts (has_name is i.name) (gives_twice is) e in
    (apart i.name is (p.0), distinct is (p.1))

pub once : (items : List Item) → IsDistinct bytes_eq (names items) → gives_twice items ≡ false
unfolding IsDistinct
once [] d = refl
once (i ∷ is) d = or_from (has_name is i.name) (gives_twice is) (together i.name is (d.0)) (once is (d.1))

-- equal names beside one another aren't distinct
equal_by : (b : Bool) (last name : List ℕ) (more : List (List ℕ)) → bytes_eq last name ≡ b → (b || equal_beside name more) ≡ true → IsDistinct bytes_eq (last ∷ name ∷ more) → (equal_beside name more ≡ true → IsDistinct bytes_eq (name ∷ more) → ⊥) → ⊥
unfolding IsDistinct
equal_by true last name more is e d next = absurd (false≢true (sym (d.0.0) ∙ is))
equal_by false last name more is e d next = next e (d.1)

equal_not : (last : List ℕ) (more : List (List ℕ)) → equal_beside last more ≡ true → IsDistinct bytes_eq (last ∷ more) → ⊥
equal_not last [] e d = absurd (false≢true e)
equal_not last (name ∷ more) e d = equal_by (bytes_eq last name) last name more refl e d (equal_not name more)

equal_none : (ns : List (List ℕ)) → has_equal ns ≡ true → IsDistinct bytes_eq ns → ⊥
equal_none [] e d = absurd (false≢true e)
equal_none (n ∷ ns) e d = equal_not n ns e d

-- names that rise are distinct
abbrev Below : List ℕ → List ℕ → Type 0
Below x y = slice_cmp nat_cmp x y ≡ Less

less : (o : Ordering) → is_lt o ≡ true → o ≡ Less
less Less e = refl
less Equal e = absurd cc
less Greater e = absurd cc

below_all : (last name : List ℕ) (more : List (List ℕ)) → Below last name → AllByRecursion (Below name) more → AllByRecursion (Below last) more
below_all last name [] b a = tt
below_all last name (m ∷ more) b a = (nat_list_cmp_total.trans last name m b (a.0), below_all last name more b (a.1))

sorted : (last : List ℕ) (more : List (List ℕ)) → rises_beside last more ≡ true → IsStrictlySortedBy (slice_cmp nat_cmp) (last ∷ more)
unfolding IsStrictlySortedBy
sorted last [] e = (tt, tt)
sorted last (name ∷ more) e =
    let p = and_parts (is_lt (slice_cmp nat_cmp last name)) (rises_beside name more) e in
    let s = sorted name more (p.1) in
    let b = less (slice_cmp nat_cmp last name) (p.0) in
    ((b, below_all last name more b (s.0)), s)

sorted_all : (ns : List (List ℕ)) → rises ns ≡ true → IsStrictlySortedBy (slice_cmp nat_cmp) ns
unfolding IsStrictlySortedBy
sorted_all [] e = tt
sorted_all (n ∷ ns) e = sorted n ns e

each_same : (x : List ℕ) (ns : List (List ℕ)) → AllByRecursion (λ y. eq_by_cmp (slice_cmp nat_cmp) x y ≡ false) ns → AllByRecursion (λ y. bytes_eq x y ≡ false) ns
each_same x [] a = tt
each_same x (n ∷ ns) a = (sym (is_eq-slice_cmp x n) ∙ a.0, each_same x ns (a.1))

same_distinct : (ns : List (List ℕ)) → IsDistinct (eq_by_cmp (slice_cmp nat_cmp)) ns → IsDistinct bytes_eq ns
unfolding IsDistinct
same_distinct [] d = tt
same_distinct (n ∷ ns) d = (each_same n ns (d.0), same_distinct ns (d.1))

rising_distinct : (ns : List (List ℕ)) → rises ns ≡ true → IsDistinct bytes_eq ns
rising_distinct ns e = same_distinct ns (IsDistinct-from_sorted (slice_cmp nat_cmp) ns (sorted_all ns e))

abbrev nows : List (Bor (List ℕ)) → List (List ℕ)
nows ts = map (λ t. t.now) ts

module _ (items : List Item) (xs ys : List (Bor (List ℕ))) (are : nows xs ≡ names items) (moved : IsPermutation xs ys) where
  pub equal_found : has_equal (nows ys) ≡ true → true ≡ gives_twice items
  equal_found e = sym (true_from_ne_false (gives_twice items) (λ f.
      equal_none (nows ys) e (IsDistinct-IsPermutation bytes_eq bytes_turned (nows xs) (nows ys) (IsPermutation-map (λ t. t.now) xs ys moved) (subst (IsDistinct bytes_eq) (sym are) (distinct items f)))))

  pub none_found : rises (nows ys) ≡ true → false ≡ gives_twice items
  none_found e =
      sym (once items (subst (IsDistinct bytes_eq) are
      (IsDistinct-IsPermutation bytes_eq bytes_turned (nows ys) (nows xs) (IsPermutation-map (λ t. t.now) ys xs (IsPermutation-sym xs ys moved)) (rising_distinct (nows ys) e))))
