-- Lists in order with the same members, each as often, are one list.
use Rattle.std.proofs.Common.{◌≡◌, ℕ, zero, suc, ◌+◌, ◌<◌, Bool, true, false, cond, List, [], ◌∷◌, length, map, get_or, refl, sym, ap, ◌∙◌, arith, inl, inr}
use Rattle.std.specs.List.{sum_by}
use Rattle.std.specs.List.Sorted.{IsSorted}
use Rattle.std.specs.declared.cmp.Ordering.{Ordering}
use Rattle.std.specs.declared.cmp.Ordering.TheVariants.{Less, Equal, Greater}
use Rattle.std.specs.Ordering.{is_lt, ordering_reverse}
use Rattle.std.specs.Cmp.{IsTotalOrder}
use Rattle.std.proofs.lemmas.Bool.{true≢false}
use Rattle.std.proofs.lemmas.Cmp.{tied_itself}
use Rattle.std.proofs.lemmas.List.MinMax.{ranks_by}
use Rattle.std.proofs.lemmas.List.Sorted.{sorted_far}
use Rattle.std.proofs.lemmas.List.Sums.{sum_by-cons}

-- both lists have the same sums
abbrev pub HaveSameSums : {X : Type 0} → List X → List X → Type 0
HaveSameSums {X} xs ys = (f : X → ℕ) → sum_by f xs ≡ sum_by f ys

module _ {X : Type 0} (cmp : X → X → Ordering) (total : IsTotalOrder cmp) (exact : (x y : X) → cmp x y ≡ Equal → x ≡ y) where
  -- 1 for each member before x
  abbrev before : X → X → ℕ
  before x v = cond (is_lt (cmp v x)) 1 0

  -- no member comes before x
  abbrev NoneBefore : X → List X → Type 0
  NoneBefore x [] = Unit {0}
  NoneBefore x (v ∷ vs) = (is_lt (cmp v x) ≡ false) × NoneBefore x vs

  -- each member comes before none of those in front of it
  abbrev pub Rises : List X → Type 0
  Rises [] = Unit {0}
  Rises (x ∷ xs) = NoneBefore x xs × Rises xs

  counts_none : (x : X) (xs : List X) → NoneBefore x xs → sum_by (before x) xs ≡ 0
  counts_none x [] none = refl
  counts_none x (v ∷ vs) none =
      let first : before x v ≡ 0 = ap (λ (b : Bool). cond b 1 0) none.0 in
      let rest = counts_none x vs none.1 in
      omega (arith, sum_by-cons (before x) v vs, first, rest)

  not_one : (b : Bool) → ◌≡◌ {A = ℕ} (cond b 1 0) 0 → b ≡ false
  not_one true e = absurd (omega (arith, e))
  not_one false e = refl

  first_least : (x y : X) (xs ys : List X) → NoneBefore x xs → HaveSameSums (x ∷ xs) (y ∷ ys) → is_lt (cmp y x) ≡ false
  first_least x y xs ys none same =
      let own : before x x ≡ 0 = ap (λ (r : Ordering). cond (is_lt r) 1 0) (tied_itself total x) in
      let rest = counts_none x xs none in
      let all = same (before x) in
      let here : before x y ≡ 0 = omega (arith, all, own, rest, sum_by-cons (before x) x xs, sum_by-cons (before x) y ys) in
      not_one (is_lt (cmp y x)) here

  one_first : (x y : X) → is_lt (cmp y x) ≡ false → is_lt (cmp x y) ≡ false → x ≡ y
  one_first x y e f = by (cmp x y) refl where
    by : (r : Ordering) → cmp x y ≡ r → x ≡ y
    by Less g = absurd (true≢false (sym (ap is_lt g) ∙ f))
    by Equal g = exact x y g
    by Greater g = absurd (true≢false (sym (ap is_lt (total.antisymm y x ∙ ap ordering_reverse g)) ∙ e))

  rest_sums : (x y : X) (xs ys : List X) → x ≡ y → HaveSameSums (x ∷ xs) (y ∷ ys) → HaveSameSums xs ys
  rest_sums x y xs ys e same = λ f. let t : f x ≡ f y = ap f e in omega (arith, same f, t, sum_by-cons f x xs, sum_by-cons f y ys)

  pub one_order : (xs ys : List X) → Rises xs → Rises ys → HaveSameSums xs ys → xs ≡ ys
  one_order [] [] up other same = refl
  one_order [] (y ∷ ys) up other same = absurd (omega (arith, same (λ v. 1), sum_by-cons (λ (v : X). 1) y ys))
  one_order (x ∷ xs) [] up other same = absurd (omega (arith, same (λ v. 1), sum_by-cons (λ (v : X). 1) x xs))
  one_order (x ∷ xs) (y ∷ ys) up other same =
      let e = one_first x y (first_least x y xs ys up.0 same) (first_least y x ys xs other.0 (λ f. sym (same f))) in
      let rest = one_order xs ys up.1 other.1 (rest_sums x y xs ys e same) in
      λ i. e i ∷ rest i

  -- what a sort gives, seen another way
  module _ {K : Type 0} (seen : K → X) where
    abbrev FarApart : List K → Type 0
    FarApart ks = (i j : ℕ) (d : K) → i < j → j < length ks → is_lt (cmp (seen (get_or ks j d)) (seen (get_or ks i d))) ≡ false

    none_far : (k : K) (ks : List K) → ((j : ℕ) (d : K) → j < length ks → is_lt (cmp (seen (get_or ks j d)) (seen k)) ≡ false) → NoneBefore (seen k) (map seen ks)
    none_far k [] far = tt
    none_far k (l ∷ ls) far = (far 0 l (omega arith), none_far k ls (λ j d lt. far (suc j) d (omega (arith, lt))))

    rises_far : (ks : List K) → FarApart ks → Rises (map seen ks)
    rises_far [] far = tt
    rises_far (k ∷ ks) far = (none_far k ks (λ j d lt. far 0 (suc j) d (omega arith) (omega (arith, lt))), rises_far ks (λ i j d lt le. far (suc i) (suc j) d (omega (arith, lt)) (omega (arith, le))))

    pub rises : (ks : List K) → IsSorted (λ a b. cmp (seen a) (seen b)) ks → Rises (map seen ks)
    rises ks up = rises_far ks (λ i j d lt le. sorted_far (λ (a b : K). is_lt (cmp (seen a) (seen b))) (ranks_by total seen) ks up i j d (omega (arith, lt)) le)
