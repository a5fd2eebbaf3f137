-- A row of places that grows by one place, and the certificate of a row that has grown.
use Rattle.std.proofs.Common.{◌≡◌, ℕ, ℤ, pos, ◌+◌, ◌-◌, ◌<◌, ◌≤◌, ◌^◌, List, [], ◌∷◌, ◌++◌, length, map, take, drop, get_or, set, refl, sym, ap, ◌∙◌, subst, arith, inl, inr}
use Rattle.std.specs.Prelude.{◌+ℤ◌, ◌≤ℤ◌, unsigned_abs, IsPermutation}
use Rattle.std.specs.List.{range_with_len}
use Rattle.std.proofs.Math.ListN.{get_or-append}
use Rattle.std.proofs.lemmas.Int.{ints}
use Rattle.std.proofs.lemmas.Bool.{cases_lt, cases_eq}
use Rattle.std.proofs.lemmas.List.{get_or-append-add, get_or-drop, get_or-map, get_or-set_other, get_or-set_same, length-drop, length-map, length-set, map-id}
use Rattle.std.proofs.lemmas.List.Edits.{Swapped}
use Rattle.std.proofs.lemmas.List.Elements.{All-from_get_or, All-get_or, All-set}
use Rattle.std.proofs.lemmas.List.FromFn.{fill_by_all, length-range_with_len}
use Rattle.std.proofs.lemmas.List.Sorted.{All-permutation, IsPermutation-map, IsPermutation-refl, IsPermutation-trans, length_permutation}
use Rattle.wire_cost.specs.Lengths.{ChainEnds, length_of, link_of}
use Rattle.wire_cost.specs.Rows.{next_at}
use Rattle.length_bound.specs.declared.growth.Place.{Place}
use Rattle.length_bound.specs.Certificates.{AreSmall, link_at, number_at, total}
use Rattle.length_bound.specs.Trees.{CanPass, IsTree, IsUnder, TreeNumbers}
use Rattle.length_bound.specs.Growth.{AreLight, AreNearPlaces, ArePlaces, Grown, IsBelowOrders, IsNearPlace, IsPlace, IsUnderBoth, no_place, place_at}
use Rattle.length_bound.proofs.TreeBounds.{tree_holds}

pub lower_under : (n : ℕ) (p q : Place) (z y : ℤ) → y ≤ℤ z → IsUnderBoth n p q z → IsUnderBoth n p q y
lower_under n p q z y le h =
    record {
      there = λ can. let t = h.there can in omega (arith, ints);
      back = λ can. let t = h.back can in omega (arith, ints);
    }

same_under : (n : ℕ) (p p2 q q2 : Place) (z z2 : ℤ) → p2 ≡ p → q2 ≡ q → z2 ≡ z → IsUnderBoth n p q z → IsUnderBoth n p2 q2 z2
same_under n p p2 q q2 z z2 p_is q_is z_is h =
    subst (λ (x : Place). IsUnderBoth n x q2 z2) (sym p_is) (subst (λ (y : Place). IsUnderBoth n p y z2) (sym q_is) (subst (IsUnderBoth n p q) (sym z_is) h))

-- where a place and its number stood before two positions were exchanged
record Came (f g : ℕ → Place) (h e : ℕ → ℤ) (low high j : ℕ) : Type 0 where
  from : ℕ
  behind : low ≤ from
  within : from < high
  place : g j ≡ f from
  number : e j ≡ h from

came : (f g : ℕ → Place) (h e : ℕ → ℤ) (a b low high j : ℕ) → Swapped f g a b → Swapped h e a b → low ≤ a → low ≤ b → a < high → b < high → low ≤ j → j < high → Came f g h e low high j
came f g h e a b low high j places numbers low_a low_b high_a high_b low_j high_j =
    elim (cases_eq j a) [
      | inl at_a ↦ record { from = b; behind = low_b; within = high_b; place = ap g at_a ∙ places.0; number = ap e at_a ∙ numbers.0 }
      | inr not_a ↦ elim (cases_eq j b) [
        | inl at_b ↦ record { from = a; behind = low_a; within = high_a; place = ap g at_b ∙ places.1; number = ap e at_b ∙ numbers.1 }
        | inr not_b ↦ record { from = j; behind = low_j; within = high_j; place = places.2 j not_a not_b; number = numbers.2 j not_a not_b }
      ]
    ]

-- what is known of a row at position k when the numbers behind it have been brought up to date
module _ (n : ℕ) (row : List Place) (near near1 : List ℤ) (k : ℕ) (grown : Grown n row near k) (before : (j : ℕ) → j ≤ k → number_at near1 j ≡ number_at near j) (lower : (j : ℕ) → j < length row → number_at near1 j ≤ℤ number_at near j)
    (under : (j : ℕ) → k < j → j < length row → IsUnderBoth n (place_at row k) (place_at row j) (number_at near1 j)) where
  reached : (i j : ℕ) → i ≤ k → k < j → j < length row → IsUnderBoth n (place_at row i) (place_at row j) (number_at near1 j)
  reached i j le lt within =
      elim (cases_lt i k) [
        | inl earlier ↦ lower_under n (place_at row i) (place_at row j) (number_at near j) (number_at near1 j) (lower j within) (grown.waiting i j earlier (omega arith) within)
        | inr here ↦
            let at : i ≡ k = omega arith in
            same_under n (place_at row k) (place_at row i) (place_at row j) (place_at row j) (number_at near1 j) (number_at near1 j) (ap (place_at row) at) refl refl (under j lt within)
      ]

  module _ (row2 : List Place) (near2 : List ℤ) (at : ℕ) (small : AreSmall near1) (count1 : length near1 ≡ length near) (row_count : length row2 ≡ length row) (near_count : length near2 ≡ length near1) (behind : k + 1 ≤ at) (within : at < length near1)
      (least : (j : ℕ) → k + 1 ≤ j → j < length near1 → number_at near1 at ≤ℤ number_at near1 j) (places : Swapped (λ i. get_or row i no_place) (λ i. get_or row2 i no_place) (k + 1) at)
      (numbers : Swapped (λ i. get_or near1 i (pos 0)) (λ i. get_or near2 i (pos 0)) (k + 1) at) where
    before_swap : (low j : ℕ) → low ≤ k + 1 → low ≤ j → j < length row → Came (place_at row) (place_at row2) (number_at near1) (number_at near2) low (length row) j
    before_swap low j le low_j high_j =
        let count = grown.count in
        came (place_at row) (place_at row2) (number_at near1) (number_at near2) (k + 1) at low (length row) j places numbers le (omega arith) (omega arith) (omega arith) low_j high_j

    stays : (i : ℕ) → i ≤ k → place_at row2 i ≡ place_at row i
    stays i le = places.2 i (λ e. omega arith) (λ e. omega arith)

    under_gap : (i m j : ℕ) → i ≤ m → m < k + 1 → m < j → j < length row → IsUnderBoth n (place_at row2 i) (place_at row2 j) (number_at near2 (m + 1))
    under_gap i m j le lt gap high =
        let c = before_swap (m + 1) j (omega arith) (omega arith) high in
        let first = stays i (omega arith) in
        elim (cases_lt m k) [
          | inl earlier ↦
              let same : number_at near2 (m + 1) ≡ number_at near (m + 1) = numbers.2 (m + 1) (λ e. omega arith) (λ e. omega arith) ∙ before (m + 1) (omega arith) in
              same_under n (place_at row i) (place_at row2 i) (place_at row c.from) (place_at row2 j) (number_at near (m + 1)) (number_at near2 (m + 1)) first c.place same
              (grown.under i m c.from le earlier (omega (arith, c.behind)) c.within)
          | inr here ↦
              let e : m + 1 ≡ k + 1 = omega arith in
              let same : number_at near2 (m + 1) ≡ number_at near1 at = ap (number_at near2) e ∙ numbers.0 in
              let count = grown.count in
              let low = least c.from (omega (arith, c.behind)) (omega (arith, c.within)) in
              same_under n (place_at row i) (place_at row2 i) (place_at row c.from) (place_at row2 j) (number_at near1 at) (number_at near2 (m + 1)) first c.place same
              (lower_under n (place_at row i) (place_at row c.from) (number_at near1 c.from) (number_at near1 at) low (reached i c.from (omega arith) (omega (arith, c.behind)) c.within))
        ]

    pub grown_more : Grown n row2 near2 (k + 1)
    grown_more =
        let count = grown.count in
        record {
          count = omega arith;
          small = λ j lt.
              let c = before_swap 0 j (omega arith) (omega arith) (omega arith) in
              subst (λ (z : ℤ). unsigned_abs z ≤ 2 ^ 44) (sym c.number) (small c.from (omega (arith, c.within)));
          waiting = λ i j lt le high.
              let c = before_swap (k + 1) j (omega arith) le (omega arith) in
              same_under n (place_at row i) (place_at row2 i) (place_at row c.from) (place_at row2 j) (number_at near1 c.from) (number_at near2 j) (stays i (omega arith)) c.place c.number
              (reached i c.from (omega arith) (omega (arith, c.behind)) c.within);
          under = λ i m j le lt gap high. under_gap i m j le lt gap (omega arith);
        }

-- a row that has not grown yet
pub grown_none : (n : ℕ) (row : List Place) (near : List ℤ) → length near ≡ length row → AreSmall near → Grown n row near 0
grown_none n row near count small =
    record { count = count; small = small; waiting = λ i j lt le within. absurd (omega arith); under = λ i m j le lt gap within. absurd (omega arith) }

-- numbers in order are all numbers
pub numbers_all : (ks : List ℕ) (m : ℕ) → length ks ≡ m → ((k : ℕ) → k < m → get_or ks k 0 ≡ k) → ks ≡ range_with_len 0 m
numbers_all ks m count each = fill_by_all (λ k. k) ks m 0 count each ∙ map-id (range_with_len 0 m)

-- a row of the chain's places that has grown is a tree certificate
module _ (w : ChainEnds) (us : List ℕ) (weights : List ℤ) (row : List Place) (near : List ℤ) where
  abbrev numbers_of : TreeNumbers
  numbers_of = record { row = map (λ p. p.number) row; heights = drop 1 near; weights = weights }

  pair_under : (p q : Place) (z : ℤ) → IsPlace w us weights p → IsPlace w us weights q → (CanPass (length us) p.number q.number → (z +ℤ (p.weight +ℤ q.weight)) ≤ℤ pos (link_of p.exit q.entry)) → IsUnder w us numbers_of z p.number q.number
  pair_under p q z at_p at_q under can =
      let h = under can in
      let pw = at_p.weight in
      let qw = at_q.weight in
      let link : link_at w us p.number (q.number - 1) ≡ link_of p.exit q.entry =
      ap (λ a. link_of a (next_at w us (q.number - 1))) (sym (at_p.exit can.leaves)) ∙ ap (link_of p.exit) (sym (at_q.entry can.enters)) in
      omega (arith, ints, h, pw, qw, link)

  pub tree_from : ArePlaces w us weights row → length weights ≡ length us + 2 → Grown (length us) row near (length row - 1) → IsTree w us numbers_of
  tree_from places weighted grown =
      let count : length row ≡ length us + 2 = sym (length-map row (λ p. p.number)) ∙ length_permutation (range_with_len 0 (length us + 2)) (map (λ p. p.number) row) places.numbers ∙ length-range_with_len 0 (length us + 2) in
      let near_count = grown.count in
      let at : (i : ℕ) → i < length row → get_or (map (λ p. p.number) row) i 0 ≡ (place_at row i).number = λ i lt. get_or-map (λ p. p.number) row i no_place 0 lt in
      record {
        row = places.numbers;
        heights = length-drop 1 near ∙ omega arith;
        weights = weighted;
        under = λ i k j le lt within.
            let h = grown.under i k j le (omega arith) lt (omega arith) in
            let one = places.each i (omega arith) in
            let two = places.each j (omega arith) in
            let z : number_at (drop 1 near) k ≡ number_at near (k + 1) = get_or-drop 1 near k (pos 0) ∙ ap (number_at near) (omega arith) in (
              moved i j (at i (omega arith)) (at j (omega arith)) k z (pair_under (place_at row i) (place_at row j) (number_at near (k + 1)) one two h.there),
              moved j i (at j (omega arith)) (at i (omega arith)) k z (pair_under (place_at row j) (place_at row i) (number_at near (k + 1)) two one h.back),
            );
      }
    where
      moved : (i j : ℕ) → get_or (map (λ p. p.number) row) i 0 ≡ (place_at row i).number → get_or (map (λ p. p.number) row) j 0 ≡ (place_at row j).number → (k : ℕ) → number_at (drop 1 near) k ≡ number_at near (k + 1)
          → IsUnder w us numbers_of (number_at near (k + 1)) (place_at row i).number (place_at row j).number → IsUnder w us numbers_of (number_at (drop 1 near) k) (get_or (map (λ p. p.number) row) i 0) (get_or (map (λ p. p.number) row) j 0)
      moved i j at_i at_j k z h =
          subst (λ (a : ℕ). IsUnder w us numbers_of (number_at (drop 1 near) k) a (get_or (map (λ p. p.number) row) j 0)) (sym at_i)
          (subst (λ (b : ℕ). IsUnder w us numbers_of (number_at (drop 1 near) k) (place_at row i).number b) (sym at_j) (subst (λ (x : ℤ). IsUnder w us numbers_of x (place_at row i).number (place_at row j).number) (sym z) h))

-- what holds at position j, where the numbers behind k are brought up to date
pub record Lowered (n : ℕ) (row : List Place) (first near : List ℤ) (k j : ℕ) : Type 0 where
  pub small : AreSmall near
  pub before : (i : ℕ) → i ≤ k → number_at near i ≡ number_at first i
  pub lower : (i : ℕ) → i < length row → number_at near i ≤ℤ number_at first i
  pub under : (i : ℕ) → k < i → i < j → IsUnderBoth n (place_at row k) (place_at row i) (number_at near i)

module _ (n : ℕ) (row : List Place) (first near : List ℤ) (k j : ℕ) (way : ℤ) (behind : k < j) (within : j < length near) (so_far : Lowered n row first near k j) (here : IsUnderBoth n (place_at row k) (place_at row j) way) where
  at_each : (near2 : List ℤ) → ((i : ℕ) → k < i → i < j → number_at near2 i ≡ number_at near i) → IsUnderBoth n (place_at row k) (place_at row j) (number_at near2 j) → (i : ℕ) → k < i → i < j + 1
      → IsUnderBoth n (place_at row k) (place_at row i) (number_at near2 i)
  at_each near2 same last i lt le =
      elim (cases_lt i j) [
        | inl earlier ↦ subst (IsUnderBoth n (place_at row k) (place_at row i)) (sym (same i lt earlier)) (so_far.under i lt earlier)
        | inr later ↦ let e : j ≡ i = omega arith in subst (λ (a : ℕ). IsUnderBoth n (place_at row k) (place_at row a) (number_at near2 a)) e last
      ]

  pub lowered_passed : number_at near j ≤ℤ way → Lowered n row first near k (j + 1)
  lowered_passed le =
      record {
        small = so_far.small;
        before = so_far.before;
        lower = so_far.lower;
        under = at_each near (λ i lt less. refl) (lower_under n (place_at row k) (place_at row j) way (number_at near j) le here);
      }

  pub lowered_here : unsigned_abs way ≤ 2 ^ 44 → way ≤ℤ number_at near j → Lowered n row first (set near j way) k (j + 1)
  lowered_here light le =
      let at : number_at (set near j way) j ≡ way = get_or-set_same near j way (pos 0) within in
      let other : (i : ℕ) → (i ≡ j → ⊥) → number_at (set near j way) i ≡ number_at near i = λ i apart. get_or-set_other near j i way (pos 0) apart in
      record {
        small = λ i lt. elim (cases_eq i j) [
          | inl same ↦ subst (λ (z : ℤ). unsigned_abs z ≤ 2 ^ 44) (sym (ap (number_at (set near j way)) same ∙ at)) light
          | inr apart ↦ subst (λ (z : ℤ). unsigned_abs z ≤ 2 ^ 44) (sym (other i apart)) (so_far.small i (omega (arith, length-set near j way, lt)))
        ];
        before = λ i low. other i (λ e. omega arith) ∙ so_far.before i low;
        lower = λ i lt. elim (cases_eq i j) [
          | inl same ↦
              let e : number_at (set near j way) i ≡ way = ap (number_at (set near j way)) same ∙ at in
              let f : number_at near i ≡ number_at near j = ap (number_at near) same in
              let h = so_far.lower i lt in
              omega (arith, ints)
          | inr apart ↦ let e = other i apart in let h = so_far.lower i lt in omega (arith, ints)
        ];
        under = at_each (set near j way) (λ i lt less. other i (λ e. omega arith)) (subst (IsUnderBoth n (place_at row k) (place_at row j)) (sym at) here);
      }

-- exchanges keep what holds of each place
pub near_permuted : (row row2 : List Place) → IsPermutation row row2 → AreNearPlaces row → AreNearPlaces row2
near_permuted row row2 same near i lt = All-get_or IsNearPlace row2 i no_place lt (All-permutation IsNearPlace row row2 same (All-from_get_or IsNearPlace row no_place near))

pub places_permuted : (w : ChainEnds) (us : List ℕ) (weights : List ℤ) (row row2 : List Place) → IsPermutation row row2 → ArePlaces w us weights row → ArePlaces w us weights row2
places_permuted w us weights row row2 same places =
    record {
      each = λ i lt. All-get_or (IsPlace w us weights) row2 i no_place lt (All-permutation (IsPlace w us weights) row row2 same (All-from_get_or (IsPlace w us weights) row no_place places.each));
      numbers = IsPermutation-trans (range_with_len 0 (length us + 2)) (map (λ p. p.number) row) (map (λ p. p.number) row2) places.numbers (IsPermutation-map (λ p. p.number) row row2 same);
    }

-- one more place behind those of a row
pub place_pushed : (P : ℕ → Place → Type 0) (xs ys : List Place) (n : ℕ) (x : Place) → length xs ≡ n → ys ≡ xs ++ x ∷ [] → ((k : ℕ) → k < n → P k (place_at xs k)) → P n x → (k : ℕ) → k < n + 1 → P k (place_at ys k)
place_pushed P xs ys n x count is old new k lt =
    elim (cases_lt k n) [
      | inl below ↦
          let same : place_at ys k ≡ place_at xs k = ap (λ (l : List Place). place_at l k) is ∙ get_or-append xs (x ∷ []) no_place k (omega arith) in
          subst (P k) (sym same) (old k below)
      | inr above ↦
          let here : length xs + 0 ≡ k = omega arith in
          let last : place_at ys k ≡ x = ap (λ (l : List Place). place_at l k) is ∙ ap (λ (i : ℕ). place_at (xs ++ x ∷ []) i) (sym here) ∙ get_or-append-add xs (x ∷ []) 0 no_place in
          let at : n ≡ k = omega arith in
          subst (P k) (sym last) (subst (λ (i : ℕ). P i x) at new)
    ]

pub places_whole : (w : ChainEnds) (us : List ℕ) (weights : List ℤ) (row : List Place) → length row ≡ length us + 2 → ((i : ℕ) → i < length us + 2 → IsPlace w us weights (place_at row i)) → ((i : ℕ) → i < length us + 2 → (place_at row i).number ≡ i)
    → ArePlaces w us weights row
places_whole w us weights row count each numbers =
    let is : map (λ p. p.number) row ≡ range_with_len 0 (length us + 2) =
    numbers_all (map (λ p. p.number) row) (length us + 2) (length-map row (λ p. p.number) ∙ count) (λ k lt. get_or-map (λ p. p.number) row k no_place 0 (omega arith) ∙ numbers k lt) in
    record {
      each = λ i lt. each i (omega arith);
      numbers = subst (IsPermutation (range_with_len 0 (length us + 2))) (sym is) (IsPermutation-refl (range_with_len 0 (length us + 2)));
    }

-- the value of a row that has grown is at most the length of every order
pub value_below : (w : ChainEnds) (us : List ℕ) (weights : List ℤ) (row row2 : List Place) (near : List ℤ) (value : ℤ) → 0 < length us → ArePlaces w us weights row → IsPermutation row row2 → length weights ≡ length us + 2
    → Grown (length us) row2 near (length row2 - 1) → value ≡ total (drop 1 near) +ℤ (total weights +ℤ total (take (length us) (drop 1 weights))) → IsBelowOrders w us value
value_below w us weights row row2 near value some places same weighted grown is vs order =
    subst (λ (z : ℤ). z ≤ℤ pos (length_of w vs)) (sym is) (tree_holds w us vs (numbers_of w us weights row2 near) some (tree_from w us weights row2 near (places_permuted w us weights row row2 same places) weighted grown) order)

-- without units there is one order
pub empty_order : (us vs : List ℕ) → length us ≡ 0 → IsPermutation us vs → vs ≡ us
empty_order [] [] none same = refl
empty_order [] (v ∷ vs) none same = let e = length_permutation [] (v ∷ vs) same in absurd (omega arith)
empty_order (u ∷ us) vs none same = absurd (omega arith)

pub light_set : (xs : List ℤ) (i : ℕ) (x : ℤ) → AreLight xs → unsigned_abs x ≤ 2 ^ 42 → AreLight (set xs i x)
light_set xs i x light small = λ k lt. All-get_or (λ z. unsigned_abs z ≤ 2 ^ 42) (set xs i x) k (pos 0) lt (All-set (λ z. unsigned_abs z ≤ 2 ^ 42) xs i x small (All-from_get_or (λ z. unsigned_abs z ≤ 2 ^ 42) xs (pos 0) light))
