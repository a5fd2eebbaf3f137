-- What is written into rows, place by place.
use Rattle.std.proofs.Common.{◌≡◌, ◌≢◌, ℕ, zero, suc, ℤ, pos, ◌+◌, ◌-◌, ◌<◌, ◌≤◌, ◌^◌, List, ◌++◌, length, take, drop, get_or, slice_get, set, to_z, of_z, w64, sym, ap, ◌∙◌, arith, inl, inr, subst}
use Rattle.std.specs.Prelude.{◌-ℤ◌, unsigned_abs}
use Rattle.std.proofs.lemmas.Bool.{cases_lt}
use Rattle.std.proofs.lemmas.Int.{ints, to_z-of_z, fits_signed_from_abs}
use Rattle.std.proofs.lemmas.List.{get_or-set_same, get_or-set_other, get_or-take, get_or_append_left, length-append, length-take, length-take-le, drop_more}
use Rattle.wire_cost.specs.Lengths.{ChainEnds, first_of}
use Rattle.wire_cost.specs.Rows.{IsRow, x_of, y_of, next_at, before_at}
use Rattle.wire_cost.proofs.Walks.{end_of-take}
use Rattle.wire_cost.proofs.FirstLinks.{first_of_none}

-- a number that is small fits
pub kept : (z : ℤ) → unsigned_abs z ≤ 2 ^ 62 → to_z w64 (of_z w64 z) ≡ z
kept z h = to_z-of_z w64 z (fits_signed_from_abs w64 z (omega arith))

pub small_difference : (a b : ℤ) → unsigned_abs a ≤ 2 ^ 61 → unsigned_abs b ≤ 2 ^ 61 → unsigned_abs (a -ℤ b) ≤ 2 ^ 62
small_difference a b p q = omega (arith, ints)

-- one difference more is stored
pub difference_stored : (xs : List ℤ) (f g : ℕ → ℤ) (i : ℕ) → i < length xs → unsigned_abs (f i) ≤ 2 ^ 61 → unsigned_abs (g i) ≤ 2 ^ 61 → ((k : ℕ) → k < i → get_or xs k (pos 0) ≡ f k -ℤ g k)
    → (k : ℕ) → k < i + 1 → get_or (set xs i (to_z w64 (of_z w64 (to_z w64 (of_z w64 (f i)) -ℤ to_z w64 (of_z w64 (g i)))))) k (pos 0) ≡ f k -ℤ g k
difference_stored xs f g i l p q h k m = elim (cases_lt k i) [
  | inl a ↦ get_or-set_other xs i k _ (pos 0) (λ e. omega arith) ∙ h k a
  | inr b ↦ (
      let same : i ≡ k = omega arith in
      let left : to_z w64 (of_z w64 (f i)) ≡ f i = kept (f i) (omega arith) in
      let right : to_z w64 (of_z w64 (g i)) ≡ g i = kept (g i) (omega arith) in
      let both : to_z w64 (of_z w64 (f i)) -ℤ to_z w64 (of_z w64 (g i)) ≡ f i -ℤ g i = (λ t. left t -ℤ right t) in
      let whole : to_z w64 (of_z w64 (to_z w64 (of_z w64 (f i)) -ℤ to_z w64 (of_z w64 (g i)))) ≡ f i -ℤ g i = ap (λ (z : ℤ). to_z w64 (of_z w64 z)) both ∙ kept (f i -ℤ g i) (small_difference (f i) (g i) p q) in
      subst (λ (j : ℕ). get_or (set xs i (to_z w64 (of_z w64 (to_z w64 (of_z w64 (f i)) -ℤ to_z w64 (of_z w64 (g i)))))) j (pos 0) ≡ f j -ℤ g j) same
      (get_or-set_same xs i _ (pos 0) l ∙ whole)
      )
]

-- a row that is kept in front of room for more
front_is : (n room : ℕ) (f : ℕ → ℤ) (new items : List ℤ) → n ≤ room → n ≤ length new → ((k : ℕ) → k < n → get_or new k (pos 0) ≡ f k) → IsRow n f (take n (take room (new ++ drop (length new) items)))
front_is n room f new items p q h =
    let long : length (new ++ drop (length new) items) ≡ length new + length (drop (length new) items) = length-append new (drop (length new) items) in
    record {
      count = length-take-le n (take room (new ++ drop (length new) items)) (omega (arith, long, length-take room (new ++ drop (length new) items)));
      each = λ k l. get_or-take n (take room (new ++ drop (length new) items)) k (pos 0) l ∙ get_or-take room (new ++ drop (length new) items) k (pos 0) (omega arith) ∙ get_or_append_left new (drop (length new) items) (pos 0) k (omega arith) ∙ h k l;
    }

pub kept_at : (room : ℕ) (new items : List ℤ) (k : ℕ) → k < room → k < length new → get_or (take room (new ++ drop (length new) items)) k (pos 0) ≡ get_or new k (pos 0)
kept_at room new items k p q = get_or-take room (new ++ drop (length new) items) k (pos 0) p ∙ get_or_append_left new (drop (length new) items) (pos 0) k q

pub row_is : (n m room : ℕ) (f : ℕ → ℤ) (new items : List ℤ) → n ≡ m → n ≤ room → n ≤ length new → ((k : ℕ) → k < n → get_or new k (pos 0) ≡ f k) → IsRow n f (take m (take room (new ++ drop (length new) items)))
row_is n m room f new items e p q h = subst (λ (j : ℕ). IsRow n f (take j (take room (new ++ drop (length new) items)))) e (front_is n room f new items p q h)

same_place : (k : ℕ) → k ≡ 0 + k
same_place k = omega arith

-- the coordinates of the places that one goes to
pub next_x : (w : ChainEnds) (us : List ℕ) (xs ys : List ℤ) → ((k : ℕ) → k < length us → get_or xs (0 + k) (pos 0) ≡ x_of (slice_get w.entry (get_or us k 0))) → get_or ys (length us) (pos 0) ≡ x_of w.stop
    → ((j : ℕ) → j ≢ length us → get_or ys j (pos 0) ≡ get_or xs j (pos 0)) → (k : ℕ) → k < length us + 1 → get_or ys k (pos 0) ≡ x_of (next_at w us k)
next_x w us xs ys h last others k l = elim (cases_lt k (length us)) [
  | inl a ↦ others k (λ e. omega arith) ∙ ap (λ (j : ℕ). get_or xs j (pos 0)) (same_place k) ∙ h k a ∙ sym (ap (λ (q : List ℕ). x_of (first_of w.entry w.stop q)) (drop_more us k 0 a))
  | inr b ↦ (let e : length us ≡ k = omega arith in
      subst (λ (j : ℕ). get_or ys j (pos 0) ≡ x_of (next_at w us j)) e (last ∙ ap x_of (first_of_none w.entry w.stop us)))
]

pub next_y : (w : ChainEnds) (us : List ℕ) (xs ys : List ℤ) → ((k : ℕ) → k < length us → get_or xs (0 + k) (pos 0) ≡ y_of (slice_get w.entry (get_or us k 0))) → get_or ys (length us) (pos 0) ≡ y_of w.stop
    → ((j : ℕ) → j ≢ length us → get_or ys j (pos 0) ≡ get_or xs j (pos 0)) → (k : ℕ) → k < length us + 1 → get_or ys k (pos 0) ≡ y_of (next_at w us k)
next_y w us xs ys h last others k l = elim (cases_lt k (length us)) [
  | inl a ↦ others k (λ e. omega arith) ∙ ap (λ (j : ℕ). get_or xs j (pos 0)) (same_place k) ∙ h k a ∙ sym (ap (λ (q : List ℕ). y_of (first_of w.entry w.stop q)) (drop_more us k 0 a))
  | inr b ↦ (let e : length us ≡ k = omega arith in
      subst (λ (j : ℕ). get_or ys j (pos 0) ≡ y_of (next_at w us j)) e (last ∙ ap y_of (first_of_none w.entry w.stop us)))
]

-- the coordinates of the places that one comes from
pub before_x : (w : ChainEnds) (us : List ℕ) (xs ys : List ℤ) → get_or xs 0 (pos 0) ≡ x_of w.start → ((j : ℕ) → j < 1 → get_or ys j (pos 0) ≡ get_or xs j (pos 0))
    → ((k : ℕ) → k < length us → get_or ys (1 + k) (pos 0) ≡ x_of (slice_get w.exit (get_or us k 0))) → (k : ℕ) → k < length us + 1 → get_or ys k (pos 0) ≡ x_of (before_at w us k)
before_x w us xs ys first kept_first h zero l = kept_first 0 (omega arith) ∙ first
before_x w us xs ys first kept_first h (suc k) l =
    let one : 1 + k ≡ suc k = omega arith in
    let there : suc k - 1 ≡ k = omega arith in
    sym (ap (λ (j : ℕ). get_or ys j (pos 0)) one) ∙ h k (omega arith) ∙ sym (ap x_of (end_of-take w.exit w.start us (suc k) (omega arith) (omega arith) ∙ ap (λ (j : ℕ). slice_get w.exit (get_or us j 0)) there))

pub before_y : (w : ChainEnds) (us : List ℕ) (xs ys : List ℤ) → get_or xs 0 (pos 0) ≡ y_of w.start → ((j : ℕ) → j < 1 → get_or ys j (pos 0) ≡ get_or xs j (pos 0))
    → ((k : ℕ) → k < length us → get_or ys (1 + k) (pos 0) ≡ y_of (slice_get w.exit (get_or us k 0))) → (k : ℕ) → k < length us + 1 → get_or ys k (pos 0) ≡ y_of (before_at w us k)
before_y w us xs ys first kept_first h zero l = kept_first 0 (omega arith) ∙ first
before_y w us xs ys first kept_first h (suc k) l =
    let one : 1 + k ≡ suc k = omega arith in
    let there : suc k - 1 ≡ k = omega arith in
    sym (ap (λ (j : ℕ). get_or ys j (pos 0)) one) ∙ h k (omega arith) ∙ sym (ap y_of (end_of-take w.exit w.start us (suc k) (omega arith) (omega arith) ∙ ap (λ (j : ℕ). slice_get w.exit (get_or us j 0)) there))
