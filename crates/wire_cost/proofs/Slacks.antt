-- The numbers that stand for the units of a block.
use Rattle.std.proofs.Common.{◌≡◌, ℕ, ℤ, pos, ◌+◌, ◌*◌, ◌<◌, ◌≤◌, ◌^◌, min, List, length, get_or, set, true, false, to_z, of_z, w64, FitsSigned, sym, ap, ◌∙◌, arith, inl, inr, subst}
use Rattle.std.specs.Prelude.{◌-ℤ◌, ◌≤ℤ◌, ◌<ℤ◌, unsigned_abs}
use Rattle.std.proofs.lemmas.Bool.{cases_lt}
use Rattle.std.proofs.lemmas.Int.{ints}
use Rattle.std.proofs.lemmas.List.{get_or-set_same, get_or-set_other}
use lib.Signed.{lt_z}
use Rattle.wire_cost.specs.Blocks.{AreSmall, IsLeastIn, slack_in}
use Rattle.wire_cost.specs.Filled.{RowLists}
use Rattle.wire_cost.specs.Lengths.{ChainEnds}
use Rattle.wire_cost.specs.Rows.{AreRowsOf, IsLeastSlack, IsRow, block_count, middle_of, slack_of}
use Rattle.wire_cost.proofs.Places.{kept}

-- a signed number as the code hands it over
abbrev pub over : ℤ → ℤ
over z = to_z w64 (of_z w64 z)

-- how far apart two near numbers are
pub apart_over : (a b : ℤ) (n : ℕ) → unsigned_abs a ≤ 2 ^ 41 → unsigned_abs b ≤ 2 ^ 41 → n ≡ unsigned_abs (over a -ℤ over b) → n ≡ unsigned_abs (a -ℤ b)
apart_over a b n p q e =
    let x : over a ≡ a = kept a (omega arith) in
    let y : over b ≡ b = kept b (omega arith) in
    e ∙ (λ t. unsigned_abs (x t -ℤ y t))

way_small : (a b : ℤ) → unsigned_abs a ≤ 2 ^ 41 → unsigned_abs b ≤ 2 ^ 41 → unsigned_abs (a -ℤ b) ≤ 2 ^ 42
way_small a b p q = omega (arith, ints)

pub apart_small : (a b : ℤ) (n : ℕ) → unsigned_abs a ≤ 2 ^ 41 → unsigned_abs b ≤ 2 ^ 41 → n ≡ unsigned_abs (over a -ℤ over b) → n ≤ 2 ^ 42
apart_small a b n p q e = omega (arith, apart_over a b n p q e, way_small a b p q)

pub small_fits : (n : ℕ) → n ≤ 2 ^ 45 → FitsSigned w64 (pos n)
small_fits n h = omega (arith, ints)

less_fits : (t : ℤ) (n : ℕ) → unsigned_abs t ≤ 2 ^ 61 → n ≤ 2 ^ 45 → FitsSigned w64 (t -ℤ to_z w64 n)
less_fits t n p q = omega (arith, ints)

pub slack_fits : (t : ℤ) (n : ℕ) → unsigned_abs t ≤ 2 ^ 61 → n ≤ 2 ^ 45 → FitsSigned w64 (over t -ℤ to_z w64 n)
slack_fits t n p q = subst (λ (z : ℤ). FitsSigned w64 (z -ℤ to_z w64 n)) (sym (kept t (omega arith))) (less_fits t n p q)

natural : (n : ℕ) → n ≤ 2 ^ 45 → to_z w64 n ≡ pos n
natural n h = omega (arith, ints)

pub slack_small : (t : ℤ) (n : ℕ) → unsigned_abs t ≤ 2 ^ 61 → n ≤ 2 ^ 45 → unsigned_abs (t -ℤ pos n) ≤ 2 ^ 62
slack_small t n p q = omega (arith, ints)

pub slack_kept : (t : ℤ) (n : ℕ) → unsigned_abs t ≤ 2 ^ 61 → n ≤ 2 ^ 45 → over (over t -ℤ to_z w64 n) ≡ t -ℤ pos n
slack_kept t n p q =
    let x : over t ≡ t = kept t (omega arith) in
    let y : to_z w64 n ≡ pos n = natural n q in
    let both : over t -ℤ to_z w64 n ≡ t -ℤ pos n = (λ i. x i -ℤ y i) in
    ap over both ∙ kept (t -ℤ pos n) (slack_small t n p q)

at_most : (a b : ℤ) → a ≡ b → a ≤ℤ b
at_most a b e = omega (arith, ints)

pub no_less : (a b : ℤ) → lt_z a b ≡ false → b ≤ℤ a
no_less a b h = grind (arith, ints)

less_is : (a b : ℤ) → lt_z a b ≡ true → a <ℤ b
less_is a b h = grind (arith, ints)

less_most : (a b c : ℤ) → a <ℤ b → b ≤ℤ c → a ≤ℤ c
less_most a b c p q = omega (arith, ints)

-- the least of one number
pub least_first : (xs ys ts : List ℤ) (m from : ℕ) (z : ℤ) → z ≡ slack_in xs ys ts m from → IsLeastIn xs ys ts m from (from + 1) z
least_first xs ys ts m from z e = record {
  least = λ j p q. (let s : from ≡ j = omega arith in at_most z (slack_in xs ys ts m j) (e ∙ ap (slack_in xs ys ts m) s));
  one = (from, omega arith, omega arith, e);
}

-- the next one is less
pub least_lower : (xs ys ts : List ℤ) (m from n : ℕ) (z x : ℤ) → from ≤ n → IsLeastIn xs ys ts m from n z → x ≡ slack_in xs ys ts m n → lt_z x z ≡ true → IsLeastIn xs ys ts m from (n + 1) x
least_lower xs ys ts m from n z x l h e less = record {
  least = λ j p q. elim (cases_lt j n) [
    | inl a ↦ less_most x z (slack_in xs ys ts m j) (less_is x z less) (h.least j p a)
    | inr a ↦ (let s : n ≡ j = omega arith in at_most x (slack_in xs ys ts m j) (e ∙ ap (slack_in xs ys ts m) s))
  ];
  one = (n, l, omega arith, e);
}

-- the next one isn't
pub least_stays : (xs ys ts : List ℤ) (m from n : ℕ) (z x : ℤ) → IsLeastIn xs ys ts m from n z → x ≡ slack_in xs ys ts m n → z ≤ℤ x → IsLeastIn xs ys ts m from (n + 1) z
least_stays xs ys ts m from n z x h e most = record {
  least = λ j p q. elim (cases_lt j n) [
    | inl a ↦ h.least j p a
    | inr a ↦ (let s : n ≡ j = omega arith in subst (λ (y : ℤ). z ≤ℤ y) (e ∙ ap (slack_in xs ys ts m) s) most)
  ];
  one = (h.one.0, h.one.1, omega (arith, h.one.2), h.one.3);
}

-- one number more is stored
pub each_more : (P : ℕ → ℤ → Type 0) (xs : List ℤ) (b : ℕ) (z : ℤ) → b < length xs → ((k : ℕ) → k < b → P k (get_or xs k (pos 0))) → P b z → (k : ℕ) → k < b + 1 → P k (get_or (set xs b z) k (pos 0))
each_more P xs b z l h here k m = elim (cases_lt k b) [
  | inl a ↦ subst (P k) (sym (get_or-set_other xs b k z (pos 0) (λ e. omega arith))) (h k a)
  | inr a ↦ (let e : b ≡ k = omega arith in subst (λ (j : ℕ). P j (get_or (set xs b z) j (pos 0))) e (subst (P b) (sym (get_or-set_same xs b z (pos 0) l)) here))
]

-- a row of small numbers
pub row_small : (n m : ℕ) (f : ℕ → ℤ) (xs : List ℤ) → IsRow n f xs → ((k : ℕ) → k < n → unsigned_abs (f k) ≤ m) → AreSmall m xs
row_small n m f xs r h = λ k l. (let s : k < n = omega (arith, r.count) in omega (arith, ap unsigned_abs (r.each k s), h k s))

-- what the rows give for a unit, seen from a place, is that of the chain
slack_same : (w : ChainEnds) (us : List ℕ) (rows : RowLists) → AreRowsOf w us rows → (m j : ℕ) → m ≤ length us → j < length us → slack_in rows.entry_x rows.entry_y rows.turned m j ≡ slack_of w us m j
slack_same w us rows r m j p q =
    let xm = r.entry_x.each m (omega arith) in
    let ym = r.entry_y.each m (omega arith) in
    let xj = r.entry_x.each j (omega arith) in
    let yj = r.entry_y.each j (omega arith) in
    let xn = r.entry_x.each (j + 1) (omega arith) in
    let yn = r.entry_y.each (j + 1) (omega arith) in
    let t = r.turned.each j q in
    λ i. t i -ℤ pos (unsigned_abs (xm i -ℤ xj i) + unsigned_abs (ym i -ℤ yj i) + (unsigned_abs (xm i -ℤ xn i) + unsigned_abs (ym i -ℤ yn i)))

pub least_slack_is : (w : ChainEnds) (us : List ℕ) (rows : RowLists) (b : ℕ) (z : ℤ) → AreRowsOf w us rows → b < block_count (length us)
    → IsLeastIn rows.entry_x rows.entry_y rows.turned (middle_of (length us) b) (32 * b) (min (32 * b + 32) (length us)) z → IsLeastSlack w us b z
least_slack_is w us rows b z r l h = record {
  least = λ j p q s. subst (λ (y : ℤ). z ≤ℤ y) (slack_same w us rows r (middle_of (length us) b) j (omega arith) s) (h.least j p (omega arith));
  one = (h.one.0, h.one.1, omega (arith, h.one.2), omega (arith, h.one.2), h.one.3 ∙ slack_same w us rows r (middle_of (length us) b) h.one.0 (omega arith) (omega (arith, h.one.2)));
}

-- the same of rows that are those of the chain
pub least_slack_there : (w : ChainEnds) (us : List ℕ) (rows : RowLists) (b : ℕ) (z : ℤ) (xs ys ts : List ℤ) (n : ℕ) → xs ≡ rows.entry_x → ys ≡ rows.entry_y → ts ≡ rows.turned → n ≡ length us → AreRowsOf w us rows → b < block_count (length us)
    → IsLeastIn xs ys ts (middle_of n b) (32 * b) (min (32 * b + 32) n) z → IsLeastSlack w us b z
least_slack_there w us rows b z xs ys ts n ex ey et en r l h =
    least_slack_is w us rows b z r l
    (subst (λ (k : ℕ). IsLeastIn rows.entry_x rows.entry_y rows.turned (middle_of k b) (32 * b) (min (32 * b + 32) k) z) en
    (subst (λ (t : List ℤ). IsLeastIn rows.entry_x rows.entry_y t (middle_of n b) (32 * b) (min (32 * b + 32) n) z) et
    (subst (λ (y : List ℤ). IsLeastIn rows.entry_x y ts (middle_of n b) (32 * b) (min (32 * b + 32) n) z) ey
    (subst (λ (x : List ℤ). IsLeastIn x ys ts (middle_of n b) (32 * b) (min (32 * b + 32) n) z) ex h))))
