-- The first place at which a test passes.
use Rattle.std.proofs.Common.{◌≡◌, ℕ, zero, suc, ◌+◌, ◌<◌, ◌≤◌, ◌⊎◌, inl, inr, Bool, true, false, cond, eqb, List, [], ◌∷◌, ◌++◌, length, Option, Some, None, is_some, slice_get, position, find, nat_lt, refl, sym, ap, ◌∙◌, subst, arith, lt-ltb, le-ltb, length-append, length-take, get_or, take}
use Rattle.std.specs.List.{position_or_len}
use Rattle.std.specs.Option.{option_or}
use Rattle.std.proofs.lemmas.Bool.{cases_lt}
use Rattle.std.proofs.lemmas.Bool.Decides.{nat_tests}
use Rattle.std.proofs.lemmas.List.Folds.{position_or_len_push, find_at}
use Rattle.std.proofs.lemmas.List.Sums.{prefix_len-le-length}
use Rattle.std.proofs.lemmas.Option.{same_Some, none-some, slice_get_past}
use Rattle.std.specs.Prelude.{not}
use Rattle.list_laws.proofs.RowsMore.{take_next}

or_none : {X : Type 0} (o : Option X) → option_or o None ≡ o
or_none None = refl
or_none (Some x) = refl

or_some : {X : Type 0} (o p : Option X) → is_some o ≡ true → option_or o p ≡ o
or_some None p e = absurd cc
or_some (Some x) p e = refl

is_some_or : {X : Type 0} (o : Option X) (t : Bool) (x : X) → is_some (option_or o (cond t (Some x) None)) ≡ cond t true (is_some o)
is_some_or None true x = refl
is_some_or None false x = refl
is_some_or (Some y) true x = refl
is_some_or (Some y) false x = refl

push_below : (a n : ℕ) (t : Bool) → a < n → cond (nat_lt (cond (eqb a n) (n + cond t 0 1) a) (n + 1)) (Some (cond (eqb a n) (n + cond t 0 1) a)) None ≡ option_or (cond (nat_lt a n) (Some a) None) (cond t (Some n) None)
push_below a n t lt =
    let other : eqb a n ≡ false = grind (arith, nat_tests) in
    let below : nat_lt a n ≡ true = grind (arith, nat_tests) in
    let more : nat_lt a (n + 1) ≡ true = grind (arith, nat_tests) in
    rw (other, below, more)

push_end : (n : ℕ) (t : Bool) → cond (nat_lt (cond (eqb n n) (n + cond t 0 1) n) (n + 1)) (Some (cond (eqb n n) (n + cond t 0 1) n)) None ≡ option_or (cond (nat_lt n n) (Some n) None) (cond t (Some n) None)
push_end n true =
    let same : eqb n n ≡ true = grind (arith, nat_tests) in
    let not_below : nat_lt n n ≡ false = grind (arith, nat_tests) in
    let more : nat_lt (n + 0) (n + 1) ≡ true = grind (arith, nat_tests) in
    let zero : n + 0 ≡ n = omega arith in
    rw (same, not_below) (rw more (ap Some zero))
push_end n false =
    let same : eqb n n ≡ true = grind (arith, nat_tests) in
    let not_below : nat_lt n n ≡ false = grind (arith, nat_tests) in
    let past : nat_lt (n + 1) (n + 1) ≡ false = grind (arith, nat_tests) in
    rw (same, not_below) (rw past)

push_at : (a n : ℕ) (t : Bool) → a ≡ n → cond (nat_lt (cond (eqb a n) (n + cond t 0 1) a) (n + 1)) (Some (cond (eqb a n) (n + cond t 0 1) a)) None ≡ option_or (cond (nat_lt a n) (Some a) None) (cond t (Some n) None)
push_at a n t e =
    subst (λ (b : ℕ). cond (nat_lt (cond (eqb b n) (n + cond t 0 1) b) (n + 1)) (Some (cond (eqb b n) (n + cond t 0 1) b)) None ≡ option_or (cond (nat_lt b n) (Some b) None) (cond t (Some n) None)) (sym e) (push_end n t)

below_or_at : (a n : ℕ) → a ≤ n → (a < n) ⊎ (a ≡ n)
below_or_at zero zero le = inr refl
below_or_at zero (suc n) le = inl (omega arith)
below_or_at (suc a) zero le = absurd (omega arith)
below_or_at (suc a) (suc n) le = elim (below_or_at a n (omega arith)) [ inl lt ↦ inl (omega arith) | inr e ↦ inr (ap suc e) ]

push : (a n : ℕ) (t : Bool) → a ≤ n → cond (nat_lt (cond (eqb a n) (n + cond t 0 1) a) (n + 1)) (Some (cond (eqb a n) (n + cond t 0 1) a)) None ≡ option_or (cond (nat_lt a n) (Some a) None) (cond t (Some n) None)
push a n t le = elim (below_or_at a n le) [ inl lt ↦ push_below a n t lt | inr e ↦ push_at a n t e ]

within_by : (p n i : ℕ) → cond (nat_lt p n) (Some p) None ≡ Some i → (p ≡ i) × (p < n)
within_by p n i e =
    elim (cases_lt p n) [
      | inl lt ↦
          (same_Some p i (sym (ap (λ (t : Bool). cond t (Some p) None) (lt-ltb p n lt)) ∙ e), lt)
      | inr le ↦ absurd (none-some i (sym (ap (λ (t : Bool). cond t (Some p) None) (le-ltb p n le)) ∙ e))
    ]

module _ {X : Type 0} (test : X → Bool) where
  pub position_push : (xs : List X) (x : X) → position test (xs ++ x ∷ []) ≡ option_or (position test xs) (cond (test x) (Some (length xs)) None)
  position_push xs x =
      ap (λ (p : ℕ). cond (nat_lt p (length (xs ++ x ∷ []))) (Some p) None) (position_or_len_push test xs x)
      ∙ ap (λ (n : ℕ). cond (nat_lt (cond (eqb (position_or_len test xs) (length xs)) (length xs + cond (test x) 0 1) (position_or_len test xs)) n) (Some (cond (eqb (position_or_len test xs) (length xs)) (length xs + cond (test x) 0 1) (position_or_len test xs))) None)
      (length-append xs (x ∷ []))
      ∙ push (position_or_len test xs) (length xs) (test x) (prefix_len-le-length (λ y. not (test y)) xs)

  pub position_next : (xs : List X) (i : ℕ) (x : X) → i < length xs → x ≡ get_or xs i x → position test (take (i + 1) xs) ≡ option_or (position test (take i xs)) (cond (test x) (Some i) None)
  position_next xs i x lt is =
      let taken : length (take i xs) ≡ i = omega (arith, length-take i xs) in
      ap (position test) (take_next xs i x lt is) ∙ position_push (take i xs) x ∙ ap (λ (n : ℕ). option_or (position test (take i xs)) (cond (test x) (Some n) None)) taken

  -- one that fails the test is never the first
  pub position_fails : (xs : List X) (x : X) → test x ≡ false → position test (xs ++ x ∷ []) ≡ position test xs
  position_fails xs x e = position_push xs x ∙ ap (λ (t : Bool). option_or (position test xs) (cond t (Some (length xs)) None)) e ∙ or_none (position test xs)

  -- nor is one behind the first
  pub position_stays : (xs : List X) (x : X) → is_some (position test xs) ≡ true → position test (xs ++ x ∷ []) ≡ position test xs
  position_stays xs x e = position_push xs x ∙ or_some (position test xs) (cond (test x) (Some (length xs)) None) e

  pub position_last : (xs : List X) (x : X) → test x ≡ true → position test xs ≡ None → position test (xs ++ x ∷ []) ≡ Some (length xs)
  position_last xs x e none =
      position_push xs x ∙ ap (λ (t : Bool). option_or (position test xs) (cond t (Some (length xs)) None)) e ∙ ap (λ (o : Option ℕ). option_or o (Some (length xs))) none

  pub position_some : (xs : List X) (x : X) → is_some (position test (xs ++ x ∷ [])) ≡ cond (test x) true (is_some (position test xs))
  position_some xs x = ap is_some (position_push xs x) ∙ is_some_or (position test xs) (test x) (length xs)

  pub position_within : (xs : List X) (i : ℕ) → position test xs ≡ Some i → i < length xs
  position_within xs i e = let w = within_by (position_or_len test xs) (length xs) i e in omega (arith, w.0, w.1)

  -- what stands there is found
  pub found_place : (xs : List X) (i : ℕ) → position test xs ≡ Some i → slice_get xs i ≡ find test xs
  found_place xs i e = let w = within_by (position_or_len test xs) (length xs) i e in ap (slice_get xs) (sym w.0) ∙ sym (find_at test xs)

  none_by : (xs : List X) → position test xs ≡ None → length xs ≤ position_or_len test xs
  none_by xs e =
      elim (cases_lt (position_or_len test xs) (length xs)) [
        | inl lt ↦
            absurd (none-some (position_or_len test xs) (sym e ∙ ap (λ (t : Bool). cond t (Some (position_or_len test xs)) None) (lt-ltb (position_or_len test xs) (length xs) lt)))
        | inr le ↦ le
      ]

  pub found_no_place : (xs : List X) → position test xs ≡ None → None ≡ find test xs
  found_no_place xs e = sym (find_at test xs ∙ slice_get_past xs (position_or_len test xs) (none_by xs e))
