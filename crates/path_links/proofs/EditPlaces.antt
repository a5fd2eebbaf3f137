-- The first place in a list at which a test passes.
use Rattle.std.proofs.Common.{◌≡◌, ℕ, ◌<◌, Bool, true, false, cond, ltb, List, [], ◌∷◌, length, refl, get_or, ap, ◌∙◌, arith}
use Rattle.std.specs.Prelude.{Option, Some, None, position}
use Rattle.std.proofs.lemmas.Bool.{lt-ltb, le-ltb}
use Rattle.std.proofs.lemmas.List.Sums.{position_or_len_is}

abbrev at_place : ℕ → ℕ → Option ℕ
at_place len i = cond (ltb i len) (Some i) None

pub first_at : {X : Type 0} (p : X → Bool) (xs : List X) (i : ℕ) (d : X) → i < length xs → ((k : ℕ) → k < i → p (get_or xs k d) ≡ false) → p (get_or xs i d) ≡ true → position p xs ≡ Some i
first_at p xs i d lt below here =
    ap (at_place (length xs)) (position_or_len_is p xs i d (omega arith) below (λ _. here)) ∙ ap (λ (b : Bool). cond b (Some i) None) (lt-ltb i (length xs) lt)

pub nowhere : {X : Type 0} (p : X → Bool) (xs : List X) (i : ℕ) → length xs ≡ i → ((k : ℕ) (d : X) → k < i → p (get_or xs k d) ≡ false) → position p xs ≡ None
nowhere p [] i len below = refl
nowhere p (x ∷ xs) i len below =
    let past = position_or_len_is p (x ∷ xs) i x (omega (arith, len)) (λ k lt. below k x lt) (λ lt. absurd (omega (arith, lt, len))) in
    ap (at_place (length (x ∷ xs))) past ∙ ap (λ (b : Bool). cond b (Some i) None) (le-ltb i (length (x ∷ xs)) (omega (arith, len)))
