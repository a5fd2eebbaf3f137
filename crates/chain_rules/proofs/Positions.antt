-- The first place of a list that passes a test, found or not.
use Rattle.std.proofs.Common.{◌≡◌, ℕ, ◌<◌, Bool, true, false, List, length, get_or, Some, None, position, refl, arith}
use Rattle.std.proofs.lemmas.List.Sums.{position_or_len_is}
use Rattle.std.proofs.lemmas.Bool.{lt-ltb, le-ltb}

pub position_found : {X : Type 0} (p : X → Bool) (xs : List X) (i : ℕ) (d : X) → i < length xs → ((k : ℕ) → k < i → p (get_or xs k d) ≡ false) → p (get_or xs i d) ≡ true → position p xs ≡ Some i
position_found p xs i d h before here =
    let e = position_or_len_is p xs i d (omega arith) before (λ _. here) in
    rw e (rw (lt-ltb i (length xs) h) refl)

pub position_missing : {X : Type 0} (p : X → Bool) (xs : List X) (d : X) → ((k : ℕ) → k < length xs → p (get_or xs k d) ≡ false) → position p xs ≡ None
position_missing p xs d none =
    let e = position_or_len_is p xs (length xs) d (omega arith) none (λ h. absurd (omega arith)) in
    rw e (rw (le-ltb (length xs) (length xs) (omega arith)) refl)
