-- Places in lists that are joined.
use Rattle.std.proofs.Common.{◌≡◌, ℕ, ◌+◌, ◌<◌, zero, suc, List, [], ◌∷◌, ◌++◌, length, refl, ap, arith}
use Rattle.std.specs.Prelude.{slice_get}

pub get_left : {X : Type 0} (xs ys : List X) (k : ℕ) → k < length xs → slice_get (xs ++ ys) k ≡ slice_get xs k
get_left [] ys k l = absurd (omega arith)
get_left (x ∷ xs) ys zero l = refl
get_left (x ∷ xs) ys (suc k) l = get_left xs ys k (omega arith)

pub get_right : {X : Type 0} (xs ys : List X) (k j : ℕ) → k ≡ length xs + j → slice_get (xs ++ ys) k ≡ slice_get ys j
get_right [] ys k j e = ap (slice_get ys) (omega (arith, e))
get_right (x ∷ xs) ys zero j e = absurd (omega (arith, e))
get_right (x ∷ xs) ys (suc k) j e = get_right xs ys k j (omega (arith, e))
