-- Counts by numbers.
use Rattle.std.proofs.Common.{◌≡◌, ℕ, zero, suc, List, [], ◌∷◌, ◌++◌, get_or, refl}

-- what isn't counted yet is 0
pub push_zero : (counts : List ℕ) (k : ℕ) → get_or (counts ++ 0 ∷ []) k 0 ≡ get_or counts k 0
push_zero [] zero = refl
push_zero [] (suc k) = refl
push_zero (n ∷ counts) zero = refl
push_zero (n ∷ counts) (suc k) = push_zero counts k
