-- Numbers written in digits.
use Rattle.std.specs.Prelude.{ℕ, ◌+◌, ◌-◌, ◌*◌, ◌^◌, Bool, ◌&&◌, nat_le, min, List, [], ◌∷◌}

-- a decimal digit
abbrev pub is_digit : ℕ → Bool
is_digit b = nat_le 48 b && nat_le b 57

-- a number with one digit more; what 64 bits don't hold is the greatest number of these
abbrev pub counted : ℕ → ℕ → ℕ
counted n b = min (n * 10 + (b - 48)) (2 ^ 64 - 1)

-- the number that digits write behind others
abbrev pub count_from : ℕ → List ℕ → ℕ
count_from n [] = n
count_from n (b ∷ bs) = count_from (counted n b) bs
