-- The numbers from unit to unit.
use Rattle.std.proofs.Common.{refl, ap, sym, ◌∙◌, ◌≡◌, ℕ, ◌+◌, ◌*◌, add-one, arith}
use Rattle.design_maker.specs.Numbers.{next_number, number_at}

pub number_first : 1 ≡ number_at (2 * 0)
unfolding number_at
number_first = refl

number_next : (m k : ℕ) → k ≡ m + 1 → number_at k ≡ next_number (number_at m)
unfolding number_at
number_next m k e = rw (e, add-one) refl

pub first_of_unit : (i s : ℕ) → s ≡ number_at (2 * i) → next_number s ≡ number_at (2 * i + 1)
first_of_unit i s e = ap next_number e ∙ sym (number_next (2 * i) (2 * i + 1) refl)

pub second_of_unit : (i s : ℕ) → s ≡ number_at (2 * i + 1) → next_number s ≡ number_at (2 * i + 2)
second_of_unit i s e = let k : 2 * i + 2 ≡ 2 * i + 1 + 1 = omega arith in ap next_number e ∙ sym (number_next (2 * i + 1) (2 * i + 2) k)

pub next_unit : (i s : ℕ) → s ≡ number_at (2 * i + 2) → s ≡ number_at (2 * (i + 1))
next_unit i s e = let k : 2 * i + 2 ≡ 2 * (i + 1) = omega arith in e ∙ ap number_at k
