-- The bits of a part of some steps.
use Rattle.std.proofs.Common.{◌≤◌, ℕ, List, take, drop, sum_by, arith}
use Rattle.std.proofs.lemmas.List.Sums.{sum_by-take-le, sum_by-take-drop}
use Rattle.chain_rules.specs.declared.spec.StepSpec.{StepSpec}

pub sum-part : (xs : List StepSpec) (m n : ℕ) → sum_by (λ s. s.bits) (take n (drop m xs)) ≤ sum_by (λ s. s.bits) xs
sum-part xs m n = omega (arith, sum_by-take-le (λ (s : StepSpec). s.bits) (drop m xs) n, sum_by-take-drop (λ (s : StepSpec). s.bits) xs m)
