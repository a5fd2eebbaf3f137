-- The characters of scan data are bytes of a run.
use Rattle.std.proofs.Common.{◌≡◌, ◌<◌, ◌≤◌, ℕ, zero, suc, ◌+◌, Bool, true, false, cond, List, [], ◌∷◌, length, drop, get_or, refl, ◌∙◌, subst, inl, inr, ◌⊎◌, arith}
use Rattle.std.specs.Prelude.{◌==◌, codes}
use Rattle.std.specs.List.{list_any, list_all, prefix_len}
use Rattle.std.proofs.lemmas.Bool.{and_parts, or_cases, eqb-true, false≢true}
use Rattle.lane_kernels.specs.Kernels.{is_allowed}
use Rattle.stil_tokens.specs.StilTokens.{is_run}

passes_by : (p : ℕ → Bool) (x b : ℕ) (xs : List ℕ) → list_all p (x ∷ xs) ≡ true → ((x == b) ≡ true) ⊎ (list_any (λ a. a == b) xs ≡ true) → (list_all p xs ≡ true → list_any (λ a. a == b) xs ≡ true → p b ≡ true) → p b ≡ true
passes_by p x b xs all (inl e) more = subst (λ (n : ℕ). p n ≡ true) (eqb-true x b e) ((and_parts (p x) (list_all p xs) all).0)
passes_by p x b xs all (inr e) more = more ((and_parts (p x) (list_all p xs) all).1) e

passes : (p : ℕ → Bool) (b : ℕ) (xs : List ℕ) → list_all p xs ≡ true → list_any (λ a. a == b) xs ≡ true → p b ≡ true
passes p b [] all e = absurd (false≢true e)
passes p b (x ∷ xs) all e = passes_by p x b xs all (or_cases (x == b) (list_any (λ a. a == b) xs) e) (passes p b xs)

character : (b : ℕ) → is_allowed (codes "01NLHX") b ≡ true → is_run b ≡ true
character b e = passes is_run b (codes "01NLHX") refl e

one_more : (t : Bool) (n m : ℕ) → t ≡ true → n ≡ m → cond t (1 + n) 0 ≡ suc m
one_more true n m e s = omega arith
one_more false n m e s = absurd (false≢true e)

pub front_run : (n : ℕ) (bs : List ℕ) → n ≤ length bs → ((k : ℕ) → k < n → is_allowed (codes "01NLHX") (get_or bs k 0) ≡ true) → prefix_len is_run bs ≡ n + prefix_len is_run (drop n bs)
front_run zero bs le all = omega arith
front_run (suc n) [] le all = absurd (omega arith)
front_run (suc n) (b ∷ bs) le all =
    one_more (is_run b) (prefix_len is_run bs) (n + prefix_len is_run (drop n bs)) (character b (all 0 (omega arith))) (front_run n bs (omega arith) (λ k l. all (suc k) (omega arith)))
    ∙ omega arith
