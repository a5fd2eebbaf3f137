-- Lists of numbers that are apart.
use Rattle.std.proofs.Common.{◌≡◌, ℕ, ◌+◌, ◌<◌, ◌≤◌, List, [], ◌∷◌, length, true, false, sym, ◌∙◌, arith, suc, zero, eqb, get_or, subst}
use Rattle.std.specs.Prelude.{All}
use Rattle.std.specs.List.{AllByRecursion, Contains, IsDistinct}
use Rattle.std.proofs.lemmas.Bool.{eqb-true, ne_eqb}
use Rattle.std.proofs.lemmas.List.{get_or_default}
use Rattle.std.proofs.lemmas.Map.Keys.{IsDistinct-cons}
use Rattle.std.proofs.lemmas.Map.Steps.{length-le_from_distinct_below}
use Rattle.std.proofs.lemmas.Map.Views.{Contains-from_any}
use Rattle.stil_tester.proofs.Shifts.{count_of, count_of-more, count_of-self, head_apart}

-- what stands somewhere is counted
pub counted_at : (v : ℕ) (ns : List ℕ) (i : ℕ) → i < length ns → get_or ns i 0 ≡ v → 1 ≤ count_of v ns
counted_at v [] i l e = absurd (omega arith)
counted_at v (n ∷ ns) zero l e = omega (arith, subst (λ m. count_of v (m ∷ ns) ≡ 1 + count_of v ns) (sym e) (count_of-self v ns))
counted_at v (n ∷ ns) (suc i) l e = omega (arith, count_of-more v n ns, counted_at v ns i (omega arith) e)

-- numbers that are counted once at most are apart
pub apart : (ns : List ℕ) → ((v : ℕ) → count_of v ns ≤ 1) → (i j : ℕ) → i < j → j < length ns → get_or ns i 0 ≡ get_or ns j 0 → ⊥
apart [] h i j l m e = absurd (omega arith)
apart (n ∷ ns) h i zero l m e = absurd (omega arith)
apart (n ∷ ns) h zero (suc j) l m e = omega (arith, count_of-self n ns, h n, counted_at n ns j (omega arith) (sym e))
apart (n ∷ ns) h (suc i) (suc j) l m e = apart ns (λ v. omega (arith, count_of-more v n ns, h v)) i j (omega arith) (omega arith) e

-- ---- numbers below n that are counted once at most are n at most

others_differ : (n : ℕ) (ns : List ℕ) → count_of n ns ≡ 0 → AllByRecursion (λ m. eqb n m ≡ false) ns
others_differ n [] e = tt
others_differ n (m ∷ ns) e = (ne_eqb n m (λ q. head_apart n m ns e (sym q)), others_differ n ns (omega (arith, e, count_of-more n m ns)))

distinct : (ns : List ℕ) → ((v : ℕ) → count_of v ns ≤ 1) → IsDistinct eqb ns
unfolding IsDistinct
distinct [] h = tt
distinct (n ∷ ns) h = IsDistinct-cons eqb n ns (others_differ n ns (omega (arith, h n, count_of-self n ns))) (distinct ns (λ v. omega (arith, h v, count_of-more v n ns)))

below : (ns : List ℕ) (n q : ℕ) → All (λ m. m < n) ns → Contains ns q → q < n
below ns n q h at = let e : get_or ns at.0 0 ≡ q = get_or_default ns at.0 0 q at.1 ∙ at.2 in omega (arith, e, h at.0 0 at.1)

pub few : (ns : List ℕ) (n : ℕ) → ((v : ℕ) → count_of v ns ≤ 1) → All (λ m. m < n) ns → length ns ≤ n
few ns n once h = length-le_from_distinct_below ns n (distinct ns once) (λ q m. below ns n q h (Contains-from_any eqb-true q ns m))
