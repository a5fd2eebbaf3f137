use Rattle.std.proofs.Common.{◌≡◌, ◌+◌, ◌<◌, ◌≤◌, ◌∙◌, ℕ, arith, ap, length, ⊎_elim, slice_index_or}
use Rattle.std.proofs.lemmas.Bool.{cases_lt}
use Rattle.chain_balance.proofs.Levels.{found}
use Rattle.chain_balance.proofs.work.first_longest.Goals as goal

pub loop-path-preserved : goal.loop-path-preserved
loop-path-preserved c =
    let p : ℕ = c.loop-path.path in
    let at = found c.args.most c.args.loads.now c.requires.some in
    let before : (k : ℕ) → k < c.loop-path.path + 1 → slice_index_or c.args.loads.now k 0 ≡ c.args.most → ⊥ = λ k l e.
    ⊎_elim (λ (b : k < c.loop-path.path). c.loop-path.invariant.before k b e)
    (λ (m : c.loop-path.path ≤ k). let same : c.loop-path.path ≡ k = omega (arith, l, m) in c.loop-path-test.true (ap (λ j. slice_index_or c.args.loads.now j 0) same ∙ e))
    (cases_lt k c.loop-path.path) in
    record {
      within =
          ⊎_elim (λ (l : c.loop-path.path + 1 < length c.args.loads.now). l)
          (λ (m : length c.args.loads.now ≤ c.loop-path.path + 1). absurd (before at.0 (omega (arith, m, at.1)) at.2))
          (cases_lt (c.loop-path.path + 1) (length c.args.loads.now));
      before = before;
    }
