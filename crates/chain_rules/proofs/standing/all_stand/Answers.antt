use Rattle.std.proofs.Common.{◌≡◌, ℕ, ◌+◌, ◌-◌, arith, subst, inl, inr, Contains}
use Rattle.std.specs.List.{concat}
use Rattle.std.proofs.lemmas.Bool.{cases_lt}
use Rattle.chain_rules.proofs.standing.all_stand.Goals as goal
use Rattle.chain_rules.proofs.standing.all_stand.Goals.{then-left-lt-WINDOW, else-left-lt-WINDOW}

pub loop-low-smaller : goal.loop-low-smaller
loop-low-smaller c = elim c.if-left-lt-WINDOW.branch [
  | then-left-lt-WINDOW w ↦ omega (arith, w.count-is, c.loop-low-test.true)
  | else-left-lt-WINDOW w ↦ omega (arith, w.count-is, c.loop-low-test.true, w.if-left-lt-WINDOW)
]

pub loop-low-preserved : goal.loop-low-preserved
loop-low-preserved c = λ u h. elim (cases_lt u c.loop-low.low) [
  | inl a ↦ c.loop-low.invariant u a
  | inr a ↦
      (let e : c.loop-low.low + (u - c.loop-low.low) ≡ u = omega arith in
      subst (λ (v : ℕ). Contains (concat c.args.plan.now.chains) v) e (c.stand_from.ensures.value.0 c.if-not-stand_from.false (u - c.loop-low.low) (omega arith)))
]
