use Rattle.std.proofs.Common.{sym, ◌∙◌}
use Rattle.std.proofs.lemmas.Bool.{cond-true, cond-false}
use Rattle.stil_calls.proofs.Plain.{passed_repeat}
use Rattle.stil_calls.proofs.repeats.Reach.behind_repeat.Goals as goal

pub returns-then-is_expectation : goal.returns-then-is_expectation
returns-then-is_expectation c = record {
  reaching = λ left all r.
      passed_repeat c.args.self.before c.args.self.reach c.saturating_add-before.result c.saturating_add-before.result c.args.repeat left all c.saturating_add-before.ensures
      (sym (cond-true _ c.saturating_add-before.result c.args.self.reach (sym c.is_expectation.ensures.value ∙ c.if-is_expectation.true))) r;
}

pub returns : goal.returns
returns c = record {
  reaching = λ left all r.
      passed_repeat c.args.self.before c.args.self.reach c.saturating_add-before.result c.args.self.reach c.args.repeat left all c.saturating_add-before.ensures
      (sym (cond-false _ c.saturating_add-before.result c.args.self.reach (sym c.is_expectation.ensures.value ∙ c.if-is_expectation.false))) r;
}
