use Rattle.stil_calls.proofs.Plain.{passed_last, passed_none}
use Rattle.stil_calls.proofs.repeats.Reach.behind_plain.Goals as goal

pub returns-in-Some : goal.returns-in-Some
returns-in-Some c = record {
  reaching = λ left all r.
      passed_last c.args.self.before c.args.self.reach c.in-Some.at c.saturating_add-before.result c.saturating_add.result c.args.plain.now left all c.in-Some.ensures.0.high c.in-Some.ensures.1 c.in-Some.ensures.0.after
      c.saturating_add-before.ensures c.saturating_add.ensures r;
}

pub returns-in-None : goal.returns-in-None
returns-in-None c = record {
  reaching = λ left all r. passed_none c.args.self.before c.args.self.reach c.saturating_add-before.result c.args.plain.now left all c.in-None.ensures c.saturating_add-before.ensures r;
}
