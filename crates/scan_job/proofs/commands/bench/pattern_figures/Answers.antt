use Rattle.std.proofs.Common.{sym, subst, ap, ◌∙◌}
use Rattle.stil_types.specs.declared.head.StilHead.{StilHead}
use Rattle.stil_types.specs.declared.statement.PatternStatement.{PatternStatement}
use Rattle.stil_calls.specs.Statements.{AreAccepted}
use Rattle.retargeted_patterns.specs.Figures.{figures_of}
use Rattle.scan_job.proofs.Benched.{counted}
use Rattle.scan_job.proofs.commands.bench.pattern_figures.Goals as goal

pub write-requires : goal.write-requires
write-requires c =
    let so = c.loop-statement.invariant in
    record {
      accepted = subst (λ (head : StilHead). AreAccepted head c.statement-item.result) (sym so.head)
          (subst (λ (statement : PatternStatement). AreAccepted c.args.plan.head statement) (sym c.statement-item.is)
          (so.accepted c.loop-statement.statement-index c.statement-item.result c.loop-statement-test.true));
    }

pub returns : goal.returns
returns c =
    let so = c.loop-statement.invariant in
    record {
      value = c.figures.ensures.value
          ∙ counted so.law c.args.plan.head c.args.plan.map.0 c.args.plan.map.1 c.as_slice-statements.result.now c.loop-statement.statement-index c.loop-statement.retargeting c.loop-statement-test.false so.more
          ∙ ap (figures_of c.args.plan.map.0 c.args.plan.map.1) so.statements;
      sound = so.sound;
      fault = tt;
    }
