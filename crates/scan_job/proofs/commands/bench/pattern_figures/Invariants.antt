use Rattle.std.proofs.Common.{◌≡◌, drop, None}
use Rattle.std.specs.Prelude.{All}
use Rattle.stil_calls.specs.declared.judging.Judging.TheVariants.{Lengths}
use Rattle.stil_calls.specs.Statements.{AreAccepted}
use Rattle.stil_reader.specs.Patterns.{patterns_told, statements_in}
use Rattle.retargeted_patterns.specs.Progress.{FiguresLaw, after_all, at_first}
use Rattle.scan_job.proofs.commands.bench.pattern_figures.Given as goal

abbrev pub invariant-loop-statement : goal.invariant-loop-statement
invariant-loop-statement l = record {
  more : after_all (drop l.statement-index l.statements) l.retargeting ≡ after_all l.statements (at_first l.fn.plan.head l.fn.plan.map.0 l.fn.plan.map.1);
  head : l.retargeting.head ≡ l.fn.plan.head;
  accepted : All (AreAccepted l.fn.plan.head) l.statements;
  statements : l.statements ≡ statements_in (patterns_told Lengths l.fn.plan.head l.fn.stil).says;
  sound : (patterns_told Lengths l.fn.plan.head l.fn.stil).fault ≡ None;
  law : FiguresLaw;
}
