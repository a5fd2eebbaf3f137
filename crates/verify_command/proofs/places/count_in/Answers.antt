use Rattle.std.proofs.Common.{Option, refl, subst, arith}
use Rattle.stil_types.specs.declared.statement.PatternStatement.{PatternStatement}
use Rattle.verify_command.specs.Steps.{TakesNext}
use Rattle.verify_command.proofs.Beside.{counted_on, counted_end}
use Rattle.verify_command.proofs.places.count_in.Goals as goal

pub returns-in_default : goal.returns-in_default
returns-in_default c =
    let none = subst (λ (o : Option PatternStatement). TakesNext c.loop-done.patterns o c.next_statement.new.patterns) c.in_default.is c.in_ok-statement.ensures.value in
    record {
      value = counted_end c.args.pattern c.args.patterns.now c.loop-done._done c.loop-done.count c.args.at c.loop-done.patterns c.loop-done.invariant none (omega (arith, c.loop-done-test.true));
    }

pub loop-done-preserved : goal.loop-done-preserved
loop-done-preserved c =
    let taken = subst (λ (o : Option PatternStatement). TakesNext c.loop-done.patterns o c.next_statement.new.patterns) c.in-Some.is c.in_ok-statement.ensures.value in
    counted_on c.args.pattern c.args.patterns.now c.loop-done._done c.loop-done.count c.loop-done.patterns c.next_statement.new.patterns c.loop-done.invariant c.in-Some.statement taken
    c.in_ok-count.count c.in_ok-count.ensures.value _ refl
