use Rattle.std.proofs.Common.{Option, refl, subst}
use Rattle.stil_types.specs.declared.statement.PatternStatement.{PatternStatement}
use Rattle.verify_command.specs.Steps.{TakesNext}
use Rattle.verify_command.proofs.Beside.{beside_on, differs_here, differs_alone, none_differs}
use Rattle.verify_command.proofs.places.first_difference.Goals as goal

pub returns-then-not-branch : goal.returns-then-not-branch
returns-then-not-branch c =
    let first = subst (λ (o : Option PatternStatement). TakesNext c.loop-a.old o c.next_statement.new.patterns) c.in-Some.is c.in_ok-a.ensures.value in
    record {
      value = differs_here c.args.map.now.0 c.args.map.now.1 c.args.old.now c.args.new.now c.loop-a.at c.loop-a.old c.loop-a.new c.loop-a.invariant c.next_statement.new.patterns
          c.next_statement-in-Some.new.patterns c.in-Some.a first c.in_ok-b.b c.in_ok-b.ensures.value
          (λ same. let yes = c.in_ok-is_same_place.ensures.value.1 same in let differ = c.if-not-branch.true in absurd cc) _ refl c.differing-pattern.ensures.value;
    }

pub loop-a-preserved-in_ok-at : goal.loop-a-preserved-in_ok-at
loop-a-preserved-in_ok-at c =
    let first = subst (λ (o : Option PatternStatement). TakesNext c.loop-a.old o c.next_statement.new.patterns) c.in-Some.is c.in_ok-a.ensures.value in
    beside_on c.args.map.now.0 c.args.map.now.1 c.args.old.now c.args.new.now c.loop-a.at c.loop-a.old c.loop-a.new c.loop-a.invariant c.next_statement.new.patterns
    c.next_statement-in-Some.new.patterns c.in-Some.a first c.in_ok-b.b c.in_ok-b.ensures.value (c.in_ok-is_same_place.ensures.value.0 c.if-not-branch.false) c.in_ok-at.at c.in_ok-at.ensures.value

pub loop-a-preserved-in_ok-at-2 : goal.loop-a-preserved-in_ok-at-2
loop-a-preserved-in_ok-at-2 c =
    let first = subst (λ (o : Option PatternStatement). TakesNext c.loop-a.old o c.next_statement.new.patterns) c.in-Some.is c.in_ok-a.ensures.value in
    beside_on c.args.map.now.0 c.args.map.now.1 c.args.old.now c.args.new.now c.loop-a.at c.loop-a.old c.loop-a.new c.loop-a.invariant c.next_statement.new.patterns
    c.next_statement-in-Some.new.patterns c.in-Some.a first c.in_ok-b.b c.in_ok-b.ensures.value (c.in_ok-is_same_place.ensures.value.0 c.if-not-branch.false) c.in_ok-at.at c.in_ok-at.ensures.value

pub loop-a-preserved : goal.loop-a-preserved
loop-a-preserved c =
    let first = subst (λ (o : Option PatternStatement). TakesNext c.loop-a.old o c.next_statement.new.patterns) c.in-Some.is c.in_ok-a.ensures.value in
    beside_on c.args.map.now.0 c.args.map.now.1 c.args.old.now c.args.new.now c.loop-a.at c.loop-a.old c.loop-a.new c.loop-a.invariant c.next_statement.new.patterns
    c.next_statement-in-Some.new.patterns c.in-Some.a first c.in_ok-b.b c.in_ok-b.ensures.value (c.in_ok-is_same_place.ensures.value.0 c.if-not-branch.false) c.in_ok-at.at c.in_ok-at.ensures.value

pub returns-in-Some-2 : goal.returns-in-Some-2
returns-in-Some-2 c =
    let none = subst (λ (o : Option PatternStatement). TakesNext c.loop-a.old o c.next_statement.new.patterns) c.in_default.is c.in_ok-a.ensures.value in
    let second = subst (λ (o : Option PatternStatement). TakesNext c.loop-a.new o c.next_statement-2.new.patterns) c.in-Some-2.is c.in_ok-b-2.ensures.value in
    record {
      value = differs_alone c.args.map.now.0 c.args.map.now.1 c.args.old.now c.args.new.now c.loop-a.at c.loop-a.old c.loop-a.new c.loop-a.invariant c.next_statement.new.patterns
          c.next_statement-2.new.patterns none c.in-Some-2.b second _ refl c.pattern_of.ensures.value;
    }

pub returns-in-None : goal.returns-in-None
returns-in-None c =
    let none = subst (λ (o : Option PatternStatement). TakesNext c.loop-a.old o c.next_statement.new.patterns) c.in_default.is c.in_ok-a.ensures.value in
    let second = subst (λ (o : Option PatternStatement). TakesNext c.loop-a.new o c.next_statement-2.new.patterns) c.in-None.is c.in_ok-b-2.ensures.value in
    record {
      value = none_differs c.args.map.now.0 c.args.map.now.1 c.args.old.now c.args.new.now c.loop-a.at c.loop-a.old c.loop-a.new c.loop-a.invariant c.next_statement.new.patterns
          c.next_statement-2.new.patterns none second;
    }
