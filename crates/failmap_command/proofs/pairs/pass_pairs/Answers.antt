use Rattle.std.proofs.Common.{Option, subst}
use Rattle.stil_types.specs.declared.statement.PatternStatement.{PatternStatement}
use Rattle.verify_command.specs.Steps.{TakesNext}
use Rattle.failmap_command.proofs.PassedPairs.{passed_none, passed_on}
use Rattle.failmap_command.proofs.pairs.pass_pairs.Goals as goal

pub loop-a-init : goal.loop-a-init
loop-a-init c =
    passed_none c.args.map.now.0 c.args.map.now.1 c.args.old.now c.args.new.now c.args.mapping.now c.requires.old_sound c.requires.new_sound c.requires.alike c.requires.show_same

pub loop-a-preserved-in_ok-pass : goal.loop-a-preserved-in_ok-pass
loop-a-preserved-in_ok-pass c =
    let first = subst (λ (o : Option PatternStatement). TakesNext c.loop-a.old o c.next_statement.new.patterns) c.in-Some.is c.in_ok-a.ensures.value in
    let second = subst (λ (o : Option PatternStatement). TakesNext c.loop-a.new o c.next_statement-in-Some.new.patterns) c.in-Some-2.is c.in_ok-b.ensures.value in
    passed_on c.args.map.now.0 c.args.map.now.1 c.args.old.now c.args.new.now c.args.mapping.now c.loop-a.old c.loop-a.new c.loop-a.mapping c.loop-a.invariant c.next_statement.new.patterns c.in-Some.a
    first c.next_statement-in-Some.new.patterns c.in-Some-2.b second c.pass.new.self c.in_ok-pass.ensures.passed

pub loop-a-preserved-in_ok-pass-2 : goal.loop-a-preserved-in_ok-pass-2
loop-a-preserved-in_ok-pass-2 c =
    let first = subst (λ (o : Option PatternStatement). TakesNext c.loop-a.old o c.next_statement.new.patterns) c.in-Some.is c.in_ok-a.ensures.value in
    let second = subst (λ (o : Option PatternStatement). TakesNext c.loop-a.new o c.next_statement-in-Some.new.patterns) c.in-Some-2.is c.in_ok-b.ensures.value in
    passed_on c.args.map.now.0 c.args.map.now.1 c.args.old.now c.args.new.now c.args.mapping.now c.loop-a.old c.loop-a.new c.loop-a.mapping c.loop-a.invariant c.next_statement.new.patterns c.in-Some.a
    first c.next_statement-in-Some.new.patterns c.in-Some-2.b second c.pass.new.self c.in_ok-pass.ensures.passed

pub loop-a-preserved : goal.loop-a-preserved
loop-a-preserved c =
    let first = subst (λ (o : Option PatternStatement). TakesNext c.loop-a.old o c.next_statement.new.patterns) c.in-Some.is c.in_ok-a.ensures.value in
    let second = subst (λ (o : Option PatternStatement). TakesNext c.loop-a.new o c.next_statement-in-Some.new.patterns) c.in-Some-2.is c.in_ok-b.ensures.value in
    passed_on c.args.map.now.0 c.args.map.now.1 c.args.old.now c.args.new.now c.args.mapping.now c.loop-a.old c.loop-a.new c.loop-a.mapping c.loop-a.invariant c.next_statement.new.patterns c.in-Some.a
    first c.next_statement-in-Some.new.patterns c.in-Some-2.b second c.pass.new.self c.in_ok-pass.ensures.passed
