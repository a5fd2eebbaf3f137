use Rattle.std.proofs.Common.{Option, arith, subst, sym, refl, ◌∙◌}
use Rattle.std.proofs.lemmas.Result.{err_from_is_err_and}
use Rattle.stil_calls.specs.declared.judging.Judging.TheVariants.{Lengths}
use Rattle.stil_reader.specs.declared.cursor.Taken.{Taken}
use Rattle.stil_reader.specs.declared.step.Step.{Step}
use Rattle.stil_reader.specs.Reading.{IsNext}
use Rattle.stil_reader.proofs.Ahead.{leaves-begun, leaves-on, leaves-item, leaves-end, leaves-stop}
use Rattle.stil_reader.proofs.cursor.take_item.Goals as goal

pub loop-step-init : goal.loop-step-init
loop-step-init c = leaves-begun c.args.head.now c.args.point c.args.rest.now c.requires.early

pub next-requires-clause-size : goal.next-requires-clause-size
next-requires-clause-size c = omega (arith, c.loop-step.invariant.within, c.requires.size)

pub next-requires-clause-early : goal.next-requires-clause-early
next-requires-clause-early c = c.loop-step.invariant.early

pub returns-in_err-step-clause-fault : goal.returns-in_err-step-clause-fault
returns-in_err-step-clause-fault c =
    let p = err_from_is_err_and c.from_residual.result c.from_residual.ensures.1 in
    rw (p.1, p.2)
    (leaves-stop c.args.head.now c.args.point c.args.rest.now c.requires.size c.loop-step.at c.loop-step.left.now c.loop-step.invariant (Option Step) (Option Taken) c.in_err-step.field-0.0
    c.in_err-step.ensures.first c.in_err-step.ensures.nothing)

pub returns-in-Some-item_of-clause-value : goal.returns-in-Some-item_of-clause-value
returns-in-Some-item_of-clause-value c =
    let steps = subst (λ (o : Option Step). IsNext Lengths c.args.head.now c.loop-step.at c.loop-step.left.now o) c.in-Some.is c.in_ok-step.ensures.value in
    leaves-item c.args.head.now c.args.point c.args.rest.now c.requires.size c.loop-step.at c.loop-step.left.now c.loop-step.invariant c.in-Some.step steps _
    (sym c.item_of.ensures.value ∙ c.in-Some-item_of.is) refl c.split_at.ensures.back

pub loop-step-preserved : goal.loop-step-preserved
loop-step-preserved c =
    let steps = subst (λ (o : Option Step). IsNext Lengths c.args.head.now c.loop-step.at c.loop-step.left.now o) c.in-Some.is c.in_ok-step.ensures.value in
    leaves-on c.args.head.now c.args.point c.args.rest.now c.requires.size c.loop-step.at c.loop-step.left.now c.loop-step.invariant c.in-Some.step steps
    (sym c.item_of.ensures.value ∙ c.in_default-item_of.is) c.split_at.result.1.now c.split_at.ensures.back

pub returns-clause-value : goal.returns-clause-value
returns-clause-value c =
    let done = subst (λ (o : Option Step). IsNext Lengths c.args.head.now c.loop-step.at c.loop-step.left.now o) c.in_default.is c.in_ok-step.ensures.value in
    leaves-end c.args.head.now c.args.point c.args.rest.now c.requires.size c.loop-step.at c.loop-step.left.now c.loop-step.invariant done
