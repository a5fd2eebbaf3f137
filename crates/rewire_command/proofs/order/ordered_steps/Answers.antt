use Rattle.std.proofs.Common.{rules, Vec, Global, sym, ap, ◌∙◌}
use Rattle.chain_trace.specs.declared.path.Step.{Step}
use Rattle.rewire_command.proofs.Ordering.{takes, leaves}
use Rattle.rewire_command.proofs.order.ordered_steps.Goals.{in-Some+in_ok-push, in_default}
use Rattle.rewire_command.proofs.order.ordered_steps.Goals as goal

pub loop-name-preserved : goal.loop-name-preserved
loop-name-preserved c = λ find h.
    let items = λ (v : Vec Step Global). v.items in
    let at = sym (h c.bytes.result ∙ ap find c.bytes.ensures.value) in
    elim c.match-get.branch [
      | in-Some+in_ok-push w ↦
          ap items w.ordered-is ∙ takes find c.args.names.now c.loop-name.name-index c.name-item.result w.in-Some.step.now c.loop-name.ordered.items _ c.loop-name-test.true c.name-item.is (at ∙ sym w.in-Some.ensures.value) (search rules)
          (c.loop-name.invariant find h)
      | in_default w ↦
          ap items w.ordered-is ∙ leaves find c.args.names.now c.loop-name.name-index c.name-item.result c.loop-name.ordered.items c.loop-name-test.true c.name-item.is (at ∙ sym w.in_default.ensures.value) (c.loop-name.invariant find h)
    ]
