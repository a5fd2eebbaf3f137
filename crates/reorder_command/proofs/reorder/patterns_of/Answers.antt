use Rattle.std.proofs.Common.{◌≡◌, List, Some, option_map, ap, subst, sym, ◌∙◌}
use Rattle.chain_trace.specs.declared.path.Path.{Path}
use Rattle.reorder_command.specs.PatternPlans.{AreMovable}
use Rattle.reorder_command.proofs.Movable.{movable}
use Rattle.reorder_command.proofs.reorder.patterns_of.Goals as goal

pub plan_patterns-requires-clause-movable : goal.plan_patterns-requires-clause-movable
plan_patterns-requires-clause-movable c =
    let f = c.args.files.now in
    let (t, head_is, checked) = c.requires.checked in
    let (plan, are) = c.requires.new in
    let text_is : t.head ≡ Some c.in-Some.text.now = head_is ∙ ap (option_map (λ text. text.now)) c.in-Some.is in
    let read_is : f.head ≡ Some c.in-Some-take.read = sym c.take.ensures.value ∙ c.in-Some-take.is in (
      Some f.design,
      subst (λ (paths : List Path). AreMovable f.netlist f.table (Some f.design) paths c.args.new.now c.in-Some.text.now c.in-Some-take.read) (sym c.as_slice.ensures.value)
          (movable t f checked plan c.args.new.now are c.in-Some.text.now c.in-Some-take.read text_is read_is),
    )
