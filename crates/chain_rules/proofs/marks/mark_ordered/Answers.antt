use Rattle.std.proofs.Common.{◌+◌, ◌-◌, ℕ, ap, ◌∙◌, set, sym}
use Rattle.std.proofs.lemmas.List.Elements.{All-get_or}
use Rattle.chain_rules.specs.Stretches.{path_at, StandsIn, no_element}
use Rattle.chain_rules.specs.Runs.{stretch}
use Rattle.chain_rules.proofs.Marking.{marks_group, marks_more_ordered, names_one}
use Rattle.chain_rules.proofs.marks.mark_ordered.Goals as goal

pub loop-element-init : goal.loop-element-init
loop-element-init c = λ before e are. marks_group (path_at c.args.index.now c.args.run.path) (stretch c.args.run) before c.args.marks.now are

pub loop-element-preserved : goal.loop-element-preserved
loop-element-preserved c = λ before e are.
    let one = names_one c.args.index.now c.requires.once (stretch c.args.run) c.requires.path c.requires.within in
    let stands = All-get_or (StandsIn (path_at c.args.index.now c.args.run.path) (stretch c.args.run)) c.args.elements.now c.loop-element.element-index no_element c.loop-element-test.true c.requires.stand in
    marks_more_ordered (path_at c.args.index.now c.args.run.path) (stretch c.args.run) one before c.args.elements.now c.loop-element.element-index no_element c.loop-element.marks c.mark.new.marks c.loop-element-test.true stands
    (λ k inside names. c.mark.ensures.value k inside names ∙ ap (λ (n : ℕ). set c.loop-element.marks (k - c.args.run.from) (n + 1)) (sym e))
    (c.loop-element.invariant before e are)
