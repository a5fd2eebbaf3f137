use Rattle.std.proofs.Common.{◌≡◌, ◌+◌, ◌-◌, ℕ, ap, ◌∙◌, set, length, arith}
use Rattle.std.proofs.lemmas.List.Elements.{All-get_or}
use Rattle.chain_rules.specs.Stretches.{path_at, StandsIn, no_element}
use Rattle.chain_rules.specs.Runs.{stretch}
use Rattle.chain_rules.proofs.Marking.{marks_more_floating, names_one}
use Rattle.chain_rules.proofs.marks.mark_floating.Goals as goal

pub loop-element-preserved : goal.loop-element-preserved
loop-element-preserved c =
    let count = c.loop-element.invariant.0 in (
      omega arith,
      λ before e are.
          let one = names_one c.args.index.now c.requires.once (stretch c.args.run) c.requires.path c.requires.within in
          let stands = All-get_or (StandsIn (path_at c.args.index.now c.args.run.path) (stretch c.args.run)) c.args.elements.now c.loop-element.element-index no_element c.loop-element-test.true c.requires.stand in
          let mark : c.loop-element.group + 1 ≡ length before + c.loop-element.element-index + 1 = omega arith in
          marks_more_floating (path_at c.args.index.now c.args.run.path) (stretch c.args.run) one before c.args.elements.now c.loop-element.element-index no_element c.loop-element.marks c.mark.new.marks c.loop-element-test.true stands
          (λ k inside names. c.mark.ensures.value k inside names ∙ ap (λ (n : ℕ). set c.loop-element.marks (k - c.args.run.from) n) mark)
          (c.loop-element.invariant.1 before e are),
    )
