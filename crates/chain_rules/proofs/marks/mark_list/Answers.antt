use Rattle.std.proofs.Common.{List, All, ap, sym, ◌∙◌, subst}
use Rattle.chain_rules.specs.declared.spec.ElementSpec.{ElementSpec}
use Rattle.chain_rules.specs.Stretches.{path_at, StandsIn, elements_in}
use Rattle.chain_rules.specs.Runs.{stretch}
use Rattle.chain_rules.proofs.marks.mark_list.Goals as goal

pub mark_floating-requires-clause-stand : goal.mark_floating-requires-clause-stand
mark_floating-requires-clause-stand c =
    subst (λ (es : List ElementSpec). All (StandsIn (path_at c.args.index.now c.args.run.path) (stretch c.args.run)) es) (ap elements_in c.in-Floating.is ∙ sym c.as_slice.ensures.value) c.requires.stand

pub mark_ordered-requires-clause-stand : goal.mark_ordered-requires-clause-stand
mark_ordered-requires-clause-stand c =
    subst (λ (es : List ElementSpec). All (StandsIn (path_at c.args.index.now c.args.run.path) (stretch c.args.run)) es) (ap elements_in c.in-Ordered.is ∙ sym c.as_slice-in-Ordered.ensures.value) c.requires.stand
