use Rattle.std.proofs.Common.{List, All, Contains, ap, sym, ◌∙◌, subst, get_or}
use Rattle.chain_rules.specs.declared.spec.ElementSpec.{ElementSpec}
use Rattle.chain_rules.specs.declared.spec.ListSpec.{ListSpec}
use Rattle.chain_rules.specs.Stretches.{path_at, StandsIn, elements_in}
use Rattle.chain_rules.specs.Runs.{stretch}
use Rattle.chain_rules.proofs.Stretched.{All-each}
use Rattle.chain_rules.proofs.faults.list_has_break.Goals as goal

pub has_break-requires-clause-stand : goal.has_break-requires-clause-stand
has_break-requires-clause-stand c =
    let m : Contains c.args.chain.now.lists c.index-as_slice-list.result =
    (c.args.list, c.requires.list, ap (λ (ls : List ListSpec). get_or ls c.args.list c.index-as_slice-list.result) (sym c.as_slice.ensures.value) ∙ sym c.index-as_slice-list.is) in
    subst (λ (es : List ElementSpec). All (StandsIn (path_at c.args.index.now c.args.listing.now.run.path) (stretch c.args.listing.now.run)) es) (ap elements_in c.in-Ordered.is ∙ sym c.as_slice-in-Ordered.ensures.value)
    (All-each (StandsIn (path_at c.args.index.now c.args.listing.now.run.path) (stretch c.args.listing.now.run)) elements_in c.args.chain.now.lists c.index-as_slice-list.result m c.requires.listing.is_stretch.elements)
