use Rattle.std.proofs.Common.{◌∙◌, ℕ, List, [], ◌∷◌, ◌++◌, ap, sym, subst}
use Rattle.chain_rules.specs.declared.cuts.Cut.{Cut}
use Rattle.chain_rules.specs.Runs.{stretch, AreCuts}
use Rattle.chain_rules.proofs.Cutting.{SoFar, so_far_first, so_far_more, cuts_from_so_far}
use Rattle.chain_rules.proofs.cuts.cuts_of.Goals as goal

pub cuts-init : goal.cuts-init
cuts-init c =
    let one = c.in_ok-push.ensures.items ∙ ap (λ (cs : List Cut). cs ++ record { first = c.in-Some.first; last = c.end_of_unit-last.result } ∷ []) c.new-cuts.ensures.items in
    subst (λ (cs : List Cut). SoFar (stretch c.args.listing.now.run) c.args.listing.now.marks.items cs c.in-Some.first c.end_of_unit-last.result) (sym one)
    (so_far_first (stretch c.args.listing.now.run) c.args.listing.now.marks.items c.requires.together c.in-Some.first c.end_of_unit-last.result c.in-Some.ensures.found.0 c.in-Some.ensures.found.1 c.in-Some.ensures.found.2 c.end_of_unit-last.ensures.inside c.end_of_unit-last.ensures.order c.end_of_unit-last.ensures.within c.end_of_unit-last.ensures.next)

pub cuts-preserved : goal.cuts-preserved
cuts-preserved c =
    subst (λ (cs : List Cut). SoFar (stretch c.args.listing.now.run) c.args.listing.now.marks.items cs c.in-Some.first c.end_of_unit-last-in-Some-next_start.result) (sym c.in_ok-push-2.ensures.items)
    (so_far_more (stretch c.args.listing.now.run) c.args.listing.now.marks.items c.requires.together c.cuts.cuts.items c.in-Some.first c.cuts.last c.in-Some-next_start.start c.end_of_unit-last-in-Some-next_start.result c.cuts.invariant
    c.in-Some-next_start.ensures.found.0 c.in-Some-next_start.ensures.found.1 c.in-Some-next_start.ensures.found.2 c.end_of_unit-last-in-Some-next_start.ensures.inside c.end_of_unit-last-in-Some-next_start.ensures.order c.end_of_unit-last-in-Some-next_start.ensures.within c.end_of_unit-last-in-Some-next_start.ensures.next)

pub returns : goal.returns
returns c =
    record {
      value = (
        c.in-Some.first,
        subst (λ (n : ℕ). AreCuts (stretch c.args.listing.now.run) c.args.listing.now.marks.items c.cuts.cuts.items c.in-Some.first n) (sym c.cuts.invariant.ends)
            (cuts_from_so_far (stretch c.args.listing.now.run) c.args.listing.now.marks.items c.cuts.cuts.items c.in-Some.first c.cuts.last c.in-Some.ensures.found.0 c.in-Some.ensures.found.1 c.in-Some.ensures.found.2 c.cuts.invariant c.in_default-next_start.ensures.none),
      );
    }
