use Rattle.std.proofs.Common.{refl, arith}
use Rattle.std.proofs.lemmas.List.Sorted.{IsPermutation-refl, IsPermutation-trans}
use Rattle.std.proofs.lemmas.Result.{on_ok_weaker}
use Rattle.chain_rules.specs.Legality.{chain_at}
use Rattle.reorder_command.proofs.Searchable.{are_searchable}
use Rattle.reorder_command.proofs.balanced.order_within.Goals as goal

pub longest-requires-clause-small : goal.longest-requires-clause-small
longest-requires-clause-small g c = c.requires.small c.args.plan.now c.requires.legal

pub longest-requires-2-clause-legal : goal.longest-requires-2-clause-legal
longest-requires-2-clause-legal g c = c.requires.checked.1.legal

pub longest-requires-2-clause-small : goal.longest-requires-2-clause-small
longest-requires-2-clause-small g c = c.requires.small c.args.files.now.rules.read c.requires.checked.1.legal

pub returns-then-longest-clause-members : goal.returns-then-longest-clause-members
returns-then-longest-clause-members g c = λ k lt. IsPermutation-refl (chain_at c.args.plan.now k)

pub shorten-requires-clause-searchable : goal.shorten-requires-clause-searchable
shorten-requires-clause-searchable g c = are_searchable c.requires.checked.0 c.args.files.now c.requires.checked.1

pub settle_order-requires-clause-searchable : goal.settle_order-requires-clause-searchable
settle_order-requires-clause-searchable g c = are_searchable c.requires.checked.0 c.args.files.now c.requires.checked.1

pub returns-clause-members : goal.returns-clause-members
returns-clause-members g c =
    let p = c.args.plan.now in
    let q = c.shorten.new.plan in
    let r = c.settle_order.new.plan in
    let legal = c.requires.legal in
    let after = c.in_ok-shorten.ensures.legal in
    on_ok_weaker c.settle_order.result
    (λ settled k lt.
    let one = legal.chains in let two = after.chains in
    IsPermutation-trans (chain_at p k) (chain_at q k) (chain_at r k) (c.in_ok-shorten.ensures.members refl k lt) (settled k (omega (arith, one, two, lt))))
    c.settle_order.ensures.members
