use Rattle.std.proofs.Common.{◌≡◌, ℕ, ◌+◌, List, get_or, sym, ◌∙◌}
use Rattle.std.proofs.lemmas.Bool.{ltb-true, ltb-false}
use Rattle.wire_cost.specs.Lengths.{ChainEnds, chain_ends, link_of}
use Rattle.wire_cost.specs.Rows.{before_at, next_at}
use Rattle.wire_cost.proofs.Walks.{entry_at, exit_at}
use Rattle.order_search.proofs.Lanes.{IsTested, turned_shorter, turned_no_shorter}
use Rattle.order_search.proofs.gains.is_shorter_turned.Goals as goal

pub returns-clause-yes : goal.returns-clause-yes
returns-clause-yes c =
    let w : ChainEnds = chain_ends c.args.ends.now c.args.chain in
    let us : List ℕ = c.args.units.now in
    let i : ℕ = c.args.i in
    let j : ℕ = c.args.j in
    let one : c.wire.result ≡ link_of (before_at w us i) (entry_at w (get_or us i 0)) = c.wire.ensures.value ∙ (λ n. link_of (c.point_before-before.ensures.value n) (sym c.entry_of.ensures.value n)) in
    let two : c.wire-2.result ≡ link_of (before_at w us i) (entry_at w (get_or us j 0)) = c.wire-2.ensures.value ∙ (λ n. link_of (c.point_before-before.ensures.value n) (sym c.entry_of-2.ensures.value n)) in
    let three : c.wire-3.result ≡ link_of (exit_at w (get_or us i 0)) (next_at w us (j + 1)) = c.wire-3.ensures.value ∙ (λ n. link_of (sym c.exit_of.ensures.value n) (c.point_after-after.ensures.value n)) in
    let t : IsTested w us i j (c.wire.result + c.forward_of.result + c.backward_of.result) (c.wire-2.result + c.wire-3.result + c.backward_of-2.result + c.forward_of-2.result)
    = record { before = (λ n. one n + c.forward_of.ensures.value n + c.backward_of.ensures.value n); after = (λ n. two n + three n + c.backward_of-2.ensures.value n + c.forward_of-2.ensures.value n) }
    in
    λ h. turned_shorter w us i j _ _ c.requires.order c.requires.within t (ltb-true _ _ h)

pub returns-clause-no : goal.returns-clause-no
returns-clause-no c =
    let w : ChainEnds = chain_ends c.args.ends.now c.args.chain in
    let us : List ℕ = c.args.units.now in
    let i : ℕ = c.args.i in
    let j : ℕ = c.args.j in
    let one : c.wire.result ≡ link_of (before_at w us i) (entry_at w (get_or us i 0)) = c.wire.ensures.value ∙ (λ n. link_of (c.point_before-before.ensures.value n) (sym c.entry_of.ensures.value n)) in
    let two : c.wire-2.result ≡ link_of (before_at w us i) (entry_at w (get_or us j 0)) = c.wire-2.ensures.value ∙ (λ n. link_of (c.point_before-before.ensures.value n) (sym c.entry_of-2.ensures.value n)) in
    let three : c.wire-3.result ≡ link_of (exit_at w (get_or us i 0)) (next_at w us (j + 1)) = c.wire-3.ensures.value ∙ (λ n. link_of (sym c.exit_of.ensures.value n) (c.point_after-after.ensures.value n)) in
    let t : IsTested w us i j (c.wire.result + c.forward_of.result + c.backward_of.result) (c.wire-2.result + c.wire-3.result + c.backward_of-2.result + c.forward_of-2.result)
    = record { before = (λ n. one n + c.forward_of.ensures.value n + c.backward_of.ensures.value n); after = (λ n. two n + three n + c.backward_of-2.ensures.value n + c.forward_of-2.ensures.value n) }
    in
    λ h. turned_no_shorter w us i j _ _ c.requires.order c.requires.within t (ltb-false _ _ h)
