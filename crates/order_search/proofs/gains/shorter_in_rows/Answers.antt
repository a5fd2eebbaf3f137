use Rattle.std.proofs.Common.{◌≡◌, ℕ, ℤ, ◌+◌, List, refl, ◌∙◌, arith}
use Rattle.wire_cost.specs.Lengths.{ChainEnds, chain_ends}
use Rattle.wire_cost.proofs.Places.{kept}
use Rattle.order_search.specs.Aims.{turned_sum}
use Rattle.order_search.specs.Runs.{IsSettledBetween}
use Rattle.order_search.specs.declared.blocks.Aim.{Aim}
use Rattle.order_search.proofs.Lanes.{IsAim, in_any_case, lane_gain, lane_least, over}
use Rattle.order_search.proofs.gains.shorter_in_rows.Goals as goal

pub returns-clause-found : goal.returns-clause-found
returns-clause-found c =
    let w : ChainEnds = chain_ends c.args.ends.now c.args.chain in
    let us : List ℕ = c.args.units.now in
    let i : ℕ = c.args.i in
    let j : ℕ = c.in_ok-place.place in
    let limit : ℤ = over c.turn_limit.result in
    let same : limit ≡ c.turn_limit.result = kept c.turn_limit.result (omega (arith, c.turn_limit.ensures.small)) in
    let aim : Aim = record { before = c.args.before; exit = c.exit_of.result; limit = limit } in
    let a : IsAim w us i c.args.before c.exit_of.result limit = record { before = c.requires.before; exit = c.exit_of.ensures.value; limit_is = same ∙ c.turn_limit.ensures.value } in
    (omega (arith, c.in_ok-place.ensures.within), lane_gain w us i j c.args.before c.exit_of.result limit (turned_sum w us aim j) a (omega (arith, c.in_ok-place.ensures.within)) (omega (arith, c.in_ok-place.ensures.within)) refl c.in_ok-place.ensures.found)

pub returns-in_err-place-clause-none : goal.returns-in_err-place-clause-none
returns-in_err-place-clause-none c =
    let w : ChainEnds = chain_ends c.args.ends.now c.args.chain in
    let us : List ℕ = c.args.units.now in
    let i : ℕ = c.args.i in
    let limit : ℤ = over c.turn_limit.result in
    let same : limit ≡ c.turn_limit.result = kept c.turn_limit.result (omega (arith, c.turn_limit.ensures.small)) in
    let aim : Aim = record { before = c.args.before; exit = c.exit_of.result; limit = limit } in
    let a : IsAim w us i c.args.before c.exit_of.result limit = record { before = c.requires.before; exit = c.exit_of.ensures.value; limit_is = same ∙ c.turn_limit.ensures.value } in
    in_any_case c.from_residual.result (IsSettledBetween c.args.ends.now c.args.chain us i (i + 1) c.args.until)
    (λ j b l. lane_least w us i j c.args.before c.exit_of.result limit (turned_sum w us aim j) a (omega arith) (omega arith) refl (c.in_err-place.ensures.none j b l))
