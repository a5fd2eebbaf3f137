use Rattle.std.proofs.Common.{◌≡◌, List, rules, sym, subst, arith, w64, FitsSigned}
use Rattle.std.proofs.lemmas.Int.{ints}
use Rattle.wire_cost.specs.Lengths.{chain_ends}
use Rattle.length_bound.specs.declared.growth.Place.{Place}
use Rattle.length_bound.specs.Growth.{ArePlaces}
use Rattle.length_bound.proofs.Growths.{value_below}
use Rattle.length_bound.proofs.trees.tree_of.Goals as goal

pub returns : goal.returns
returns c =
    let w = chain_ends c.args.ends.now c.args.chain in
    let us = c.args.units.now in
    let ws = c.args.weights.now in
    let value = c.tree_value-value.result in
    let g : FitsSigned w64 value = search rules in
    let row_is : c.deref_mut.result.now ≡ c.in_ok-row.row.items = cc in
    let places = subst (λ (r : List Place). ArePlaces w us ws r) (sym row_is) c.in_ok-row.ensures.places in
    let below = value_below w us ws c.deref_mut.result.now c.grow.new.row c.grow.new.near value c.requires.some places c.grow.ensures.same c.requires.count c.grow.ensures.grown c.tree_value-value.ensures.value in
    record { below = λ vs same. let b = below vs same in omega (arith, ints) }
