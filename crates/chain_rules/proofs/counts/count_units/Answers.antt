use Rattle.std.proofs.Common.{List, ap, length, arith}
use Rattle.std.proofs.lemmas.List.Folds.{length-flat_map-take}
use Rattle.chain_rules.specs.declared.spec.ListSpec.{ListSpec}
use Rattle.chain_rules.specs.Stretches.{groups_in, groups_of}
use Rattle.chain_rules.proofs.counts.count_units.Goals as goal

pub overflow_add-units : goal.overflow_add-units
overflow_add-units c =
    let more = length-flat_map-take groups_in c.as_slice-list-items.result.now c.loop-list.list-index c.list-item.result c.loop-list-test.true in
    let here = ap (λ (list : ListSpec). length (groups_in list)) c.list-item.is in
    let all = ap (λ (ls : List ListSpec). length (groups_of (record c.args.chain.now { lists = ls }))) c.as_slice-list-items.ensures.value in
    let small = c.requires.small in
    omega arith
