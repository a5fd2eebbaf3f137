use Rattle.std.proofs.Common.{List, Contains, ap, sym, subst, length, arith}
use Rattle.std.proofs.lemmas.List.Folds.{length-flat_map-take}
use Rattle.chain_rules.specs.declared.spec.ListSpec.{ListSpec}
use Rattle.chain_rules.specs.Stretches.{path_at, StandsIn, elements_in, groups_in, groups_of}
use Rattle.chain_rules.specs.Runs.{stretch}
use Rattle.chain_rules.proofs.Stretched.{All-each}
use Rattle.chain_rules.proofs.marks.marks_of.Goals as goal

pub mark_list-groups-requires-clause-stand : goal.mark_list-groups-requires-clause-stand
mark_list-groups-requires-clause-stand c =
    let m : Contains c.args.chain.now.lists c.list-item.result =
    subst (λ (ls : List ListSpec). Contains ls c.list-item.result) c.as_slice-list-items.ensures.value (c.loop-list.list-index, c.loop-list-test.true, sym c.list-item.is) in
    All-each (StandsIn (path_at c.args.index.now c.args.run.path) (stretch c.args.run)) elements_in c.args.chain.now.lists c.list-item.result m c.requires.stretch.elements

pub mark_list-groups-requires-clause-few : goal.mark_list-groups-requires-clause-few
mark_list-groups-requires-clause-few c =
    let more = length-flat_map-take groups_in c.as_slice-list-items.result.now c.loop-list.list-index c.list-item.result c.loop-list-test.true in
    let here = ap (λ (list : ListSpec). length (groups_in list)) c.list-item.is in
    let all = ap (λ (ls : List ListSpec). length (groups_of (record c.args.chain.now { lists = ls }))) c.as_slice-list-items.ensures.value in
    let few = c.requires.few in
    let so_far = c.loop-list.invariant.0 in
    omega arith
