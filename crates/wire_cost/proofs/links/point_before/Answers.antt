use Rattle.std.proofs.Common.{sym, ◌∙◌, arith}
use Rattle.wire_cost.specs.Lengths.{chain_ends}
use Rattle.wire_cost.proofs.Walks.{end_of-take}
use Rattle.wire_cost.proofs.links.point_before.Goals as goal

pub returns-else-i-eq0-clause-value : goal.returns-else-i-eq0-clause-value
returns-else-i-eq0-clause-value c =
    let w = chain_ends c.args.ends.now c.args.chain in
    sym c.exit_of.ensures.value ∙ sym (end_of-take w.exit w.start c.args.units.now c.args.i (omega arith) c.requires.within)
