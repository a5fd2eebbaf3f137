use Rattle.std.proofs.Common.{◌<◌, length, arith}
use Rattle.netlist_core.proofs.Roots.{parents_joined, written}
use Rattle.netlist_core.proofs.classes.link.Goals as goal

pub returns-clause-joined : goal.returns-clause-joined
returns-clause-joined c root least kept =
    let kept_x = c.root_of-x.ensures.kept root kept in
    let kept_y = c.root_of-y.ensures.kept root kept_x in
    let within : c.max-high.result < length c.root_of-y.new.parents.items = omega (arith, c.max-high.ensures) in
    parents_joined root c.args.a c.args.b c.root_of-x.result c.root_of-y.result c.min-low.result c.max-high.result c.root_of-y.new.parents.items _
    (c.root_of-x.ensures.root root kept) (c.root_of-y.ensures.root root kept_x) c.min-low.ensures c.max-high.ensures
    (least.own c.args.a c.requires.a_within) (least.own c.args.b c.requires.b_within)
    (written c.root_of-y.new.parents.items c.max-high.result c.min-low.result within) kept_y
