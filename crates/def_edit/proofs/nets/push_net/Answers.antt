use Rattle.std.proofs.Common.{sym, ◌∙◌}
use Rattle.def_edit.specs.Lookups.{rows_of}
use Rattle.def_edit.proofs.NetTexts.{net_put}
use Rattle.def_edit.proofs.nets.push_net.Goals as goal

pub returns-clause-value : goal.returns-clause-value
returns-clause-value c =
    let by = c.args.by.now in
    let from = c.group_at-leaving.ensures.value ∙ c.requires.groups.from c.args.number in
    let to = c.group_at-coming.ensures.value ∙ c.requires.groups.to c.args.number in
    (net_put by.bytes.now c.args.span c.args.net.now by.components (rows_of by.bytes.now by.nets.items) by.moves.now c.group_at-leaving.result.now c.group_at-coming.result.now c.args.number c.args.out.now.items c.push.new.self.items
    c.in_ok-copy.field-0 c.part_of-statement.result.now c.as_slice-connections.result.now c.in_ok-layout.layout c.requires.own (sym c.if-not-touches.false ∙ c.touches.ensures.value by.moves.now c.args.number from to) from to
    c.part_of-statement.ensures.value c.as_slice-connections.ensures.value c.in_ok-layout.ensures.value (c.in_ok-copy.ensures.value ∙ c.bytes.ensures.value) c.in_ok-push.ensures.items).0
