use Rattle.std.proofs.Common.{◌==◌, ◌∙◌, Option, Some, None, cond, get_or, sym, ap₂}
use Rattle.std.specs.Option.{option_or}
use Rattle.netlist_core.specs.declared.netlist.NetId.{NetId}
use Rattle.net_edit.specs.declared.edits.PortEdit.{PortEdit}
use Rattle.net_edit.specs.declared.edits.Wire.TheVariants.{Net}
use Rattle.net_edit.specs.Wires.{net_of_wire}
use Rattle.net_edit.proofs.PutSteps.{found_more}
use Rattle.net_edit.proofs.puts.rights_of.Goals as goal

pub loop-edit-preserved : goal.loop-edit-preserved
loop-edit-preserved c = λ q.
    let n = c.args.netlist.now in
    let ports = c.args.ports.now in
    let i = c.loop-edit.edit-index in
    let d : PortEdit = record { port = record { 0 = 0 }; assign = 0; source = Net (record { 0 = 0 }) } in
    let edit = get_or ports i d in
    c.in_ok-add_right.ensures.value q
    ∙ ap₂ (λ (o : Option NetId) (net : NetId). option_or o (cond (edit.assign == q) (Some net) None)) (c.loop-edit.invariant q) c.in_ok-net.ensures.value
    ∙ sym (found_more (λ (e : PortEdit). net_of_wire n e.source) (λ (e : PortEdit). e.assign == q) ports i d c.loop-edit-test.true)
