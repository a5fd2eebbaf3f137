use Rattle.std.proofs.Common.{◌∙◌, ◌<◌, length, ap, sym, subst}
use Rattle.netlist_core.specs.declared.netlist.Netlist.{Netlist}
use Rattle.chain_trace.specs.Paths.{has_port}
use Rattle.chain_trace.proofs.Ranges.{port_within}
use Rattle.path_links.specs.Direct.{is_output}
use Rattle.path_links.proofs.outputs.FreeOutputs.is_direct_from.Goals as goal

pub stands_once-requires : goal.stands_once-requires
stands_once-requires c =
    let port = c.args.port in
    let inv = c.self.invariant in
    let there = sym (ap (λ (m : Netlist). has_port is_output m port) inv.marked_is) ∙ sym c.if-has.ensures.value in
    record { within = subst (λ (m : Netlist). port.0 < length m.nets) (sym inv.counted_is) (port_within c.self.inside.netlist.now is_output port inv.sound there) }
