use Rattle.std.proofs.Common.{List, length, subst}
use Rattle.netlist_core.specs.declared.netlist.Port.{Port}
use Rattle.netlist_core.specs.declared.netlist.NetName.{NetName}
use Rattle.netlist_core.specs.Netlists.{plain_of}
use Rattle.netlist_core.specs.Places.{AreNoted}
use Rattle.netlist_core.proofs.ports.Ports.of.Goals as goal

pub invariant_of-result : goal.invariant_of-result
invariant_of-result c =
    let named = subst (λ (ns : List NetName). AreNoted (λ (p : Port). plain_of ns p.net) c.in_ok-ports_by_name.field-0 c.as_slice-2.result.now (length c.as_slice-2.result.now)) c.as_slice.ensures.value c.in_ok-ports_by_name.ensures.value in
    let ports = subst (λ (l : List Port). AreNoted (λ (p : Port). plain_of c.args.netlist.now.nets p.net) c.in_ok-ports_by_name.field-0 l (length l)) c.as_slice-2.ensures.value named in
    (c.requires.netlist, ports)
