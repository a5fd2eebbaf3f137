use Rattle.std.proofs.Common.{Some, None, subst}
use Rattle.list_laws.specs.Leasts.{IsLeast}
use Rattle.design_places.specs.Lines.{ForOne, Traced, PathLacks}
use Rattle.design_places.proofs.NetFaults.{net_first, net_none}
use Rattle.design_places.proofs.nets.check_nets.Goals as goal

pub returns-in-Some-clause-fault : goal.returns-in-Some-clause-fault
returns-in-Some-clause-fault c =
    let least = subst (λ (t : Traced). IsLeast (ForOne (PathLacks t) c.args.paths.now) (Some c.in-Some.line)) c.in_ok-traced.ensures.value c.in-Some.ensures.value in
    rw c.in_verilog.ensures.value (net_first (record { netlist = c.args.netlist.now; cells = c.args.table.now; design = c.args.design.now }) c.args.paths.now c.in-Some.line least)

pub returns-clause-no_fault : goal.returns-clause-no_fault
returns-clause-no_fault c =
    let least = subst (λ (t : Traced). IsLeast (ForOne (PathLacks t) c.args.paths.now) None) c.in_ok-traced.ensures.value c.in-None.ensures.value in
    net_none (record { netlist = c.args.netlist.now; cells = c.args.table.now; design = c.args.design.now }) c.args.paths.now least
