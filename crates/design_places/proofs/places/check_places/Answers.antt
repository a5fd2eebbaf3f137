use Rattle.std.proofs.Common.{List, Some, None, subst}
use Rattle.lef_pins.specs.Macros.{NamedMacros}
use Rattle.def_reader.specs.declared.design.Component.{Component}
use Rattle.list_laws.specs.Leasts.{IsLeast}
use Rattle.design_places.specs.Lines.{ForOne, GoesNowhere}
use Rattle.design_places.proofs.PlaceFaults.{place_first, place_none}
use Rattle.design_places.proofs.places.check_places.Goals as goal

pub returns-in-Some-clause-fault : goal.returns-in-Some-clause-fault
returns-in-Some-clause-fault c =
    let least = subst (λ (p : NamedMacros × List Component). IsLeast (ForOne (GoesNowhere c.args.netlist.now p.0 p.1) c.args.paths.now) (Some c.in-Some.line)) c.of-components.ensures.value c.in-Some.ensures.value in
    rw c.in_verilog.ensures.value (place_first c.args.netlist.now c.args.macros.now c.args.design.now c.args.paths.now c.in-Some.line least)

pub returns-in-None-clause-no_fault : goal.returns-in-None-clause-no_fault
returns-in-None-clause-no_fault c =
    let least = subst (λ (p : NamedMacros × List Component). IsLeast (ForOne (GoesNowhere c.args.netlist.now p.0 p.1) c.args.paths.now) None) c.of-components.ensures.value c.in-None.ensures.value in
    place_none c.args.netlist.now c.args.macros.now c.args.design.now c.args.paths.now least
