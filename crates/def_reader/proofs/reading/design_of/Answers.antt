use Rattle.std.proofs.Common.{List, sym, subst}
use Rattle.def_reader.specs.declared.design.Component.{Component}
use Rattle.def_reader.specs.declared.design.DesignPin.{DesignPin}
use Rattle.def_reader.specs.Faults.{StandsAgain, component_rows, pin_rows}
use Rattle.list_laws.specs.Leasts.{IsLeast}
use Rattle.list_laws.proofs.LeastLines.{either}
use Rattle.def_reader.proofs.reading.design_of.Goals as goal

pub returns-clause-least : goal.returns-clause-least
returns-clause-least c =
    let components = subst (λ (l : List Component). IsLeast (StandsAgain (component_rows l)) c.in_ok-components.component) (sym c.in_ok-components.ensures.value) c.in_ok-components.ensures.least in
    let pins = subst (λ (l : List DesignPin). IsLeast (StandsAgain (pin_rows l)) c.in_ok-pins.pin) (sym c.in_ok-pins.ensures.value) c.in_ok-pins.ensures.least in
    rw c.lesser.ensures.value
    (either (StandsAgain (component_rows c.in_ok-components.components)) (StandsAgain (pin_rows c.in_ok-pins.pins)) c.in_ok-components.component c.in_ok-pins.pin components pins)
