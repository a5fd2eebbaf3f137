use Rattle.std.proofs.Common.{sym, subst}
use Rattle.design_places.specs.Layouts.{IsFit}
use Rattle.design_places.proofs.Fits.{pin_fits}
use Rattle.design_places.proofs.layout.Layout.port.Goals as goal

pub doubled-requires : goal.doubled-requires
doubled-requires c =
    let fit = subst IsFit (sym c.self.view_is) c.requires.fit in
    record { sound = pin_fits c.self.inside.design.now c.plain_of.result.now c.in-Some.pin.now fit.design (sym c.in-Some.ensures.value) }
