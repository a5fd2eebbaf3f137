use Rattle.std.proofs.Common.{◌≡◌, List, Some, sym, ap, ◌∙◌, subst, arith, to_z, of_z, w64}
use Rattle.std.specs.Prelude.{ℤ, option_and_then}
use Rattle.std.specs.List.{find}
use Rattle.std.proofs.lemmas.Int.{ints}
use Rattle.std.specs.Str.{bytes_eq}
use Rattle.base_types.specs.declared.span.Point.{Point}
use Rattle.lef_pins.specs.Places.{pin_place}
use Rattle.def_reader.specs.declared.design.Component.{Component}
use Rattle.design_places.specs.Ends.{placed_of}
use Rattle.design_places.specs.Layouts.{IsFit, pin_point}
use Rattle.design_places.proofs.Fits.{placed_fits}
use Rattle.design_places.proofs.layout.Layout.pin_of.Goals as goal

pub point-requires-clause-measured : goal.point-requires-clause-measured
point-requires-clause-measured c =
    let named = c.in-Some.ensures.value ∙ ap (λ (l : List Component). option_and_then (placed_of c.self.inside.components.0) (find (λ (x : Component). bytes_eq x.name c.args.name.now) l)) c.self.invariant in
    let fit = subst IsFit (sym c.self.view_is) c.requires.fit in
    (placed_fits c.self.inside.components.0 c.self.inside.design.now fit.design fit.macros c.args.name.now c.in-Some.standing (sym named)).shape

pub point-requires-clause-placed : goal.point-requires-clause-placed
point-requires-clause-placed c =
    let named = c.in-Some.ensures.value ∙ ap (λ (l : List Component). option_and_then (placed_of c.self.inside.components.0) (find (λ (x : Component). bytes_eq x.name c.args.name.now) l)) c.self.invariant in
    let fit = subst IsFit (sym c.self.view_is) c.requires.fit in
    (placed_fits c.self.inside.components.0 c.self.inside.design.now fit.design fit.macros c.args.name.now c.in-Some.standing (sym named)).at

pub returns-in-Some-clause-value : goal.returns-in-Some-clause-value
returns-in-Some-clause-value c =
    let named = c.in-Some.ensures.value ∙ ap (λ (l : List Component). option_and_then (placed_of c.self.inside.components.0) (find (λ (x : Component). bytes_eq x.name c.args.name.now) l)) c.self.invariant in
    let stands : ℤ → Point = λ units. pin_place c.in-Some.standing.shape c.args.pin.now c.in-Some.standing.at c.in-Some.standing.orient units in
    let fit = subst IsFit (sym c.self.view_is) c.requires.fit in
    let some = fit.design.units_some in
    let most = fit.design.units_most in
    let units : to_z w64 (of_z w64 c.self.inside.design.now.units) ≡ c.self.inside.design.now.units = omega (arith, ints) in
    rw (← c.self.view_is) (ap (λ (p : Point). Some p) (c.point.ensures.value ∙ ap stands units) ∙ ap (pin_point c.self.inside.design.now c.args.pin.now) named)
