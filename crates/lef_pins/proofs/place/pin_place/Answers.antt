use Rattle.std.proofs.Common.{◌≡◌, ◌∙◌, sym, ap, subst, arith, List, ◌+◌, ◌*◌, ◌^◌, ◌≤◌, ℤ}
use Rattle.std.specs.Prelude.{unsigned_abs}
use Rattle.std.proofs.lemmas.Int.{ints}
use Rattle.lef_pins.specs.declared.macros.MacroPin.{MacroPin}
use Rattle.lef_pins.specs.Places.{rect_of, turn, IsMeasuredOrNone, IsShortPoint}
use Rattle.def_tokens.specs.declared.orient.Orient.{Orient}
use Rattle.base_types.specs.declared.span.Point.{Point}
use Rattle.lef_pins.proofs.Turns.{IsInside, rect-measured, turn-inside}
use Rattle.lef_pins.proofs.place.pin_place.Goals as goal

pub point_of-point-requires-clause-rect : goal.point_of-point-requires-clause-rect
point_of-point-requires-clause-rect c =
    subst IsMeasuredOrNone (sym (c.rect_of.ensures.value ∙ ap (λ (ps : List MacroPin). rect_of ps c.args.pin.now) c.as_slice.ensures.value))
    (rect-measured c.args.m.now.pins c.args.pin.now c.requires.measured.pins)

-- a turned point, whatever the bits of the sizes
turned : (o : Orient) (w h w' h' : ℤ) (p r : Point) → w' ≡ w → h' ≡ h → r ≡ turn o w' h' p → unsigned_abs w ≤ 4 * 10 ^ 11 → unsigned_abs h ≤ 4 * 10 ^ 11 → IsShortPoint p → IsInside r (4 * 10 ^ 11 + 2 ^ 40)
turned o w h w' h' p r same_w same_h is short_w short_h short =
    rw (is, same_w, same_h) (turn-inside o w h p (4 * 10 ^ 11) (2 ^ 40) short_w short_h short.x short.y)

pub moved-requires-clause-x : goal.moved-requires-clause-x
moved-requires-clause-x c =
    let short = c.middle-w.ensures.within in
    let short' = c.middle-h.ensures.within in
    let inside = turned c.args.orient c.middle-w.result c.middle-h.result _ _ c.point_of-point.result c.turn-turned.result (omega (arith, ints)) (omega (arith, ints)) c.turn-turned.ensures.value short short' c.point_of-point.ensures.short in
    let x = inside.x in
    omega (arith, ints)

pub moved-requires-2-clause-x : goal.moved-requires-2-clause-x
moved-requires-2-clause-x c =
    let short = c.middle-w.ensures.within in
    let short' = c.middle-h.ensures.within in
    let inside = turned c.args.orient c.middle-w.result c.middle-h.result _ _ c.point_of-point.result c.turn-turned.result (omega (arith, ints)) (omega (arith, ints)) c.turn-turned.ensures.value short short' c.point_of-point.ensures.short in
    let y = inside.y in
    omega (arith, ints)
