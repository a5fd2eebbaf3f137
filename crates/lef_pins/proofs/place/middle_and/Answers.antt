use Rattle.std.proofs.Common.{◌≡◌, ◌∙◌, refl, arith, to_z, of_z, w64, ◌+ℤ◌}
use Rattle.std.proofs.lemmas.Int.{ints}
use Rattle.lef_pins.specs.Places.{scaled, twice}
use Rattle.lef_pins.proofs.place.middle_and.Goals as goal

pub returns-clause-value : goal.returns-clause-value
returns-clause-value c =
    let near = c.middle.ensures.within in
    let near' = c.middle-2.ensures.within in
    let sum : to_z w64 (of_z w64 (to_z w64 (of_z w64 c.middle.result) +ℤ to_z w64 (of_z w64 c.middle-2.result))) ≡ c.middle.result +ℤ c.middle-2.result = omega (arith, ints) in
    let a : to_z w64 (of_z w64 c.args.a) ≡ c.args.a = omega (arith, ints) in
    let b : to_z w64 (of_z w64 c.args.b) ≡ c.args.b = omega (arith, ints) in
    let origin : to_z w64 (of_z w64 c.args.origin) ≡ c.args.origin = omega (arith, ints) in
    let units : to_z w64 (of_z w64 c.args.units) ≡ c.args.units = omega (arith, ints) in
    let first : c.middle.result ≡ scaled (c.args.a +ℤ c.args.b) c.args.units = simp (a, b, units) at c.middle.ensures.value in
    let second : c.middle-2.result ≡ twice c.args.origin c.args.units = simp (origin, units) at c.middle-2.ensures.value in
    sum ∙ rw (first, second) refl
