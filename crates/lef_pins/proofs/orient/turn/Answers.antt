use Rattle.std.proofs.Common.{◌≡◌, refl, arith, ◌-ℤ◌, to_z, of_z, w64}
use Rattle.std.proofs.lemmas.Int.{ints}
use Rattle.lef_pins.proofs.orient.turn.Goals as goal

pub returns-in-S-clause-value : goal.returns-in-S-clause-value
returns-in-S-clause-value c =
    let x : to_z w64 (of_z w64 (to_z w64 (of_z w64 c.args.w) -ℤ to_z w64 (of_z w64 c.args.p.x))) ≡ c.args.w -ℤ c.args.p.x = omega (arith, ints) in
    let y : to_z w64 (of_z w64 (to_z w64 (of_z w64 c.args.h) -ℤ to_z w64 (of_z w64 c.args.p.y))) ≡ c.args.h -ℤ c.args.p.y = omega (arith, ints) in
    rw (c.in-S.is, x, y) refl

pub returns-in-FE-clause-value : goal.returns-in-FE-clause-value
returns-in-FE-clause-value c =
    let x : to_z w64 (of_z w64 (to_z w64 (of_z w64 c.args.h) -ℤ to_z w64 (of_z w64 c.args.p.y))) ≡ c.args.h -ℤ c.args.p.y = omega (arith, ints) in
    let y : to_z w64 (of_z w64 (to_z w64 (of_z w64 c.args.w) -ℤ to_z w64 (of_z w64 c.args.p.x))) ≡ c.args.w -ℤ c.args.p.x = omega (arith, ints) in
    rw (c.in-FE.is, x, y) refl
