use Rattle.std.proofs.Common.{◌≡◌, ◌==◌, Bool, cond, get_or, refl, ap, arith}
use Rattle.std.proofs.lemmas.Bool.{eq-eqb}
use Rattle.std.proofs.lemmas.List.Sums.{sum_by_more_le}
use Rattle.chain_rules.specs.declared.unit.Unit.{Unit as MovedUnit}
use Rattle.chain_rules.specs.Legality.{no_unit}
use Rattle.reorder_command.proofs.fixed.take_units.Goals as goal

pub overflow_sub-bits : goal.overflow_sub-bits
overflow_sub-bits c =
    let u : MovedUnit = get_or c.args.units.now c.loop-unit.unit-index no_unit in
    let more = sum_by_more_le (λ (v : MovedUnit). cond (v.path == u.path) v.bits 0) c.args.units.now c.loop-unit.unit-index no_unit (omega arith) in
    let here : cond (u.path == u.path) u.bits 0 ≡ u.bits = ap (λ (t : Bool). cond t u.bits 0) (eq-eqb u.path u.path refl) in
    let left = c.loop-unit.invariant.left u.path in
    let enough = c.requires.enough u.path in
    omega (arith, more, here, left, enough)
