use Rattle.std.proofs.Common.{◌≡◌, ◌*◌, ◌+◌, ◌++◌, ◌∙◌, ap, ap₂, string_bytes}
use Rattle.design_maker.specs.Numbers.{coordinate, place_x, place_y, number_at}
use Rattle.design_maker.specs.MadeDef.{component, component_at}
use Rattle.design_maker.proofs.PieceLaws.{no_pieces, one_more}
use Rattle.design_maker.proofs.NumberLaws.{number_first, first_of_unit, second_of_unit, next_unit}
use Rattle.design_maker.proofs.def.push_placed.Goals as goal

pub loop-unit-init : goal.loop-unit-init
loop-unit-init c = record { placed = no_pieces component _; counted = number_first }

pub loop-unit-preserved : goal.loop-unit-preserved
loop-unit-preserved c =
    let i = c.loop-unit.unit-counter in
    let east : c.next_number-east.result ≡ number_at (2 * i + 1) = c.next_number-east.ensures.value ∙ first_of_unit i _ c.loop-unit.invariant.counted in
    let north : c.next_number-north.result ≡ number_at (2 * i + 2) = c.next_number-north.ensures.value ∙ second_of_unit i _ east in
    let x : c.coordinate-x.result ≡ place_x i = c.coordinate-x.ensures.value ∙ ap coordinate east in
    let y : c.coordinate-y.result ≡ place_y i = c.coordinate-y.ensures.value ∙ ap coordinate north in
    record {
      placed = one_more component _ _ _ i c.loop-unit.invariant.placed (c.in_ok-write.ensures.bytes ∙ ap₂ (λ x y. string_bytes c.loop-unit.out ++ component_at i x y) x y);
      counted = next_unit i _ north;
    }
