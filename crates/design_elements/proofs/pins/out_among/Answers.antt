use Rattle.std.proofs.Common.{ap, ◌∙◌}
use Rattle.std.specs.List.{position}
use Rattle.std.specs.Str.{bytes_eq}
use Rattle.cell_table.specs.declared.paths.OutPin.{OutPin}
use Rattle.design_elements.proofs.pins.out_among.Goals as goal

pub returns-in-Some-Some : goal.returns-in-Some-Some
returns-in-Some-Some c = record {
  value = rw (c.in-Some-Some.is-0, c.in-Some-Some.is-1)
      (c.place_of.ensures.value ∙ ap (position (λ (o : OutPin). bytes_eq o.pin c.in-Some-Some.output.now)) c.as_slice.ensures.value);
}
