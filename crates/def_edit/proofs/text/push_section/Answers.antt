use Rattle.std.proofs.Common.{List, ◌++◌, ap, ◌∙◌}
use Rattle.std.specs.List.{flat_map}
use Rattle.splice.specs.declared.Edit.{Edit}
use Rattle.def_edit.specs.Lookups.{rows_of}
use Rattle.def_edit.specs.Pushed.{pin_moved}
use Rattle.def_edit.proofs.Sections.{pins_are}
use Rattle.def_edit.proofs.text.push_section.Goals as goal

pub returns-in_ok-push_pins-in-Pins-clause-value :
    goal.returns-in_ok-push_pins-in-Pins-clause-value
returns-in_ok-push_pins-in-Pins-clause-value c =
    let by = c.args.by.now in
    let rows = rows_of by.bytes.now by.nets.items in
    rw c.in-Pins.is
    (c.in_ok-push_pins-in-Pins.ensures.value ∙ ap (λ l. c.args.out.now.items ++ flat_map (pin_moved by.bytes.now rows by.design.now.nets by.moves.now) l) c.as_slice.ensures.value
    ∙ ap (λ (l : List Edit). c.args.out.now.items ++ l) (pins_are by.bytes.now c.args.text.now by.design.now.nets by.moves.now rows c.requires.rows))
