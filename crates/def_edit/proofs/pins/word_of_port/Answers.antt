use Rattle.std.proofs.Common.{◌∙◌, List, ap}
use Rattle.std.specs.Prelude.{option_map, slice_get}
use Rattle.def_edit.specs.Alike.Changes.{NetWords}
use Rattle.def_edit.specs.declared.nets.NetRow.{NetRow}
use Rattle.def_edit.specs.Lookups.{rows_of}
use Rattle.def_edit.proofs.Steps.{word_some, word_none}
use Rattle.def_edit.proofs.pins.word_of_port.Goals as goal

pub returns-in-Some : goal.returns-in-Some
returns-in-Some c =
    let by = c.args.by.now in
    record {
      value = c.name_at.ensures.value by.bytes.now ∙ ap (λ (l : List NetRow). option_map (λ (row : NetWords). row.name) (slice_get (rows_of by.bytes.now l) c.in-Some.net.now)) c.deref.ensures.value
          ∙ word_some (rows_of by.bytes.now by.nets.items) by.design.now.nets by.moves.now c.args.name.now c.in-Some.net.now (c.in-Some.ensures.value ∙ c.requires.ports c.args.name);
    }

pub returns-in-None : goal.returns-in-None
returns-in-None c =
    let by = c.args.by.now in
    record { value = word_none (rows_of by.bytes.now by.nets.items) by.design.now.nets by.moves.now c.args.name.now (c.in-None.ensures.value ∙ c.requires.ports c.args.name) }
