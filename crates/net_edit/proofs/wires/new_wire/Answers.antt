use Rattle.std.proofs.Common.{◌≡◌, ◌∙◌, ℕ, Option, Some, None, option_map, ap, sym}
use Rattle.std.specs.HashMap.{get}
use Rattle.netlist_core.specs.declared.netlist.NetId.{NetId}
use Rattle.chain_trace.specs.Paths.{source_net}
use Rattle.net_edit.specs.declared.edits.Wire.TheVariants.{Net}
use Rattle.net_edit.specs.NewWires.{same_key, place_of, wire_or}
use Rattle.net_edit.proofs.wires.new_wire.Goals as goal

pub returns-in-Some : goal.returns-in-Some
returns-in-Some c = record {
  value = λ fs has.
      let at : place_of fs c.args.source ≡ Some c.in-Some.place.now = sym (has c.args.source) ∙ ap (get same_key c.args.places.now) (sym c.source_key.ensures.value) ∙ sym c.in-Some.ensures.value in
      sym (ap (λ (o : Option ℕ). wire_or o (source_net c.args.netlist.now c.args.table.now c.args.source)) at);
}

pub returns-in-Some-source_net : goal.returns-in-Some-source_net
returns-in-Some-source_net c = record {
  value = λ fs has.
      let at : place_of fs c.args.source ≡ None = sym (has c.args.source) ∙ ap (get same_key c.args.places.now) (sym c.source_key.ensures.value) ∙ sym c.in_default.ensures.value in
      ap (λ (o : Option NetId). option_map Net o) c.in-Some-source_net.ensures.value ∙ sym (ap (λ (o : Option ℕ). wire_or o (source_net c.args.netlist.now c.args.table.now c.args.source)) at);
}

pub returns-in-None : goal.returns-in-None
returns-in-None c = record {
  value = λ fs has.
      let at : place_of fs c.args.source ≡ None = sym (has c.args.source) ∙ ap (get same_key c.args.places.now) (sym c.source_key.ensures.value) ∙ sym c.in_default.ensures.value in
      ap (λ (o : Option NetId). option_map Net o) c.in-None.ensures.value ∙ sym (ap (λ (o : Option ℕ). wire_or o (source_net c.args.netlist.now c.args.table.now c.args.source)) at);
}
