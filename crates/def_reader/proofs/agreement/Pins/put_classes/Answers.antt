use Rattle.std.proofs.Common.{List, [], ◌++◌, ℕ, Option, ◌≤◌, length, sym, ap, ◌∙◌, subst}
use Rattle.std.specs.List.{filter_map, cons_option}
use Rattle.std.proofs.lemmas.List.{take_all}
use Rattle.def_reader.specs.declared.design.NetPin.{NetPin}
use Rattle.def_reader.specs.Classes.{class_of}
use Rattle.list_laws.proofs.RowsMore.{filter_next}
use Rattle.def_reader.proofs.agreement.Pins.put_classes.Goals as goal

pub loop-pin-preserved : goal.loop-pin-preserved
loop-pin-preserved c =
    let f = class_of c.args.self.now c.args.classes.now in
    let i = c.loop-pin.pin-index in
    let x = c.pin-item.result in
    c.in_ok-push_some.ensures.value
    ∙ ap (λ (o : Option ℕ). c.loop-pin.found.items ++ cons_option o []) c.class_of.ensures.value
    ∙ ap (λ (l : List ℕ). l ++ cons_option (f x) []) c.loop-pin.invariant
    ∙ sym (filter_next f c.as_slice-pin-items.result.now c.args.net.now.pins i x c.as_slice-pin-items.ensures.value c.loop-pin-test.true c.pin-item.is)

pub returns : goal.returns
returns c = record {
  value = c.loop-pin.invariant
      ∙ ap (filter_map (class_of c.args.self.now c.args.classes.now))
      (take_all c.loop-pin.pin-index c.args.net.now.pins (subst (λ (l : List NetPin). length l ≤ c.loop-pin.pin-index) c.as_slice-pin-items.ensures.value c.loop-pin-test.false));
}
