use Rattle.std.proofs.Common.{◌≡◌, ◌<◌, List, length, get_or, sym, ap, ◌∙◌, subst}
use Rattle.std.specs.HashMap.{get}
use Rattle.def_reader.specs.declared.design.NetPin.{NetPin}
use Rattle.def_reader.specs.Steps.{same_key}
use Rattle.design_places.proofs.PinsNoted.{pins_more, pin_passed}
use Rattle.design_places.proofs.by_pin.add_net.Goals as goal
use Rattle.design_places.proofs.by_pin.add_net.Goals.{then-is_asked+in_ok-add_pin, else-is_asked}

pub loop-pin-preserved : goal.loop-pin-preserved
loop-pin-preserved c =
    let items = c.as_slice-pin-items.ensures.value in
    let lt = subst (λ (l : List NetPin). c.loop-pin.pin-index < length l) items c.loop-pin-test.true in
    let is = subst (λ (l : List NetPin). c.pin-item.result ≡ get_or l c.loop-pin.pin-index c.pin-item.result) items c.pin-item.is in
    elim c.if-is_asked.branch [
      | then-is_asked+in_ok-add_pin w ↦ λ q a.
          pins_more q c.args.net.now.pins c.loop-pin.pin-index c.pin-item.result c.args.place (get same_key c.args.places.now q) _ _ lt is (c.loop-pin.invariant q a)
          (ap (λ places. get same_key places q) w.places-is ∙ w.in_ok-add_pin.ensures.ok q)
      | else-is_asked w ↦ λ q a.
          ap (λ places. get same_key places q) w.places-is
          ∙ pin_passed c.args.names.now q c.args.net.now.pins c.loop-pin.pin-index c.pin-item.result c.args.place (get same_key c.args.places.now q) _ lt is a (sym w.if-is_asked.ensures.value) (c.loop-pin.invariant q a)
    ]
