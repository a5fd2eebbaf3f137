use Rattle.std.proofs.Common.{List, ℕ, sym, subst}
use Rattle.std.proofs.lemmas.List.{append-nil}
use Rattle.def_reader.specs.declared.design.NetPin.{NetPin}
use Rattle.def_reader.specs.SeenConnections.{IsSeenPins}
use Rattle.list_laws.proofs.RowsMore.{pins_next, pins_all}
use Rattle.def_reader.proofs.connections.SeenPins.add_net.Goals as goal

pub loop-pin-init : goal.loop-pin-init
loop-pin-init c = λ rows h. subst (λ (l : List (NetPin × ℕ)). IsSeenPins c.args.self.now l) (sym (append-nil rows)) h

pub loop-pin-preserved : goal.loop-pin-preserved
loop-pin-preserved c = λ rows h.
    subst (λ (l : List (NetPin × ℕ)). IsSeenPins c.add.new.self l)
    (pins_next rows c.as_slice-pin-items.result.now c.args.net.now.pins c.args.net.now.line c.loop-pin.pin-index c.pin-item.result c.as_slice-pin-items.ensures.value c.loop-pin-test.true c.pin-item.is)
    (c.in_ok-add.ensures.value _ (c.loop-pin.invariant rows h))

pub returns : goal.returns
returns c = record {
  value = λ rows h.
      subst (λ (l : List (NetPin × ℕ)). IsSeenPins c.loop-pin.self l)
      (pins_all rows c.as_slice-pin-items.result.now c.args.net.now.pins c.args.net.now.line c.loop-pin.pin-index c.as_slice-pin-items.ensures.value c.loop-pin-test.false) (c.loop-pin.invariant rows h);
}
