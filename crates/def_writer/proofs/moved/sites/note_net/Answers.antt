use Rattle.def_reader.specs.Steps.{pin_of_key}
use Rattle.def_writer.proofs.moved.FoundSites.{pin_put}
use Rattle.def_writer.proofs.moved.sites.note_net.Goals as goal

pub loop-place-preserved : goal.loop-place-preserved
loop-place-preserved c = λ q.
    pin_put c.args.number c.as_slice-pin-items.result.now c.args.net.now.pins c.loop-place.place c.pin-item.result (pin_of_key q) _ _ _ c.as_slice-pin-items.ensures.value c.loop-place-test.true c.pin-item.is
    (c.in_ok-note_pin.ensures.value q) (c.loop-place.invariant q)
