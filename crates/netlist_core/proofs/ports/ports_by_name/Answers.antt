use Rattle.netlist_core.proofs.Noted.{port_more}
use Rattle.netlist_core.proofs.ports.ports_by_name.Goals as goal

pub loop-place-preserved : goal.loop-place-preserved
loop-place-preserved c =
    port_more c.args.nets.now c.loop-place.places c.add_place.new.places c.args.ports.now c.loop-place.place _ c.plain_of.result.now c.loop-place-test.true c.plain_of.ensures.value c.in_ok-add_place.ensures.ok
    c.loop-place.invariant
