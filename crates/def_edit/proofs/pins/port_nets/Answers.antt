use Rattle.def_edit.specs.Moved.{moving_pin, is_port}
use Rattle.def_edit.proofs.Steps.{ports_more}
use Rattle.def_edit.proofs.pins.port_nets.Goals as goal

pub loop-pin_move-preserved : goal.loop-pin_move-preserved
loop-pin_move-preserved c =
    λ q. ports_more (λ m. is_port q.now (moving_pin c.args.nets.now m)) c.args.moves.now c.loop-pin_move.pin_move-index _ _ _ c.loop-pin_move-test.true (c.in_ok-add_port.ensures.value q) (c.loop-pin_move.invariant q)
