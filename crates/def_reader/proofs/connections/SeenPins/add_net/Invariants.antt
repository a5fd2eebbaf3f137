use Rattle.std.proofs.Common.{List, ℕ, ◌++◌, map, take}
use Rattle.def_reader.specs.declared.design.NetPin.{NetPin}
use Rattle.def_reader.specs.SeenConnections.{IsSeenPins}
use Rattle.def_reader.proofs.connections.SeenPins.add_net.Given as goal

abbrev pub invariant-loop-pin : goal.invariant-loop-pin
invariant-loop-pin l =
    (rows : List (NetPin × ℕ)) → IsSeenPins l.initial.self rows → IsSeenPins l.self (rows ++ map (λ p. (p, l.net.line)) (take l.pin-index l.net.pins))
