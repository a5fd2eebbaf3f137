use Rattle.std.proofs.Common.{List, ℕ, [], ◌∷◌, ◌++◌, map, take}
use Rattle.def_reader.specs.declared.design.NetPin.{NetPin}
use Rattle.def_reader.specs.Hashes.{AreTold, IsNameHeld, IsPinHeld}
use Rattle.def_reader.proofs.connections.add_hashes.Given as goal

abbrev pub invariant-loop-pin : goal.invariant-loop-pin
invariant-loop-pin l =
    (names : List (List ℕ × ℕ)) (rows : List (NetPin × ℕ)) → AreTold (IsNameHeld l.fn.hashes) names → AreTold (IsPinHeld l.fn.hashes) rows
    → AreTold (IsNameHeld l.hashes) (names ++ (l.net.name, l.net.line) ∷ []) × AreTold (IsPinHeld l.hashes) (rows ++ map (λ p. (p, l.net.line)) (take l.pin-index l.net.pins))
