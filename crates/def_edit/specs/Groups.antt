-- Moves by one of their nets.
use Rattle.std.specs.Prelude.{List, [], Option, Some, None}
use Rattle.def_edit.specs.declared.pin_moves.PinMove.{PinMove}

-- the moves of a net, which are none where it isn't known
abbrev pub group_of : Option (List PinMove) → List PinMove
group_of None = []
group_of (Some moves) = moves
