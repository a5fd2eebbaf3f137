use Rattle.std.proofs.Common.{◌≡◌, take}
use Rattle.def_edit.specs.NetChanges.{added_with}
use Rattle.def_edit.specs.Lookups.{rows_of}
use Rattle.def_edit.proofs.nets.added_with.Given as goal

abbrev pub invariant-loop-pin_move : goal.invariant-loop-pin_move
invariant-loop-pin_move l = l.added.items ≡ added_with l.components (rows_of l.bytes l.nets) (take l.pin_move-index l.moves)
