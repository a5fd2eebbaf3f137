use Rattle.std.proofs.Common.{◌≡◌, ℕ, ◌==◌, take}
use Rattle.std.specs.HashMap.{get}
use Rattle.def_edit.specs.Groups.{group_of}
use Rattle.def_edit.specs.NetChanges.{moves_from}
use Rattle.def_edit.proofs.groups.moves_from.Given as goal

abbrev pub invariant-loop-pin_move : goal.invariant-loop-pin_move
invariant-loop-pin_move l = (q : ℕ) → group_of (get ◌==◌ l.groups q) ≡ moves_from q (take l.pin_move-index l.moves)
