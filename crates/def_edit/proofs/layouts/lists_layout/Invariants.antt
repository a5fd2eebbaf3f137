use Rattle.std.proofs.Common.{◌≡◌, map, take}
use Rattle.def_edit.specs.Layouts.{laid_list}
use Rattle.def_edit.proofs.layouts.lists_layout.Given as goal

abbrev pub invariant-loop-list : goal.invariant-loop-list
invariant-loop-list l = l.layouts ≡ map laid_list (take l.list-index l.lists)
