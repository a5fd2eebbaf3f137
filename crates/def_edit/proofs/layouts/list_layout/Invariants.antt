use Rattle.std.proofs.Common.{◌≡◌, take}
use Rattle.def_edit.specs.Layouts.{laid_list}
use Rattle.def_edit.proofs.layouts.list_layout.Given as goal

abbrev pub invariant-loop-element : goal.invariant-loop-element
invariant-loop-element l = l.layouts ≡ laid_list (take l.element-index l.elements)
