use Rattle.std.proofs.Common.{◌≡◌, map, take}
use Rattle.def_edit.specs.NewChains.{element_layout}
use Rattle.def_edit.specs.Layouts.{laid_list}
use Rattle.def_edit.proofs.layouts.list_words.Given as goal

abbrev pub invariant-loop-element : goal.invariant-loop-element
invariant-loop-element l = laid_list l.words ≡ map (element_layout l.components) (take l.element-index l.elements)
