use Rattle.std.proofs.Common.{◌≡◌, map, take}
use Rattle.def_edit.specs.NewChains.{element_layout}
use Rattle.def_edit.specs.Layouts.{laid_list}
use Rattle.def_edit.proofs.layouts.lists_words.Given as goal

abbrev pub invariant-loop-list : goal.invariant-loop-list
invariant-loop-list l = map laid_list l.words ≡ map (map (element_layout l.components)) (take l.list-index l.lists)
