use Rattle.std.proofs.Common.{◌≡◌, ◌+◌, min, length, take}
use Rattle.std.specs.List.{flat_map}
use Rattle.def_reader.specs.Sound.{elements_in}
use Rattle.design_elements.proofs.count.counted.Given as goal

abbrev pub invariant-loop-list : goal.invariant-loop-list
invariant-loop-list l = l.count ≡ min (l.fn.count + length (flat_map elements_in (take l.list-index l.lists))) 65537
