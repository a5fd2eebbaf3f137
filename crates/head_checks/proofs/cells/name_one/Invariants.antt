use Rattle.std.proofs.Common.{◌≡◌, true, take}
use Rattle.std.specs.List.{list_all}
use Rattle.head_checks.specs.CellNames.{names_cell}
use Rattle.head_checks.proofs.cells.name_one.Given as goal

abbrev pub invariant-loop-name : goal.invariant-loop-name
invariant-loop-name l = list_all (names_cell l.outer l.instance) (take l.name-index l.names) ≡ true
