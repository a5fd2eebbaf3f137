use Rattle.std.proofs.Common.{◌≡◌, ◌++◌, map, take}
use Rattle.std.specs.Prelude.{codes}
use Rattle.play_command.specs.Plays.{cell_character}
use Rattle.play_command.proofs.lines.push_cells.Given as goal

abbrev pub invariant-loop-cell : goal.invariant-loop-cell
invariant-loop-cell l = l.lines.items ≡ l.fn.lines.items ++ codes "cells " ++ map cell_character (take l.cell-index l.cells)
