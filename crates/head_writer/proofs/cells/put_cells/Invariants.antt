use Rattle.std.proofs.Common.{◌≡◌, ◌++◌}
use Rattle.head_writer.specs.NewChains.{with_names}
use Rattle.head_writer.specs.Cells.{names_in, named_on}
use Rattle.head_writer.proofs.cells.put_cells.Given as goal

abbrev pub invariant-loop-count : goal.invariant-loop-count
invariant-loop-count l = named_on l.named.items l.left l.count l.rest ≡ l.initial.named.items ++ with_names l.bits (names_in l.cells)

abbrev pub decreases-loop-count : goal.decreases-loop-count
decreases-loop-count l = l.count
