use Rattle.std.proofs.Common.{◌≡◌, drop}
use Rattle.toml.specs.View.{items_view}
use Rattle.cell_table.specs.Cells.{bit_of, bits_of, each_item}
use Rattle.cell_table.proofs.Loops.{with_front}
use Rattle.cell_table.proofs.paths.bits_of.Given as goal

abbrev pub invariant-loop-value : goal.invariant-loop-value
invariant-loop-value l = with_front l.bits (each_item bit_of (items_view (drop l.value-index l.values.items))) ≡ bits_of (items_view l.values.items)
