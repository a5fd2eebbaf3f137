use Rattle.std.proofs.Common.{◌≡◌, drop}
use Rattle.std.specs.List.{AllByRecursion as Each}
use Rattle.toml.specs.View.{items_view}
use Rattle.cell_table.specs.Cells.{path_of, paths_of, each_item}
use Rattle.cell_table.specs.Ascending.{HasOutsInOrder}
use Rattle.cell_table.proofs.Loops.{with_front}
use Rattle.cell_table.proofs.paths.paths_of.Given as goal

abbrev pub invariant-loop-value : goal.invariant-loop-value
invariant-loop-value l = record {
  same : with_front l.paths (each_item path_of (items_view (drop l.value-index l.values.items))) ≡ paths_of (items_view l.values.items);
  order : Each HasOutsInOrder l.paths;
}
