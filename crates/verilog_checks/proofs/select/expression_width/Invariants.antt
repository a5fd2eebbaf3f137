use Rattle.std.proofs.Common.{◌≡◌, ◌≤◌, ◌*◌, take}
use Rattle.std.specs.List.{sum_by}
use Rattle.verilog_checks.specs.Faults.{item_width}
use Rattle.verilog_names.specs.NameTables.{known_bounds}
use Rattle.verilog_checks.proofs.select.expression_width.Given as goal

abbrev pub invariant-loop-item : goal.invariant-loop-item
invariant-loop-item l = record {
  same : l.total ≡ sum_by (item_width (known_bounds l.names)) (take l.item-index l.item-items);
  within : l.total ≤ l.item-index * 4294967296;
}
