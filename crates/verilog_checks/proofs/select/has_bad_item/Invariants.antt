use Rattle.std.proofs.Common.{◌≡◌, drop}
use Rattle.std.specs.List.{list_any}
use Rattle.verilog_checks.specs.Faults.{is_bad_select}
use Rattle.verilog_names.specs.NameTables.{known_bounds}
use Rattle.verilog_checks.proofs.select.has_bad_item.Given as goal

abbrev pub invariant-loop-item : goal.invariant-loop-item
invariant-loop-item l = list_any (is_bad_select (known_bounds l.names)) (drop l.item-index l.items) ≡ list_any (is_bad_select (known_bounds l.names)) l.items
