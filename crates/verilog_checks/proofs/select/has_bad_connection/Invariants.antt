use Rattle.std.proofs.Common.{◌≡◌, false, drop}
use Rattle.std.specs.List.{list_any}
use Rattle.verilog_names.specs.Declarations.{connection_items}
use Rattle.verilog_checks.specs.Faults.{is_bad_number, is_bad_select}
use Rattle.verilog_names.specs.NameTables.{known_bounds}
use Rattle.verilog_checks.proofs.select.has_bad_connection.Given as goal

abbrev pub invariant-loop-connection : goal.invariant-loop-connection
invariant-loop-connection l = record {
  same : list_any (is_bad_select (known_bounds l.names)) (connection_items (drop l.connection-index l.connections)) ≡ list_any (is_bad_select (known_bounds l.names)) (connection_items l.connections);
  small : list_any is_bad_number (connection_items (drop l.connection-index l.connections)) ≡ false;
}
