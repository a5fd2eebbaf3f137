use Rattle.std.proofs.Common.{◌≡◌, drop}
use Rattle.std.specs.List.{list_any}
use Rattle.verilog_names.specs.Declarations.{connection_items}
use Rattle.verilog_checks.specs.Faults.{is_bad_number}
use Rattle.verilog_checks.proofs.number.has_bad_connection.Given as goal

abbrev pub invariant-loop-connection : goal.invariant-loop-connection
invariant-loop-connection l = list_any is_bad_number (connection_items (drop l.connection-index l.connections)) ≡ list_any is_bad_number (connection_items l.connections)
