use Rattle.std.proofs.Common.{◌≡◌, ◌++◌, drop, map}
use Rattle.verilog_names.specs.Declarations.{connection_items}
use Rattle.verilog_reader.specs.Numbering.{with_items, numbered_connection}
use Rattle.verilog_reader.proofs.parts.pins_of.Given as goal

abbrev pub invariant-loop-connection : goal.invariant-loop-connection
invariant-loop-connection l = record {
  nets : with_items l.nets (connection_items (drop l.connection-index l.connections)) ≡ with_items l.initial.nets (connection_items l.connections);
  pins : l.pins ++ map (numbered_connection (with_items l.initial.nets (connection_items l.connections))) (drop l.connection-index l.connections)
      ≡ map (numbered_connection (with_items l.initial.nets (connection_items l.connections))) l.connections;
}
