use Rattle.std.proofs.Common.{◌≡◌, ◌++◌, drop}
use Rattle.std.specs.List.{flat_map}
use Rattle.verilog_names.specs.Values.{unescaped}
use Rattle.verilog_names.specs.NameTables.{place}
use Rattle.verilog_reader.specs.Numbering.{port_bits}
use Rattle.verilog_reader.proofs.fold.push_named_ports.Given as goal

abbrev pub invariant-loop-name : goal.invariant-loop-name
invariant-loop-name l = l.ports ++ flat_map (λ name. port_bits l.line l.direction (place l.nets (unescaped name))) (drop l.name-index l.names) ≡ l.initial.ports ++ flat_map (λ name. port_bits l.line l.direction (place l.nets (unescaped name))) l.names
