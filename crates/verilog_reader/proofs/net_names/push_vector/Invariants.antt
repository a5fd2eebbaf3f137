use Rattle.std.proofs.Common.{◌≡◌, ◌-◌, ◌++◌, map, Some}
use Rattle.verilog_names.specs.Values.{bit_name}
use Rattle.verilog_names.specs.Declarations.{indexes_from, width}
use Rattle.verilog_reader.specs.Denoted.{bit_text, entry_nets}
use Rattle.verilog_reader.proofs.net_names.push_vector.Given as goal

abbrev pub invariant-loop-at : goal.invariant-loop-at
invariant-loop-at l =
    l.names ++ map (λ i. record { plain = bit_name l.name i; text = bit_text l.name i }) (indexes_from l.bounds l.at (width l.bounds - l.at))
    ≡ l.initial.names ++ entry_nets l.name (Some l.bounds)
