use Rattle.std.proofs.Common.{◌≡◌, ◌++◌}
use Rattle.std.specs.List.{flat_map}
use Rattle.verilog_reader.specs.Denoted.{entry_nets}
use Rattle.verilog_names.specs.NameTables.{bounded, firsts_in}
use Rattle.verilog_reader.proofs.nets.Nets.names.Given as goal

abbrev pub invariant-loop-name : goal.invariant-loop-name
invariant-loop-name l =
    (goal.iterator-loop-name).can_next l.name-iterator × (goal.iterator-loop-name).is_finite l.name-iterator
    × (l.names ++ flat_map (λ e. entry_nets e.0 e.1) (bounded (firsts_in l.name-iterator)) ≡ flat_map (λ e. entry_nets e.0 e.1) (bounded (firsts_in l.initial.name-iterator)))
