use Rattle.std.proofs.Common.{◌≡◌, ◌-◌, ◌++◌, map}
use Rattle.verilog_reader.specs.Numbering.{numbers_from, numbered_port}
use Rattle.verilog_reader.proofs.fold.push_ports.Given as goal

abbrev pub invariant-loop-number : goal.invariant-loop-number
invariant-loop-number l =
    l.ports ++ map (numbered_port l.fn.line l.fn.direction) (numbers_from l.number (l.end - l.number))
    ≡ l.initial.ports ++ map (numbered_port l.fn.line l.fn.direction) (numbers_from l.fn.entry.first (l.end - l.fn.entry.first))
