use Rattle.std.proofs.Common.{◌≡◌, ◌++◌, map, take}
use Rattle.std.specs.List.{filter}
use Rattle.verilog_names.specs.Values.{unescaped}
use Rattle.verilog_checks.specs.Seen.{is_bracketed}
use Rattle.verilog_checks.proofs.scalars.push_closed.Given as goal

abbrev pub invariant-loop-written : goal.invariant-loop-written
invariant-loop-written l = map (λ name. name.now) l.names.items ≡ map (λ name. name.now) l.initial.names.items ++ filter is_bracketed (map unescaped (take l.written-index l.declared))
