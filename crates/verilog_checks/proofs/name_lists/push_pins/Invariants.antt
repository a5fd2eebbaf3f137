use Rattle.std.proofs.Common.{◌≡◌, ◌++◌, map, take}
use Rattle.verilog_names.specs.Values.{unescaped}
use Rattle.verilog_checks.proofs.name_lists.push_pins.Given as goal

abbrev pub invariant-loop-connection : goal.invariant-loop-connection
invariant-loop-connection l = map (λ name. name.now) l.names.items ≡ map (λ name. name.now) l.initial.names.items ++ map (λ c. unescaped c.pin) (take l.connection-index l.connections)
