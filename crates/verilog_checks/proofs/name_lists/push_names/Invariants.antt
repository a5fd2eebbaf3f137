use Rattle.std.proofs.Common.{◌≡◌, ◌++◌, map, take}
use Rattle.verilog_names.specs.Values.{unescaped}
use Rattle.verilog_checks.proofs.name_lists.push_names.Given as goal

abbrev pub invariant-loop-name : goal.invariant-loop-name
invariant-loop-name l = map (λ name. name.now) l.names.items ≡ map (λ name. name.now) l.initial.names.items ++ map unescaped (take l.name-index l.written)
