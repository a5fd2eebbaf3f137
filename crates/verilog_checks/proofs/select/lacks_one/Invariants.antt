use Rattle.std.proofs.Common.{◌≡◌, not, drop}
use Rattle.std.specs.List.{list_any}
use Rattle.verilog_names.specs.Values.{unescaped}
use Rattle.verilog_checks.specs.Steps.{has_key}
use Rattle.verilog_checks.proofs.select.lacks_one.Given as goal

abbrev pub invariant-loop-name : goal.invariant-loop-name
invariant-loop-name l = list_any (λ name. not (has_key l.set (unescaped name))) (drop l.name-index l.names) ≡ list_any (λ name. not (has_key l.set (unescaped name))) l.names
