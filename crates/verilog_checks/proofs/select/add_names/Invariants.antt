use Rattle.std.proofs.Common.{◌≡◌, List, ℕ, ◌||◌, map, take}
use Rattle.verilog_names.specs.Values.{unescaped}
use Rattle.verilog_names.specs.Declarations.{has}
use Rattle.verilog_checks.specs.Steps.{has_key}
use Rattle.verilog_checks.proofs.select.add_names.Given as goal

abbrev pub invariant-loop-name : goal.invariant-loop-name
invariant-loop-name l = (q : List ℕ) → has_key l.set q ≡ (has_key l.fn.set q || has (map unescaped (take l.name-index l.names)) q)
