use Rattle.std.proofs.Common.{◌++◌, List, ℕ, map, take}
use Rattle.std.specs.List.{filter}
use Rattle.verilog_names.specs.Values.{unescaped}
use Rattle.verilog_names.specs.NameSets.{HasNames}
use Rattle.verilog_checks.specs.Seen.{is_bracketed}
use Rattle.verilog_checks.proofs.scalars.add_closed.Given as goal

abbrev pub invariant-loop-written : goal.invariant-loop-written
invariant-loop-written l = (before : List (List ℕ)) → HasNames l.initial.set before → HasNames l.set (before ++ filter is_bracketed (map unescaped (take l.written-index l.declared)))
