use Rattle.std.proofs.Common.{◌++◌, List, ℕ, map, take}
use Rattle.verilog_names.specs.NameSets.{HasNames}
use Rattle.verilog_checks.proofs.name_lists.add_names.Given as goal

abbrev pub invariant-loop-name : goal.invariant-loop-name
invariant-loop-name l = (before : List (List ℕ)) → HasNames l.initial.set before → HasNames l.set (before ++ map (λ name. name.now) (take l.name-index l.names))
