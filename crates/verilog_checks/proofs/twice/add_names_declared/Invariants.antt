use Rattle.std.proofs.Common.{◌≡◌, ◌++◌, ◌||◌, List, ℕ, map, take, drop}
use Rattle.verilog_names.specs.Declarations.{Declaration}
use Rattle.verilog_checks.specs.Checks.{any_again, have_bits}
use Rattle.verilog_checks.specs.Seen.{AreKnown, declared_as}
use Rattle.verilog_checks.proofs.twice.add_names_declared.Given as goal

abbrev pub invariant-loop-name : goal.invariant-loop-name
invariant-loop-name l = (before : List Declaration) (all : List (List ℕ)) → AreKnown l.initial.declared l.nets before all → record {
  same : (any_again (before ++ map (declared_as l.first) (take l.name-index l.names)) (map (declared_as l.first) (drop l.name-index l.names)) || have_bits (map (declared_as l.first) (drop l.name-index l.names)) all)
      ≡ (any_again before (map (declared_as l.first) l.names) || have_bits (map (declared_as l.first) l.names) all);
  known : AreKnown l.declared l.nets (before ++ map (declared_as l.first) (take l.name-index l.names)) all;
}
