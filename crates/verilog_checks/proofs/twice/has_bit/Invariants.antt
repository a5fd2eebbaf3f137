use Rattle.std.proofs.Common.{◌≡◌, ◌-◌, List, ℕ}
use Rattle.std.specs.List.{list_any}
use Rattle.verilog_names.specs.Values.{bit_name}
use Rattle.verilog_names.specs.Declarations.{has, width, indexes_from, indexes}
use Rattle.verilog_names.specs.NameSets.{HasNames}
use Rattle.verilog_checks.proofs.twice.has_bit.Given as goal

abbrev pub invariant-loop-place : goal.invariant-loop-place
invariant-loop-place l = (all : List (List ℕ)) → HasNames l.nets all
    → list_any (λ i. has all (bit_name l.vector i)) (indexes_from l.bounds l.place (width l.bounds - l.place)) ≡ list_any (λ i. has all (bit_name l.vector i)) (indexes l.bounds)
