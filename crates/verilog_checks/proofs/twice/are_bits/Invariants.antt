use Rattle.std.proofs.Common.{◌≡◌, List, true, drop}
use Rattle.std.specs.List.{list_any}
use Rattle.verilog_names.specs.Declarations.{Declaration}
use Rattle.verilog_checks.specs.Seen.{Keeps, have_small, is_bit}
use Rattle.verilog_checks.proofs.twice.are_bits.Given as goal

abbrev pub invariant-loop-name : goal.invariant-loop-name
invariant-loop-name l = (ds : List Declaration) → Keeps l.declared ds → have_small ds ≡ true → list_any (λ name. is_bit ds name.now) (drop l.name-index l.names) ≡ list_any (λ name. is_bit ds name.now) l.names
