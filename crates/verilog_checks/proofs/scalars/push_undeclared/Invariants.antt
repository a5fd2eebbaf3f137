use Rattle.std.proofs.Common.{◌≡◌, ◌++◌, List, map, take}
use Rattle.std.specs.List.{flat_map, filter}
use Rattle.verilog_names.specs.Declarations.{Declaration, mentions_of, undeclared_in}
use Rattle.verilog_checks.specs.Seen.{AreClosed, is_bracketed}
use Rattle.verilog_checks.proofs.scalars.push_undeclared.Given as goal

abbrev pub invariant-loop-item : goal.invariant-loop-item
invariant-loop-item l = (ds : List Declaration) → AreClosed l.closed ds
    → map (λ name. name.now) l.names.items ≡ map (λ name. name.now) l.initial.names.items ++ filter is_bracketed (undeclared_in ds (flat_map mentions_of (take l.item-index l.items)))
