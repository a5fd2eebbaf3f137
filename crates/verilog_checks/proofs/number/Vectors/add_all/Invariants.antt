use Rattle.std.proofs.Common.{◌≡◌, ◌≤◌, List, ◌++◌, Some, map, take}
use Rattle.verilog_syntax.specs.declared.statement.Declared.{Declared}
use Rattle.verilog_syntax.specs.declared.statement.Range.{Range}
use Rattle.verilog_names.specs.Declarations.{Declaration, bounds_of, declaration_of}
use Rattle.verilog_checks.specs.Steps.{AreCounted}
use Rattle.verilog_checks.proofs.number.Vectors.add_all.Given as goal

abbrev pub invariant-loop-name : goal.invariant-loop-name
invariant-loop-name l = record {
  small : l.self.bits ≤ 16777216;
  counted : (kind : Declared) (range : Range) → bounds_of range ≡ l.bounds → (ds : List Declaration) → AreCounted l.fn.self ds
      → AreCounted l.self (ds ++ map (declaration_of kind (Some range)) (take l.name-index l.names));
}
