-- The text of a statement hangs on the ports of the chains alone, not on their lengths, inversions and cells.
use Rattle.std.specs.Prelude.{◌≡◌, List}
use Rattle.stil_types.specs.declared.head.ScanChainDecl.{ScanChainDecl}
use Rattle.stil_types.specs.declared.statement.ScanCall.{ScanCall}
use Rattle.stil_types.specs.declared.statement.PatternStatement.{PatternStatement}
use Rattle.stil_writer.specs.Loops.{written_with}
use Rattle.pattern_laws.specs.Laws.{SamePorts}

-- so it is the same beside the declarations that are read and those that are written
abbrev pub TextsLaw : Type 0
TextsLaw = (read written : List ScanChainDecl) (move : ScanCall → ScanCall) (statement : PatternStatement) → SamePorts read written → written_with read move statement ≡ written_with written move statement
