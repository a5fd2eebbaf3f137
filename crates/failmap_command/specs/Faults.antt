-- What may be wrong with the files of `failmap`.
use Rattle.std.specs.Prelude.{◌≡◌, ℕ, List}
use Rattle.base_types.specs.Faults.{at_line}
use Rattle.base_types.specs.declared.fault.Fault.{Fault}
use Rattle.base_types.specs.declared.fault.FileKind.TheVariants.{NewStil}
use Rattle.base_types.specs.declared.kind.Kind.TheVariants.{NotSame}
use Rattle.same_files.specs.Sets.{FileSet, IsFileSet}
use Rattle.same_files.specs.Same.{AreSameFiles}
use Rattle.verify_command.specs.Faults.{HoldsInVerify}
use Rattle.fail_map.specs.declared.line.LogLine.{LogLine}
use Rattle.fail_map.specs.Logs.{IsLogText, HoldsInLog}
use Rattle.fail_map.specs.Mapped.{HoldsInLines}

-- A fault of `verify` in the two sets. Where there is none, NotSame: they don't mean the same. LogSyntax in the log; and where its lines are
-- of their form, those of them that name no comparison of the second set's patterns, or stood before.
pub data HoldsInFailmap (table verilog stil new_verilog new_stil log : List ℕ) (fault : Fault) : Type 0 where
  OfSets : HoldsInVerify table verilog stil new_verilog new_stil fault → HoldsInFailmap table verilog stil new_verilog new_stil log fault
  Differ : ((other : Fault) → HoldsInVerify table verilog stil new_verilog new_stil other → ⊥) → ¬ AreSameFiles table verilog stil new_verilog new_stil
      → fault ≡ at_line NotSame NewStil 0 → HoldsInFailmap table verilog stil new_verilog new_stil log fault
  OfLog : HoldsInLog log fault → HoldsInFailmap table verilog stil new_verilog new_stil log fault
  OfLines : (new : FileSet) (lines : List LogLine) → IsFileSet table new_verilog new_stil new → IsLogText log lines
      → HoldsInLines new.meant.played lines fault → HoldsInFailmap table verilog stil new_verilog new_stil log fault
