-- What `failmap` says of a log of fails.
use Rattle.std.specs.Prelude.{◌≡◌, ℕ, List}
use Rattle.same_files.specs.Sets.{FileSet, IsFileSet}
use Rattle.same_files.specs.Same.{AreSameFiles}
use Rattle.fail_map.specs.declared.line.LogLine.{LogLine}
use Rattle.fail_map.specs.Logs.{IsLogText, log_text}
use Rattle.fail_map.specs.Mapped.{IsMappedLog}

-- By one table the two sets of files mean the same, and the text that is said is the log of the first patterns that the log of the second
-- ones stands for.
pub record IsFailmapText (table verilog stil new_verilog new_stil log said : List ℕ) : Type 0 where
  pub alike : AreSameFiles table verilog stil new_verilog new_stil
  pub old : FileSet
  pub new : FileSet
  pub read : IsFileSet table verilog stil old
  pub again : IsFileSet table new_verilog new_stil new
  pub lines : List LogLine
  pub lines_are : IsLogText log lines
  pub mapped : List LogLine
  pub are : IsMappedLog old.meant.played new.meant.played lines mapped
  pub same : said ≡ log_text mapped
