-- When two sets of files, each a netlist and patterns, are the same to a tester.
use Rattle.std.specs.Prelude.{◌≡◌, ℕ, List, length}
use Rattle.path_chains.specs.Numbered.{bits_of_paths}
use Rattle.stil_tester.specs.Meaning.{HaveSameMeaning}
use Rattle.stil_written.specs.Readings.{reading}
use Rattle.same_files.specs.Cells.{HaveSameScanCells}
use Rattle.same_files.specs.Sets.{FileSet, IsFileSet}

-- as many chains, and the same scan cells by name, each on an instance of the same cell
pub record HaveCellsAlike (old new : FileSet) : Type 0 where
  pub chains : length old.paths ≡ length new.paths
  pub cells : HaveSameScanCells old.netlist new.netlist (bits_of_paths old.netlist old.cells old.paths) (bits_of_paths new.netlist new.cells new.paths)

-- By one table both sets of files mean something, their cells are alike, and the patterns have the same meaning: equal heads but for
-- lengths, inversions and cells, Patterns of equal names, the same statements but for the data of scan calls, and for every list of answers
-- of a device and from whatever cells, each scan call leaves the same cells and passes alike.
pub record AreSameFiles (table verilog stil new_verilog new_stil : List ℕ) : Type 0 where
  pub old : FileSet
  pub new : FileSet
  pub read : IsFileSet table verilog stil old
  pub again : IsFileSet table new_verilog new_stil new
  pub cells : HaveCellsAlike old new
  pub meaning : HaveSameMeaning reading old.meant new.meant
