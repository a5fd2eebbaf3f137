-- What a STIL text means on the scan chains of a netlist, and that the written text means on the written netlist what the read one did.
use Rattle.std.specs.Prelude.{ℕ, List}
use Rattle.netlist_core.specs.declared.netlist.Netlist.{Netlist}
use Rattle.cell_table.specs.Cells.{Cells}
use Rattle.chain_trace.specs.declared.path.Path.{Path}
use Rattle.path_chains.specs.Numbered.{bits_of_paths}
use Rattle.stil_tester.specs.Meaning.{PatternText, HaveSameMeaning}
use Rattle.stil_written.specs.Readings.{reading}
use Rattle.stil_written.specs.Written.{Form}
use Rattle.stil_writer.specs.Loops.{written_with}
use Rattle.retarget.specs.Moved.{moved_call}
use Rattle.reorder_command.specs.declared.patterns.PatternPlan.{PatternPlan}
-- what a text says behind its head, what it means on paths of a netlist, and bits that are the same by name
pub use Rattle.same_files.specs.Meaning.{patterns_in, Means, NameSameCells}

-- both texts mean the same, each on the paths of its netlist: for every list of answers of a device and from whatever cells, each scan call
-- leaves the same cells and passes alike
pub record KeepsMeaning (n written : Netlist) (cells : Cells) (paths after : List Path) (stil out : List ℕ) : Type 0 where
  pub old : PatternText
  pub new : PatternText
  pub read : Means n cells paths stil old
  pub again : Means written cells after out new
  pub cells_are : NameSameCells n written (bits_of_paths n cells paths) (bits_of_paths written cells after)
  pub same : HaveSameMeaning reading old new

-- how a text is written by a plan: its head as planned, and each statement with its calls moved to the new chains
abbrev pub form_of : PatternPlan → Form
form_of plan = record { head = λ text. plan.head_text; statement = written_with plan.head.chains (moved_call plan.map.0 plan.map.1) }
