-- What is written is the read text with the edits that put the path into the order of the words.
use Rattle.std.proofs.Common.{◌≡◌, ℕ, ◌+◌, List, [], ◌∷◌, length}
use Rattle.netlist_core.specs.declared.netlist.Netlist.{Netlist}
use Rattle.cell_table.specs.Cells.{Cells}
use Rattle.chain_trace.specs.declared.path.Path.{Path}
use Rattle.net_edit.specs.declared.edits.Edits.{Edits}
use Rattle.net_edit.specs.Wires.{AreEditsFor}
use Rattle.verilog_writer.specs.Wired.{IsWiredText}
use Rattle.rewire_command.specs.declared.rewire.Rewire.{Rewire}
use Rattle.rewire_command.specs.Rewiring.{cells_of, ordered, IsTraced, IsRewired}

module _ (text : List ℕ) (w : Rewire) (n : Netlist) (path : Path) (traced : IsTraced text w n path) (edits : Edits) (written : List ℕ) (moved : ℕ) where
  here : AreEditsFor n (cells_of w) (path ∷ []) (ordered n path w.units ∷ []) edits → IsWiredText text n (cells_of w) edits written → moved ≡ length edits.pins + length edits.ports + length edits.tails → IsRewired text w written moved
  here are is count = record { netlist = n; path = path; traced = traced; edits = edits; are = are; written = is; count = count }

  pub is_rewired : (cells : Cells) (made : Path) → cells ≡ cells_of w → made ≡ ordered n path w.units → AreEditsFor n cells (path ∷ []) (made ∷ []) edits → IsWiredText text n cells edits written
      → moved ≡ length edits.pins + length edits.ports + length edits.tails → IsRewired text w written moved
  is_rewired cells made same made_is = rw (same, made_is) here
