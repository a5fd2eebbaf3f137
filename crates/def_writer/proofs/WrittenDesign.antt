-- What the written text denotes, by the laws of moves.
use Rattle.std.proofs.Common.{ℕ, List}
use Rattle.base_types.specs.declared.fault.Fault.{Fault}
use Rattle.netlist_core.specs.declared.netlist.Netlist.{Netlist}
use Rattle.netlist_core.specs.Netlists.{IsNetlist}
use Rattle.cell_table.specs.Cells.{Cells}
use Rattle.chain_trace.specs.declared.path.Path.{Path}
use Rattle.net_edit.specs.Rearranged.{AreRearranged}
use Rattle.def_reader.specs.declared.design.Design.{Design}
use Rattle.def_reader.specs.Agreement.{Agree}
use Rattle.def_reader.specs.Denoted.{DenotesDesign}
use Rattle.design_places.specs.NetPins.{HoldsInNets}
use Rattle.def_writer.specs.Moved.Moves.{moves_of}
use Rattle.def_writer.specs.Moved.Laws.{OnceLaw, AreMovable, MovedLaw, StandingLaw}
use Rattle.def_edit.specs.declared.chains.NewChain.{NewChain}
use Rattle.def_edit.specs.MovedText.{moved_design, DenotesMoved}
use Rattle.def_writer.specs.DefTexts.{IsPlacedAfter}
use Rattle.def_writer.proofs.Behind.{same_components, is_behind}

-- what the moves ask
pub movable : OnceLaw → (text : List ℕ) (n : Netlist) (cells : Cells) (d : Design) (old new : List Path) → DenotesDesign text cells d → IsNetlist n → Agree n d → ((fault : Fault) → HoldsInNets n cells d old fault → ⊥) → AreRearranged n cells old new
    → AreMovable n cells d old new
movable once_law text n cells d old new den netlist agree standing rearranged =
    record { netlist = netlist; once = once_law text cells d den; agree = agree; standing = standing; rearranged = rearranged }

-- the design behind the moves
pub placed_after : MovedLaw → StandingLaw → (n : Netlist) (cells : Cells) (d : Design) (old new : List Path) (news : List NewChain) (out : List ℕ) → AreMovable n cells d old new → DenotesMoved out cells d (moves_of n cells d old new) news
    → IsPlacedAfter n cells d old new out
placed_after moved_law standing_law n cells d old new news out a m =
    let behind = is_behind n cells d m.placed old new news m.is in
    record {
      placed = m.placed;
      denoted = m.denoted;
      components = same_components m.placed (moved_design d (moves_of n cells d old new) news) m.is;
      moved = moved_law n cells d m.placed old new a behind;
      once = standing_law.once n cells d m.placed old new a behind;
      standing = standing_law.standing n cells d m.placed old new a behind;
    }
