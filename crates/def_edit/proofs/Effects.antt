-- The edits of a text stand one behind the other; what is written denotes the design behind the moves, and is the read text once both are
-- erased.
use Rattle.std.proofs.Common.{◌≡◌, ℕ, List, length, sym, subst}
use Rattle.splice.specs.Spliced.{spliced, AreRising}
use Rattle.cell_table.specs.Cells.{Cells}
use Rattle.def_edit.specs.Alike.Changes.{Changes, IsFit}
use Rattle.def_edit.specs.Alike.Laws.{HasChanges}
use Rattle.def_reader.specs.declared.design.Design.{Design}
use Rattle.def_reader.specs.Denoted.{DenotesDesign}
use Rattle.def_edit.specs.declared.pin_moves.PinMove.{PinMove}
use Rattle.def_edit.specs.Moved.{AreMovesIn}
use Rattle.def_edit.specs.declared.chains.NewChain.{NewChain}
use Rattle.def_edit.specs.NewChains.{AreNewChains}
use Rattle.def_edit.specs.MovedText.{changes_of, edits_of, DenotesMoved}
use Rattle.def_edit.specs.ErasedDef.{Erasing, AreErasedAlike, ErasesMoves}
use Rattle.def_edit.proofs.EditsRising.{rising, has_changes}
use Rattle.def_edit.proofs.MovedFit.{fit}
use Rattle.def_edit.proofs.MovedDesign.{words_are, denotes_moved}
use Rattle.def_edit.proofs.Erased.{erased}

module _ (text : List ℕ) (cells : Cells) (d : Design) (h : DenotesDesign text cells d) (moves : List PinMove) (in_nets : AreMovesIn d.nets moves) (news : List NewChain) (are : AreNewChains d d.chains news) where
  abbrev changes : Changes
  changes = changes_of text h.statements d moves news

  fits : IsFit h.statements changes
  fits = fit text cells d h moves news in_nets are

  -- the edits stand one behind the other
  pub rises : AreRising 0 (length text) (edits_of text h.statements changes)
  rises = rising text cells d h moves news in_nets fits

  module _ (written : List ℕ) (is : written ≡ spliced text (edits_of text h.statements changes)) where
    has : HasChanges text h.statements changes h.reads written
    has = subst (HasChanges text h.statements changes h.reads) (sym is) (has_changes text cells d h moves news in_nets fits)

    -- the text denotes the design behind the moves
    pub denotes : DenotesMoved written cells d moves news
    denotes = denotes_moved text cells d h moves news in_nets are written has

    -- and is the read one once both are erased
    pub erases : (e : Erasing) → ErasesMoves e d.nets moves → AreErasedAlike e text written
    erases e so = erased text cells d h moves news e so written (words_are text cells d h moves news in_nets are written has)
