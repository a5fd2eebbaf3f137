-- The text that is written, by the statements that were read.
use Rattle.std.proofs.Common.{◌≡◌, ℕ, List, length, sym, ap, ◌∙◌, subst, Result, Ok, Err, IfOk}
use Rattle.base_types.specs.declared.memory.NoMemory.{NoMemory}
use Rattle.splice.specs.Spliced.{AreRising, spliced}
use Rattle.def_syntax.specs.AtOnce.{without_components}
use Rattle.def_syntax.specs.declared.design.DesignText.{DesignText}
use Rattle.cell_table.specs.Cells.{Cells}
use Rattle.def_reader.specs.declared.design.Design.{Design}
use Rattle.def_reader.specs.Denoted.{DenotesDesign}
use Rattle.def_edit.specs.declared.pin_moves.PinMove.{PinMove}
use Rattle.def_edit.specs.Moved.{AreMovesIn}
use Rattle.def_edit.specs.declared.chains.NewChain.{NewChain}
use Rattle.def_edit.specs.declared.text.DefOut.{DefOut}
use Rattle.def_edit.specs.NetChanges.{net_changes}
use Rattle.def_edit.specs.NewChains.{AreNewChains}
use Rattle.def_edit.specs.MovedText.{changes_of, edits_of, cut_count, IsMovedText, DenotesMoved}
use Rattle.def_edit.specs.ErasedDef.{Erasing, AreErasedAlike, ErasesMoves}
use Rattle.def_edit.proofs.Effects.{rises, denotes, erases}
use Rattle.def_edit.proofs.TextFacts.{as_many}

module _ (text : List ℕ) (cells : Cells) (d : Design) (h : DenotesDesign text cells d) (t : DesignText) (same : t ≡ without_components h.statements) (moves : List PinMove) (news : List NewChain) where
  -- the text with the edits of the statements that were read
  pub is_moved : (out : DefOut) → out.text ≡ spliced text (edits_of text t (changes_of text t d moves news)) → out.nets_cut ≡ cut_count text t.nets (net_changes text t d.components moves) → IsMovedText text cells d moves news out
  is_moved out is cut = record {
    read = h;
    is = subst (λ (s : DesignText). out.text ≡ spliced text (edits_of text s (changes_of text s d moves news))) same is;
    cut = subst (λ (s : DesignText). out.nets_cut ≡ cut_count text s.nets (net_changes text s d.components moves)) same cut;
  }

  pub is_moved_ok : (r : Result DefOut NoMemory) → IfOk r (λ (out : DefOut). out.text ≡ spliced text (edits_of text t (changes_of text t d moves news))) → IfOk r (λ (out : DefOut). out.nets_cut ≡ cut_count text t.nets (net_changes text t d.components moves))
      → IfOk r (IsMovedText text cells d moves news)
  is_moved_ok (Ok out) is cut = is_moved out is cut
  is_moved_ok (Err e) is cut = tt

  as_read : (out : DefOut) → out.text ≡ spliced text (edits_of text t (changes_of text t d moves news)) → out.text ≡ spliced text (edits_of text h.statements (changes_of text h.statements d moves news))
  as_read out is = subst (λ (s : DesignText). out.text ≡ spliced text (edits_of text s (changes_of text s d moves news))) same is

  -- these edits stand one behind the other
  pub rising_of : AreMovesIn d.nets moves → AreNewChains d d.chains news → AreRising 0 (length text) (edits_of text t (changes_of text t d moves news))
  rising_of in_nets are = subst (λ (s : DesignText). AreRising 0 (length text) (edits_of text s (changes_of text s d moves news))) (sym same) (rises text cells d h moves in_nets news are)

  pub many_of : AreNewChains d d.chains news → length news ≡ length t.chains
  many_of are = as_many text cells d h news are ∙ ap (λ (s : DesignText). length s.chains) (sym same)

  module _ (in_nets : AreMovesIn d.nets moves) (are : AreNewChains d d.chains news) where
    pub denoted_ok : (r : Result DefOut NoMemory) → IfOk r (λ (out : DefOut). out.text ≡ spliced text (edits_of text t (changes_of text t d moves news))) → IfOk r (λ (out : DefOut). DenotesMoved out.text cells d moves news)
    denoted_ok (Ok out) is = denotes text cells d h moves in_nets news are out.text (as_read out is)
    denoted_ok (Err e) is = tt

    pub erased_ok : (e : Erasing) → ErasesMoves e d.nets moves → (r : Result DefOut NoMemory) → IfOk r (λ (out : DefOut). out.text ≡ spliced text (edits_of text t (changes_of text t d moves news))) → IfOk r (λ (out : DefOut). AreErasedAlike e text out.text)
    erased_ok e so (Ok out) is = erases text cells d h moves in_nets news are out.text (as_read out is) e so
    erased_ok e so (Err f) is = tt
