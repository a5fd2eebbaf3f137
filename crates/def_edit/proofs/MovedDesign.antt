-- What a text with the changes of moves and new chains denotes.
use Rattle.std.proofs.Common.{◌≡◌, ℕ, true, List, [], ◌∷◌, map, Option, refl, sym, ap, ◌∙◌}
use Rattle.std.specs.Prelude.{ℤ, option_map}
use Rattle.base_types.specs.declared.span.Span.{Span}
use Rattle.cell_table.specs.Cells.{Cells}
use Rattle.token_forms.specs.Parts.{token_texts}
use Rattle.def_syntax.specs.Designs.{statements_of}
use Rattle.def_reader.specs.declared.design.Component.{Component}
use Rattle.def_reader.specs.declared.design.Design.{Design}
use Rattle.def_reader.specs.declared.design.DesignPin.{DesignPin}
use Rattle.def_reader.specs.declared.design.Net.{Net}
use Rattle.def_reader.specs.declared.design.ScanChainText.{ScanChainText}
use Rattle.def_reader.specs.Designs.{component_of, pin_of, design_of}
use Rattle.def_reader.specs.Denoted.{DenotesDesign}
use Rattle.def_reader.specs.Faults.{SameSection}
use Rattle.def_edit.specs.Alike.Changes.{changed_words}
use Rattle.def_edit.specs.Alike.Fields.{nowhere, component_fields, pin_fields, chain_fields, fields, chain_read, changed_fields}
use Rattle.def_edit.specs.Alike.Laws.{AreOnce, HasChanges}
use Rattle.def_edit.proofs.alike.Cutting.{cut_law}
use Rattle.def_edit.proofs.alike.Alike.{alike_law}
use Rattle.def_edit.proofs.alike.Designs.{design_law}
use Rattle.def_edit.specs.declared.pin_moves.PinMove.{PinMove}
use Rattle.def_edit.specs.Moved.{moved_pin, AreMovesIn}
use Rattle.def_edit.specs.declared.chains.NewChain.{NewChain}
use Rattle.def_edit.specs.NetChanges.{net_rows}
use Rattle.def_edit.specs.NewChains.{chain_layouts, new_chains_of, AreNewChains}
use Rattle.def_edit.specs.MovedText.{changes_of, moved_design, DenotesMoved}
use Rattle.def_edit.proofs.MovedPins.{pins_moved}
use Rattle.def_edit.proofs.MovedChains.{chains_back}
use Rattle.def_edit.proofs.MovedFit.{components_are, chains_are, plain_components, rows_are, chains_new, fit, nets_moved, sound}

abbrev design_with : ℤ → List Component → List DesignPin → List Net → List ScanChainText → Option Span → Design
design_with a cs ps ns hs s = record { units = a; components = cs; pins = ps; nets = ns; chains = hs; chains_span = s }

same_design : (a b : ℤ) (cs ds : List Component) (ps qs : List DesignPin) (ns ms : List Net) (hs ks : List ScanChainText) (s r : Option Span) → a ≡ b → cs ≡ ds → ps ≡ qs → ns ≡ ms → hs ≡ ks → s ≡ r
    → design_with a cs ps ns hs s ≡ design_with b ds qs ms ks r
same_design a b cs ds ps qs ns ms hs ks s r e f g h i j = rw (e, f, g, h, i, j) refl

module _ (text : List ℕ) (cells : Cells) (d : Design) (h : DenotesDesign text cells d) where
  pub pins_are : d.pins ≡ map pin_of h.statements.pins
  unfolding design_of
  pins_are = ap (λ (e : Design). e.pins) h.is

  -- no section stands twice
  pub sections_once : AreOnce h.statements
  sections_once = λ line again. h.once line (SameSection again)

  module _ (moves : List PinMove) (news : List NewChain) (are : AreMovesIn d.nets moves) (new : AreNewChains d d.chains news) where
    chains_same : map (chain_read cells (map component_of h.statements.components)) (chain_layouts d.components h.statements.chains news) ≡ map chain_fields (new_chains_of d.chains news)
    chains_same =
        let cs = map component_of h.statements.components in
        ap (λ (l : List Component). map (chain_read cells cs) (chain_layouts l h.statements.chains news)) (components_are text cells d h)
        ∙ chains_back cells cs (plain_components text cells d h) d (components_are text cells d h) h.statements.chains news (chains_new text cells d h moves news are new)
        ∙ ap (λ (l : List ScanChainText). map chain_fields (new_chains_of l news)) (sym (chains_are text cells d h))

    -- the design with the changes is the design behind the moves
    pub same_fields : changed_fields text cells h.statements (changes_of text h.statements d moves news) ≡ fields (moved_design d moves news)
    unfolding changed_fields fields design_of
    same_fields =
        same_design _ _ _ _ _ _ _ _ _ _ _ _
        (sym (ap (λ (e : Design). e.units) h.is))
        (sym (ap (map component_fields) (components_are text cells d h)))
        (pins_moved d.nets (net_rows text h.statements) (rows_are text cells d h) moves h.statements.pins ∙ ap (λ (l : List DesignPin). map pin_fields (map (moved_pin d.nets moves) l)) (sym pins_are))
        (nets_moved text cells d h moves news are new)
        chains_same
        (sym (ap (λ (e : Design). option_map (λ (s : Span). nowhere) e.chains_span) h.is))

    -- a text of these words denotes it
    pub denotes_words : (written : List ℕ) → map token_texts (statements_of written) ≡ changed_words text h.statements (changes_of text h.statements d moves news) h.reads → DenotesMoved written cells d moves news
    denotes_words written e =
        let c = changes_of text h.statements d moves news in
        let alike = alike_law text h.statements h.reads c written sections_once (fit text cells d h moves news are new) e in
        let made = design_law text cells d h c written alike.value alike.is alike.changed (sound text cells d h moves news are new) in
        record { placed = design_of written cells alike.value; denoted = made.denoted; is = made.is ∙ same_fields }

    pub words_are : (written : List ℕ) → HasChanges text h.statements (changes_of text h.statements d moves news) h.reads written
        → map token_texts (statements_of written) ≡ changed_words text h.statements (changes_of text h.statements d moves news) h.reads
    words_are written e = cut_law text h.statements h.reads (changes_of text h.statements d moves news) written sections_once (fit text cells d h moves news are new) e

    -- so does a text that has the changes
    pub denotes_moved : (written : List ℕ) → HasChanges text h.statements (changes_of text h.statements d moves news) h.reads written → DenotesMoved written cells d moves news
    denotes_moved written e = denotes_words written (words_are written e)
