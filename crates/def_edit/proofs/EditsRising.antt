-- The edits of a text in which pins moved lie in it in their order, and with them it has the words of the text with the changes.
use Rattle.std.proofs.Common.{◌≡◌, ℕ, true, List, [], ◌∷◌, ◌++◌, length, map, Option, Some, None, refl, sym, ap, ◌∙◌, subst, append-nil}
use Rattle.std.specs.List.{flat_map, AllByRecursion as Each}
use Rattle.std.proofs.lemmas.List.Concat.{flat_map-append}
use Rattle.base_types.specs.Names.{plain_name}
use Rattle.cell_table.specs.Cells.{Cells}
use Rattle.token_forms.specs.Tokens.{Token}
use Rattle.token_forms.specs.Parts.{token_texts}
use Rattle.splice.specs.Spliced.{spliced, AreRising}
use Rattle.def_tokens.specs.DefTokens.{tokens_in}
use Rattle.def_tokens.specs.DefStatements.{IsStatementSplit}
use Rattle.def_tokens.proofs.DefCuts.{statements_law}
use Rattle.def_syntax.specs.Frames.{statements_in, within}
use Rattle.def_syntax.specs.Designs.{statements_of, IsDesignText, section_in}
use Rattle.def_syntax.specs.declared.design.DesignText.{DesignText}
use Rattle.def_syntax.specs.declared.design.Located.{Located}
use Rattle.def_syntax.specs.declared.design.Section.{Section as SectionRow}
use Rattle.def_syntax.specs.declared.frame.SectionKind.{SectionKind}
use Rattle.def_syntax.specs.declared.frame.SectionKind.TheVariants.{Components, Pins, Nets, ScanChains}
use Rattle.def_syntax.specs.declared.pin.DesignPin.{DesignPin}
use Rattle.def_syntax.proofs.FrameLaws.{each_front}
use Rattle.def_layout.specs.Words.{is_whole}
use Rattle.def_layout.specs.SectionForms.{is_name}
use Rattle.def_layout.specs.Slices.{StandIn}
use Rattle.def_reader.specs.declared.design.Component.{Component}
use Rattle.def_reader.specs.declared.design.Design.{Design}
use Rattle.def_reader.specs.declared.design.Net.{Net}
use Rattle.def_reader.specs.Designs.{component_of, design_of}
use Rattle.def_reader.specs.Denoted.{DenotesDesign}
use Rattle.def_reader.specs.Faults.{StandsAgain, section_rows, SameSection}
use Rattle.def_edit.specs.Alike.Changes.{Changes, IsFit, block_words, changed_words}
use Rattle.def_edit.specs.Alike.Laws.{AreOnce, HasChanges}
use Rattle.def_edit.proofs.alike.Statements.{Strict, each_strict}
use Rattle.def_edit.proofs.alike.Blocks.{IsOnce, once_of}
use Rattle.def_edit.proofs.alike.Contents.{each_stand, body_is}
use Rattle.def_edit.proofs.alike.Frames.{within_each}
use Rattle.def_edit.specs.declared.pin_moves.PinMove.{PinMove}
use Rattle.def_edit.specs.Moved.{IsMoveIn, AreMovesIn}
use Rattle.def_edit.specs.declared.chains.NewChain.{NewChain}
use Rattle.def_edit.specs.NetChanges.{new_word, pin_changes}
use Rattle.def_edit.specs.MovedText.{changes_of, section_edits, edits_of}
use Rattle.def_edit.proofs.EditsRuns.{IsEdited, unedited, edited_both, edited_as, edited_rising, edited_words}
use Rattle.def_edit.proofs.EditsNames.{component_names}
use Rattle.def_edit.proofs.EditsMoves.{AreChangedWell, rows_of, nets_of, word_whole, nets_changed_well}
use Rattle.def_edit.proofs.EditsNets.{flat, flat_words, flat_texts}
use Rattle.def_edit.proofs.EditsPins.{AreWhole}
use Rattle.def_edit.proofs.EditsBlocks.{InnerIs, each_inner, blocks_edited}

-- statements one behind the other are all tokens
flat_split : (ts : List Token) (ss : List (List Token)) → IsStatementSplit ts ss → ts ≡ flat ss
flat_split ts [] h = h
flat_split ts (s ∷ ss) h = h.0.is ∙ ap (λ (l : List Token). s ++ l) (flat_split h.0.rest ss h.1)

-- no section of a text that denotes a design stands twice
pub once_in : (text : List ℕ) (cells : Cells) (d : Design) (h : DenotesDesign text cells d) → AreOnce h.statements
once_in text cells d h line again = h.once line (SameSection again)

pub nets_are : (text : List ℕ) (cells : Cells) (d : Design) (h : DenotesDesign text cells d) → d.nets ≡ nets_of text h.statements.nets
unfolding design_of
nets_are text cells d h = ap (λ (e : Design). e.nets) h.is

pub components_are : (text : List ℕ) (cells : Cells) (d : Design) (h : DenotesDesign text cells d) → d.components ≡ map component_of h.statements.components
unfolding design_of
components_are text cells d h = ap (λ (e : Design). e.components) h.is

-- of a text whose nets and components these are
module _ (text : List ℕ) (t : DesignText) (r : IsDesignText text t) where
  in_blocks : (P : List Token → Type 0) → Each P (statements_of text) → Each P (flat_map statements_in r.blocks)
  in_blocks P h = subst (Each P) (body_is text t r) (each_front P r.body (r.closed.end ∷ r.closed.behind) (subst (Each P) r.closed.is h))

  stand_within : (kind : SectionKind) → Each (StandIn text) (within kind r.blocks)
  stand_within kind = within_each (StandIn text) kind r.blocks (in_blocks (StandIn text) (each_stand text))

  cut : tokens_in text ≡ flat (flat_map statements_in r.blocks) ++ flat (r.closed.end ∷ r.closed.behind)
  cut =
      flat_split (tokens_in text) (statements_of text) (statements_law (tokens_in text)) ∙ ap flat r.closed.is ∙ ap (λ (ss : List (List Token)). flat (ss ++ r.closed.end ∷ r.closed.behind)) (body_is text t r)
      ∙ flat_map-append (λ s. s) (flat_map statements_in r.blocks) (r.closed.end ∷ r.closed.behind)

  inner_is : (c : Changes) (kind : SectionKind) → InnerIs text t c kind (within kind r.blocks)
  inner_is c Components = tt
  inner_is c Pins = r.pins
  inner_is c Nets = r.nets
  inner_is c ScanChains = tt

  -- all tokens of the text
  text_edited : (c : Changes) → AreOnce t → IsFit t c → AreWhole c.pins → AreChangedWell t.nets c.nets → IsEdited text (tokens_in text) (edits_of text t c) (flat_words (changed_words text t c r))
  text_edited c once fit whole changed =
      let is_once : IsOnce r.blocks = once_of text r.blocks (subst (λ sections. (line : ℕ) → StandsAgain (section_rows sections) line → ⊥) r.sections once) in
      let inner = each_inner (InnerIs text t c) r.blocks is_once (λ kind has. inner_is c kind) in
      let ending = flat (r.closed.end ∷ r.closed.behind) in
      let blocks = blocks_edited text t c whole changed fit.well r.blocks [] ending cut (in_blocks Strict (each_strict text)) r.framed.blocks inner in
      let all = edited_both text (flat (flat_map statements_in r.blocks)) ending _ [] _ (token_texts ending) blocks (unedited text ending) in
      let edits : flat_map (λ (s : SectionRow). section_edits text t c s.kind s.span) (flat_map (section_in text) r.blocks) ++ [] ≡ edits_of text t c =
      append-nil _ ∙ ap (flat_map (λ (s : SectionRow). section_edits text t c s.kind s.span)) (sym r.sections)
      in
      let words : flat_words (flat_map (block_words text t c) r.blocks) ++ token_texts ending ≡ flat_words (changed_words text t c r) =
      ap (λ (l : List (List ℕ)). flat_words (flat_map (block_words text t c) r.blocks) ++ l) (flat_texts (r.closed.end ∷ r.closed.behind))
      ∙ sym (flat_map-append (λ w. w) (flat_map (block_words text t c) r.blocks) (map token_texts (r.closed.end ∷ r.closed.behind)))
      in
      edited_as text _ _ _ _ _ _ (sym cut) edits words all

  pins_whole : (moves : List PinMove) → Each (IsMoveIn (nets_of text t.nets)) moves → (xs : List (Located DesignPin)) → AreWhole (map (λ p. new_word (rows_of text t.nets) (nets_of text t.nets) moves (plain_name p.statement.name)) xs)
  pins_whole moves in_nets [] = tt
  pins_whole moves in_nets (x ∷ xs) =
      put (new_word (rows_of text t.nets) (nets_of text t.nets) moves (plain_name x.statement.name)) _ (λ w e. word_whole text (within Nets r.blocks) t.nets r.nets (stand_within Nets) moves in_nets (plain_name x.statement.name) w e)
      (pins_whole moves in_nets xs)
    where
      put : (o : Option (List ℕ)) (os : List (Option (List ℕ))) → ((w : List ℕ) → o ≡ Some w → is_whole w ≡ true) → AreWhole os → AreWhole (o ∷ os)
      put None os h more = more
      put (Some w) os h more = (h w refl, more)

  moved_edited : (d : Design) → d.nets ≡ nets_of text t.nets → d.components ≡ map component_of t.components → (moves : List PinMove) (news : List NewChain) → AreMovesIn d.nets moves → AreOnce t → IsFit t (changes_of text t d moves news)
      → IsEdited text (tokens_in text) (edits_of text t (changes_of text t d moves news)) (flat_words (changed_words text t (changes_of text t d moves news) r))
  moved_edited d nets components moves news in_nets once fit =
      let each = subst (λ (ns : List Net). Each (IsMoveIn ns) moves) nets in_nets.each in
      let whole : AreWhole (pin_changes text t d.nets moves) = subst (λ (ns : List Net). AreWhole (pin_changes text t ns moves)) (sym nets) (pins_whole moves each t.pins) in
      let named : Each (λ (c : Component). is_name c.text ≡ true) d.components =
      subst (Each (λ (c : Component). is_name c.text ≡ true)) (sym components) (component_names text (within Components r.blocks) t.components r.components (stand_within Components))
      in
      let changed = nets_changed_well text (within Nets r.blocks) t.nets r.nets (stand_within Nets) d.components named moves each in
      text_edited (changes_of text t d moves news) once fit whole changed

module _ (text : List ℕ) (cells : Cells) (d : Design) (h : DenotesDesign text cells d) (moves : List PinMove) (news : List NewChain) (in_nets : AreMovesIn d.nets moves) (fit : IsFit h.statements (changes_of text h.statements d moves news)) where
  abbrev t : DesignText
  t = h.statements

  abbrev c : Changes
  c = changes_of text t d moves news

  edited : IsEdited text (tokens_in text) (edits_of text t c) (flat_words (changed_words text t c h.reads))
  edited = moved_edited text t h.reads d (nets_are text cells d h) (components_are text cells d h) moves news in_nets (once_in text cells d h) fit

  -- the edits lie in the text in their order, with a byte at least between two of them
  pub rising : AreRising 0 (length text) (edits_of text t c)
  rising = edited_rising text (edits_of text t c) (flat_words (changed_words text t c h.reads)) edited

  -- with them made, the text has the words of the text with the changes
  pub has_changes : HasChanges text t c h.reads (spliced text (edits_of text t c))
  has_changes = edited_words text (edits_of text t c) (flat_words (changed_words text t c h.reads)) edited
