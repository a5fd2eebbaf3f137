-- A text of DEF that has the words of another with changes is the same once these are erased.
use Rattle.std.proofs.Common.{◌≡◌, ℕ, Bool, true, false, if◌then◌else◌, List, [], ◌∷◌, ◌++◌, map, codes, Option, Some, None, refl, sym, ap, ◌∙◌, subst, append_assoc, append-nil}
use Rattle.std.specs.List.{flat_map, filter_map, AllByRecursion as Each}
use Rattle.std.specs.Str.{bytes_eq}
use Rattle.std.proofs.lemmas.List.{map-append}
use Rattle.std.proofs.lemmas.Bool.{or_parts}
use Rattle.cell_table.specs.Cells.{Cells}
use Rattle.token_forms.specs.Tokens.{Token}
use Rattle.token_forms.specs.Parts.{token_texts}
use Rattle.def_syntax.specs.Frames.{word_of, section_named, opened_by, is_end, NoneEnds, Block, Outside, Section, IsBlock, statements_in, within}
use Rattle.def_syntax.specs.Designs.{statements_of}
use Rattle.def_syntax.specs.declared.frame.SectionKind.{SectionKind}
use Rattle.def_syntax.specs.declared.frame.SectionKind.TheVariants.{Components, Pins, Nets, ScanChains}
use Rattle.def_syntax.specs.declared.design.DesignText.{DesignText}
use Rattle.def_syntax.proofs.FrameLaws.{each_front, each_behind}
use Rattle.def_layout.specs.declared.chains.ChainLayout.{ChainLayout}
use Rattle.def_layout.specs.NetForms.{AreIn}
use Rattle.def_layout.specs.Slices.{StandIn}
use Rattle.def_layout.specs.Sections.{chain_lines}
use Rattle.def_layout.specs.SectionForms.{chain_words}
use Rattle.def_reader.specs.declared.design.Design.{Design}
use Rattle.def_reader.specs.declared.design.Net.{Net}
use Rattle.def_reader.specs.Designs.{net_of, design_of}
use Rattle.def_reader.specs.Denoted.{DenotesDesign}
use Rattle.def_reader.specs.Faults.{StandsAgain, section_rows, SameSection}
use Rattle.def_edit.specs.Alike.Changes.{Changes, first_words, inner_words, block_words, changed_words}
use Rattle.def_edit.proofs.alike.Lists.{each_weaker}
use Rattle.def_edit.proofs.alike.SameNets.{stand_in}
use Rattle.def_edit.proofs.alike.Statements.{Strict, each_strict}
use Rattle.def_edit.proofs.alike.Blocks.{has_kind, same_kind, IsOnce, once_of}
use Rattle.def_edit.proofs.alike.Frames.{within_each}
use Rattle.def_edit.proofs.alike.Contents.{each_stand, body_is}
use Rattle.def_edit.specs.declared.pin_moves.PinMove.{PinMove}
use Rattle.def_edit.specs.declared.chains.NewChain.{NewChain}
use Rattle.def_edit.specs.NetChanges.{net_rows}
use Rattle.def_edit.specs.MovedText.{changes_of}
use Rattle.def_edit.specs.ErasedDef.{Erasing, erased_inside, erased_mark, opens, is_end_of, erased_from, AreErasedAlike, ErasesMoves}
use Rattle.def_edit.proofs.ErasedSinks.{each_of, AreRows, MovesSink}
use Rattle.def_edit.proofs.ErasedComponents.{keeps_pins, components_plainly}
use Rattle.def_edit.proofs.ErasedSections.{end_words, AreOpen, open_texts, are_rows, rows_named, MovesFree, AreSame, pins_same, nets_same}

opens_words : (s : List Token) → opens (token_texts s) ≡ opened_by s
opens_words [] = refl
opens_words (t ∷ s) = refl

-- statements within a section
inner_run : (e : Erasing) (kind : SectionKind) (ws rest : List (List (List ℕ))) → AreOpen (word_of kind) ws → erased_from e (Some kind) (ws ++ rest) ≡ flat_map (erased_inside e kind) ws ++ erased_from e (Some kind) rest
unfolding erased_from
inner_run e kind [] rest h = refl
inner_run e kind (w ∷ ws) rest h =
    rw (h.0) (ap (λ (l : List (List (List ℕ))). erased_inside e kind w ++ l) (inner_run e kind ws rest h.1) ∙ sym (append_assoc (erased_inside e kind w) (flat_map (erased_inside e kind) ws) (erased_from e (Some kind) rest)))

abbrev behind_first : Erasing → List (List ℕ) → List (List (List ℕ)) → Option SectionKind → List (List (List ℕ))
behind_first e s ss o = elim o [ None ↦ s ∷ erased_from e None ss | Some kind ↦ erased_mark kind s ++ erased_from e (Some kind) ss ]

first_run : (e : Erasing) (s : List (List ℕ)) (ss : List (List (List ℕ))) (o : Option SectionKind) → is_end_of (codes "DESIGN") s ≡ false → opens s ≡ o → erased_from e None (s ∷ ss) ≡ behind_first e s ss o
unfolding erased_from
first_run e s ss o a b = ap (λ (x : Bool). if x then s ∷ ss else behind_first e s ss (opens s)) a ∙ ap (behind_first e s ss) b

last_run : (e : Erasing) (kind : SectionKind) (s : List (List ℕ)) (ss : List (List (List ℕ))) → is_end_of (word_of kind) s ≡ true → erased_from e (Some kind) (s ∷ ss) ≡ erased_mark kind s ++ erased_from e None ss
unfolding erased_from
last_run e kind s ss h = rw h refl

section_run : (e : Erasing) (kind : SectionKind) (first last : List (List ℕ)) (ws rest : List (List (List ℕ))) → is_end_of (codes "DESIGN") first ≡ false → opens first ≡ Some kind → AreOpen (word_of kind) ws → is_end_of (word_of kind) last ≡ true
    → erased_from e None ((first ∷ (ws ++ last ∷ [])) ++ rest) ≡ erased_mark kind first ++ (flat_map (erased_inside e kind) ws ++ (erased_mark kind last ++ erased_from e None rest))
section_run e kind first last ws rest a b none ends =
    first_run e first ((ws ++ last ∷ []) ++ rest) (Some kind) a b
    ∙ ap (λ (l : List (List (List ℕ))). erased_mark kind first ++ erased_from e (Some kind) l) (append_assoc ws (last ∷ []) rest)
    ∙ ap (λ (l : List (List (List ℕ))). erased_mark kind first ++ l) (inner_run e kind ws (last ∷ rest) none)
    ∙ ap (λ (l : List (List (List ℕ))). erased_mark kind first ++ (flat_map (erased_inside e kind) ws ++ l)) (last_run e kind last rest ends)

-- without a section of a kind
within_none : (kind : SectionKind) (bs : List Block) → has_kind kind bs ≡ false → within kind bs ≡ []
within_none kind [] h = refl
within_none kind (Outside s ∷ bs) h = within_none kind bs h
within_none kind (Section other first inner last ∷ bs) h =
    let f = or_parts (bytes_eq (word_of kind) (word_of other)) (has_kind kind bs) h in
    rw (f.0) (within_none kind bs f.1)

-- of a section this holds
abbrev InBlock : (SectionKind → List (List Token) → Type 0) → Block → Type 0
InBlock P (Outside s) = Unit {0}
InBlock P (Section kind first inner last) = P kind inner

-- what holds of the statements within the sections of each kind holds of each section, where none of a kind stands twice
each_section : (P : SectionKind → List (List Token) → Type 0) → ((kind : SectionKind) → P kind []) → (bs : List Block) → IsOnce bs → ((kind : SectionKind) → P kind (within kind bs)) → Each (InBlock P) bs
each_section P none [] once h = tt
each_section P none (Outside s ∷ bs) once h = (tt, each_section P none bs once h)
each_section P none (Section kind first inner last ∷ bs) once h =
    (subst (P kind) (here kind ∙ ap (λ (l : List (List Token)). inner ++ l) (within_none kind bs once.0) ∙ append-nil inner) (h kind), each_section P none bs once.1 (λ j. there j (bytes_eq (word_of j) (word_of kind)) refl (h j)))
  where
    here : (k : SectionKind) → within k (Section k first inner last ∷ bs) ≡ inner ++ within k bs
    here Components = refl
    here Pins = refl
    here Nets = refl
    here ScanChains = refl

    there : (j : SectionKind) (b : Bool) → bytes_eq (word_of j) (word_of kind) ≡ b → P j ((if b then inner else []) ++ within j bs) → P j (within j bs)
    there j true f p =
        let same = same_kind j kind f in
        subst (P j) (sym (within_none j bs (ap (λ (k : SectionKind). has_kind k bs) same ∙ once.0))) (none j)
    there j false f p = p

chains_open : (cs : List ChainLayout) → AreOpen (word_of ScanChains) (map chain_words cs)
unfolding chain_lines
chains_open [] = tt
chains_open (c ∷ cs) = (dashed c.name _, chains_open cs)
  where
    dashed : (name : List ℕ) (ws : List (List ℕ)) → is_end_of (word_of ScanChains) (codes "-" ∷ name ∷ ws) ≡ false
    dashed name [] = refl
    dashed name (w ∷ ws) = refl

none_inside : (e : Erasing) (ws : List (List (List ℕ))) → flat_map (erased_inside e ScanChains) ws ≡ []
none_inside e [] = refl
none_inside e (w ∷ ws) = none_inside e ws

module _ (e : Erasing) (text : List ℕ) (t : DesignText) (c : Changes) where
  -- a section's statements with the changes are the same once erased
  abbrev IsSame : SectionKind → List (List Token) → Type 0
  IsSame kind inner = NoneEnds kind inner → AreSame e kind (inner_words text t c kind inner) inner

  first_open : (kind : SectionKind) (first : List Token) → is_end (codes "DESIGN") first ≡ false → is_end_of (codes "DESIGN") (first_words c kind first) ≡ false
  first_open Components first h = end_words (codes "DESIGN") first ∙ h
  first_open Pins first h = end_words (codes "DESIGN") first ∙ h
  first_open Nets first h = end_words (codes "DESIGN") first ∙ h
  first_open ScanChains first h = refl

  first_opens : (kind : SectionKind) (first : List Token) → opened_by first ≡ Some kind → opens (first_words c kind first) ≡ Some kind
  unfolding section_named
  first_opens Components first h = opens_words first ∙ h
  first_opens Pins first h = opens_words first ∙ h
  first_opens Nets first h = opens_words first ∙ h
  first_opens ScanChains first h = refl

  first_mark : (kind : SectionKind) (first : List Token) → erased_mark kind (first_words c kind first) ≡ erased_mark kind (token_texts first)
  first_mark Components first = refl
  first_mark Pins first = refl
  first_mark Nets first = refl
  first_mark ScanChains first = refl

  abbrev written : List Block → List (List (List ℕ))
  written bs = flat_map (block_words text t c) bs

  abbrev read : List Block → List (List (List ℕ))
  read bs = map token_texts (flat_map statements_in bs)

  blocks_run : (bs : List Block) (rest : List (List (List ℕ))) → Each IsBlock bs → Each (λ s. is_end (codes "DESIGN") s ≡ false) (flat_map statements_in bs) → Each (InBlock IsSame) bs
      → erased_from e None (written bs ++ rest) ≡ erased_from e None (read bs ++ rest)
  blocks_run [] rest h open_all same = refl
  blocks_run (Outside s ∷ bs) rest h open_all same =
      let a = end_words (codes "DESIGN") s ∙ open_all.0 in
      let b = opens_words s ∙ h.0 in
      first_run e (token_texts s) (written bs ++ rest) None a b ∙ ap (λ (l : List (List (List ℕ))). token_texts s ∷ l) (blocks_run bs rest h.1 open_all.1 same.1) ∙ sym (first_run e (token_texts s) (read bs ++ rest) None a b)
  blocks_run (Section kind first inner last ∷ bs) rest h open_all same =
      let statements = first ∷ (inner ++ last ∷ []) in
      let here = each_front (λ s. is_end (codes "DESIGN") s ≡ false) statements (flat_map statements_in bs) open_all in
      let behind = each_behind (λ s. is_end (codes "DESIGN") s ≡ false) statements (flat_map statements_in bs) open_all in
      let one = same.0 h.0.1 in
      let ends = end_words (word_of kind) last ∙ h.0.2 in
      let new = inner_words text t c kind inner in
      let old = map token_texts inner in
      let cut : read (Section kind first inner last ∷ bs) ++ rest ≡ (token_texts first ∷ (old ++ token_texts last ∷ [])) ++ (read bs ++ rest) =
      ap (λ (l : List (List (List ℕ))). l ++ rest) (map-append token_texts statements (flat_map statements_in bs) ∙ ap (λ (l : List (List (List ℕ))). (token_texts first ∷ l) ++ read bs) (map-append token_texts inner (last ∷ [])))
      ∙ append_assoc (token_texts first ∷ (old ++ token_texts last ∷ [])) (read bs) rest
      in
      ap (erased_from e None) (append_assoc (first_words c kind first ∷ (new ++ token_texts last ∷ [])) (written bs) rest)
      ∙ section_run e kind (first_words c kind first) (token_texts last) new (written bs ++ rest) (first_open kind first here.0) (first_opens kind first h.0.0) one.open_all ends
      ∙ ap (λ (l : List (List (List ℕ))). l ++ (flat_map (erased_inside e kind) new ++ (erased_mark kind (token_texts last) ++ erased_from e None (written bs ++ rest)))) (first_mark kind first)
      ∙ ap (λ (l : List (List (List ℕ))). erased_mark kind (token_texts first) ++ (l ++ (erased_mark kind (token_texts last) ++ erased_from e None (written bs ++ rest)))) one.same
      ∙ ap (λ (l : List (List (List ℕ))). erased_mark kind (token_texts first) ++ (flat_map (erased_inside e kind) old ++ (erased_mark kind (token_texts last) ++ l))) (blocks_run bs rest h.1 behind same.1)
      ∙ sym (section_run e kind (token_texts first) (token_texts last) old (read bs ++ rest) (end_words (codes "DESIGN") first ∙ here.0) (opens_words first ∙ h.0.0) (open_texts (word_of kind) inner h.0.1) ends)
      ∙ ap (erased_from e None) (sym cut)

design_nets : (text : List ℕ) (cells : Cells) (d : Design) (t : DesignText) → d ≡ design_of text cells t → d.nets ≡ filter_map (net_of text) t.nets
unfolding design_of
design_nets text cells d t e = ap (λ (x : Design). x.nets) e

module _ (text : List ℕ) (cells : Cells) (d : Design) (h : DenotesDesign text cells d) (moves : List PinMove) (news : List NewChain) where
  abbrev changes : Changes
  changes = changes_of text h.statements d moves news

  -- what holds of each statement of the text holds of those of its blocks
  in_blocks : (P : List Token → Type 0) → Each P (statements_of text) → Each P (flat_map statements_in h.reads.blocks)
  in_blocks P all =
      let r = h.reads in
      subst (Each P) (body_is text h.statements r) (each_front P r.body (r.closed.end ∷ r.closed.behind) (subst (Each P) r.closed.is all))

  module _ (e : Erasing) (erases : ErasesMoves e d.nets moves) where
    sections_same : (kind : SectionKind) → IsSame e text h.statements changes kind (within kind h.reads.blocks)
    sections_same Components = λ none. record { open_all = open_texts (word_of Components) _ none; same = refl }
    sections_same Pins = λ none.
        let r = h.reads in
        let t = h.statements in
        let nets_in_text = each_weaker (StandIn text) (AreIn text) (within Nets r.blocks) (stand_in text) (within_each (StandIn text) Nets r.blocks (in_blocks (StandIn text) (each_stand text))) in
        pins_same e text (net_rows text t) d.nets moves (rows_named text (within Nets r.blocks) t.nets r.nets nets_in_text) (each_of (MovesFree e d.nets) moves (λ m there name. erases.ports m name there))
        (within Pins r.blocks) t.pins r.pins (within_each Strict Pins r.blocks (in_blocks Strict (each_strict text))) none
    sections_same Nets = λ none.
        let r = h.reads in
        let t = h.statements in
        let nets_are = design_nets text cells d t h.is in
        let nets_in_text = each_weaker (StandIn text) (AreIn text) (within Nets r.blocks) (stand_in text) (within_each (StandIn text) Nets r.blocks (in_blocks (StandIn text) (each_stand text))) in
        let rows = subst (λ (ns : List Net). AreRows (net_rows text t) ns) (sym nets_are) (are_rows text t.nets) in
        nets_same e text d.components (keeps_pins d.components (components_plainly text cells d t h.is)) (net_rows text t) d.nets rows moves (each_of (MovesSink e d.nets) moves (λ m there pin. erases.sinks m pin there)) erases.changed
        (within Nets r.blocks) t.nets [] 0 nets_are refl r.nets nets_in_text none
    sections_same ScanChains = λ none. record { open_all = chains_open changes.chains; same = none_inside e (map chain_words changes.chains) ∙ sym (none_inside e (map token_texts (within ScanChains h.reads.blocks))) }

    no_statements : (kind : SectionKind) → IsSame e text h.statements changes kind []
    no_statements Components = λ none. record { open_all = tt; same = refl }
    no_statements Pins = λ none. record { open_all = tt; same = refl }
    no_statements Nets = λ none. record { open_all = tt; same = refl }
    no_statements ScanChains = λ none. record { open_all = chains_open changes.chains; same = none_inside e (map chain_words changes.chains) }

    pub erased : (written : List ℕ) → map token_texts (statements_of written) ≡ changed_words text h.statements changes h.reads → AreErasedAlike e text written
    erased written is =
        let r = h.reads in
        let once = once_of text r.blocks (subst (λ sections. (line : ℕ) → StandsAgain (section_rows sections) line → ⊥) r.sections (λ line again. h.once line (SameSection again))) in
        let last = map token_texts (r.closed.end ∷ r.closed.behind) in
        let open_all = subst (Each (λ s. is_end (codes "DESIGN") s ≡ false)) (body_is text h.statements r) r.closed.first in
        let all = each_section (IsSame e text h.statements changes) no_statements r.blocks once sections_same in
        let old : map token_texts (statements_of text) ≡ map token_texts (flat_map statements_in r.blocks) ++ last =
        ap (map token_texts) r.closed.is ∙ map-append token_texts r.body (r.closed.end ∷ r.closed.behind) ∙ ap (λ (b : List (List Token)). map token_texts b ++ last) (body_is text h.statements r)
        in
        ap (erased_from e None) is ∙ blocks_run e text h.statements changes r.blocks last r.framed.blocks open_all all ∙ ap (erased_from e None) (sym old)
