-- The changes of moves and new chains fit a text and are sound.
use Rattle.std.proofs.Common.{◌≡◌, ℕ, suc, ◌+◌, ◌<◌, Bool, true, false, ◌&&◌, List, [], ◌∷◌, ◌++◌, length, map, Option, Some, None, refl, sym, ap, ◌∙◌, subst, arith}
use Rattle.std.specs.Prelude.{option_map, not}
use Rattle.std.specs.List.{find, flat_map, filter_map, list_all, AllByRecursion as Each}
use Rattle.std.specs.Str.{bytes_eq}
use Rattle.std.proofs.lemmas.Bool.{and_from}
use Rattle.base_types.specs.Names.{plain_name}
use Rattle.cell_table.specs.Cells.{Cells}
use Rattle.def_tokens.specs.Numbers.{integer_of}
use Rattle.def_syntax.specs.Grammar.{component, net, chain}
use Rattle.def_syntax.specs.Pieces.{some_list}
use Rattle.def_syntax.specs.Frames.{within}
use Rattle.def_syntax.specs.Designs.{IsDesignText}
use Rattle.def_syntax.specs.declared.frame.SectionKind.TheVariants.{Components, Nets, ScanChains}
use Rattle.def_syntax.specs.declared.design.DesignText.{DesignText}
use Rattle.def_syntax.specs.declared.design.Located.{Located}
use Rattle.def_syntax.specs.declared.chain.Chain.{Chain}
use Rattle.def_syntax.specs.declared.chain.CommonPins.{CommonPins}
use Rattle.def_syntax.specs.declared.chain.Partition.{Partition}
use Rattle.def_syntax.specs.declared.chain.Terminal.{Terminal}
use Rattle.def_syntax.specs.declared.chain.Terminal.TheVariants as terminals
use Rattle.def_syntax.specs.declared.component.Component.{Component as ComponentText}
use Rattle.def_syntax.specs.declared.pin.DesignPin.{DesignPin as PinText}
use Rattle.def_syntax.specs.declared.net.NetStatement.{NetStatement}
use Rattle.def_syntax.proofs.FrameLaws.{each_front}
use Rattle.def_reader.specs.declared.design.Component.{Component}
use Rattle.def_reader.specs.declared.design.Design.{Design}
use Rattle.def_reader.specs.declared.design.EndText.{EndText}
use Rattle.def_reader.specs.declared.design.EndText.TheVariants as ends
use Rattle.def_reader.specs.declared.design.Net.{Net}
use Rattle.def_reader.specs.declared.design.ScanChainText.{ScanChainText}
use Rattle.def_reader.specs.Designs.{component_of, net_of, end_of, chain_of, design_of}
use Rattle.def_reader.specs.Denoted.{DenotesDesign}
use Rattle.def_reader.specs.Faults.{StandsAgain, connection_rows}
use Rattle.def_layout.specs.declared.chains.ChainLayout.{ChainLayout}
use Rattle.def_layout.specs.SectionForms.{is_name, names_element, names_terminal, names_partition, names_list, is_written_well}
use Rattle.def_layout.specs.Slices.{StandIn}
use Rattle.def_edit.specs.Alike.Changes.{NetWords, net_in, names_word, if_some, IsFit}
use Rattle.def_edit.specs.Alike.Fields.{net_fields, net_of_words, nets_of_words, nets_in, changed_nets}
use Rattle.def_edit.specs.Alike.Laws.{HasFewBits, IsFew, HasFewMost, IsWithin, AreSound}
use Rattle.def_edit.proofs.alike.Contents.{each_stand, body_is}
use Rattle.def_edit.proofs.alike.Frames.{within_each}
use Rattle.def_edit.specs.declared.pin_moves.PinMove.{PinMove}
use Rattle.def_edit.specs.Moved.{moving_pin, is_port, moved_nets, AreMovesIn}
use Rattle.def_edit.specs.declared.chains.NewElement.{NewElement}
use Rattle.def_edit.specs.declared.chains.NewChain.{NewChain}
use Rattle.def_edit.specs.Words.{word_for, end_word}
use Rattle.def_edit.specs.NetChanges.{net_rows, net_changes_from, new_word}
use Rattle.def_edit.specs.NewChains.{element_layout, terminal_layout, max_bits, partition_layout, chain_layout, chain_layouts, is_plain, IsNewElement, IsNewEnd, IsNewChain, AreNewChains}
use Rattle.def_edit.specs.MovedText.{changes_of}
use Rattle.def_edit.proofs.MovedNets.{nets_same, rows_same, moved_same}
use Rattle.def_edit.proofs.MovedWords.{ArePlain, port, reads_same, end_no_port}
use Rattle.def_edit.proofs.MovedChains.{Side, few_most}
use Rattle.def_edit.proofs.MovedOnce.{once_law, none_again}
use Rattle.def_edit.proofs.MovedRead.{IsSeen, body_seen, located_each, IsEnd, IsPartIf, IsChain, chain_seen, component_seen}
use Rattle.def_edit.proofs.MovedNames.{word_name, read_plain, name_plain, AreNamed, found_has, end_has, IsRow, IsRowIf, net_row, rows_all, changes_named, word_named}

each_map : {X Y : Type 0} (P : Y → Type 0) (f : X → Y) (xs : List X) → Each (λ x. P (f x)) xs → Each P (map f xs)
each_map P f [] h = tt
each_map P f (x ∷ xs) h = (h.0, each_map P f xs h.1)

each_weaker : {X : Type 0} (P Q : X → Type 0) → ((x : X) → P x → Q x) → (xs : List X) → Each P xs → Each Q xs
each_weaker P Q f [] h = tt
each_weaker P Q f (x ∷ xs) h = (f x h.0, each_weaker P Q f xs h.1)

map_length : {X Y : Type 0} (f : X → Y) (xs : List X) → length (map f xs) ≡ length xs
map_length f [] = refl
map_length f (x ∷ xs) = ap suc (map_length f xs)

are_plain : (cs : List (Located ComponentText)) → ArePlain (map component_of cs)
are_plain [] = tt
are_plain (c ∷ cs) = (refl, are_plain cs)

changes_length : (cs : List Component) (rows : List NetWords) (moves : List PinMove) (k : ℕ) (xs : List (Option NetWords)) → length (net_changes_from cs rows moves k xs) ≡ length xs
unfolding net_changes_from
changes_length cs rows moves k [] = refl
changes_length cs rows moves k (None ∷ xs) = ap suc (changes_length cs rows moves k xs)
changes_length cs rows moves k (Some row ∷ xs) = ap suc (changes_length cs rows moves (k + 1) xs)

pins_named : (rows : List NetWords) → Each IsRow rows → (cs : List Component) → AreNamed cs → (nets : List Net) (moves : List PinMove) (ps : List (Located PinText))
    → list_all (if_some names_word) (map (λ p. new_word rows nets moves (plain_name p.statement.name)) ps) ≡ true
pins_named rows all cs named nets moves [] = refl
pins_named rows all cs named nets moves (p ∷ ps) =
    and_from (if_some names_word (new_word rows nets moves (plain_name p.statement.name))) _ (word_named cs named rows all (find (λ m. is_port (plain_name p.statement.name) (moving_pin nets m)) moves))
    (pins_named rows all cs named nets moves ps)

partition_named : (o : Option Partition) → IsPartIf o → names_partition (option_map partition_layout o) ≡ true
partition_named None h = refl
partition_named (Some p) h = word_name p.name (read_plain p.name h)

partition_few : (o : Option Partition) → HasFewMost (option_map partition_layout o)
partition_few None = tt
partition_few (Some p) = of p.max_bits
  where
    of : (o : Option (List ℕ)) → IsFew (max_bits o)
    of None = tt
    of (Some w) = few_most (integer_of w)

abbrev is_cell : EndText → Bool
is_cell (ends.Port name) = false
is_cell (ends.Cell c pin) = true

abbrev at_cell : Terminal → Bool
at_cell (terminals.AtPin pin) = false
at_cell (terminals.AtCell component pin) = true

plain_end : (x : EndText) (pin : List ℕ) → is_cell x ≡ true → IsNewEnd x pin → is_plain pin ≡ true
plain_end (ends.Port name) pin e h = absurd cc
plain_end (ends.Cell c q) pin e h = h

module _ (cells : Cells) (d : Design) (named : AreNamed d.components) where
  plain : (cs : List Component) → AreNamed cs → Each (λ (c : Component). is_plain c.text ≡ true) cs
  plain cs h = each_weaker (λ (c : Component). is_name c.text ≡ true) (λ (c : Component). is_plain c.text ≡ true) (λ c e. name_plain c.text e) cs h

  cell_same : (cs : List Component) (side : Side) (common : Option CommonPins) (t : Terminal) → is_cell (end_of side cells cs common t) ≡ at_cell t
  cell_same cs side common (terminals.AtPin name) = refl
  cell_same cs side common (terminals.AtCell w was) = refl

  start_cell : (cs : List Component) (c : Located Chain) → at_cell c.statement.start ≡ true → is_cell (chain_of cells cs c).start ≡ true
  start_cell cs c e = rw (cell_same cs _ c.statement.common_pins c.statement.start) e

  stop_cell : (cs : List Component) (c : Located Chain) → at_cell c.statement.stop ≡ true → is_cell (chain_of cells cs c).stop ≡ true
  stop_cell cs c e = rw (cell_same cs _ c.statement.common_pins c.statement.stop) e

  terminal_named : (t : Terminal) (pin : List ℕ) → IsEnd t → (at_cell t ≡ true → is_plain pin ≡ true) → names_terminal (terminal_layout d.components t pin) ≡ true
  terminal_named (terminals.AtPin name) pin good h = word_name name (read_plain name good)
  terminal_named (terminals.AtCell w was) pin good h =
      let u = word_for (end_word d.components w) in
      and_from (is_name u && not (bytes_eq u port)) (is_name (word_for pin))
      (and_from (is_name u) (not (bytes_eq u port)) (word_name (end_word d.components w) (end_has (λ w. is_plain w ≡ true) d.components (plain d.components named) w (read_plain w good.0)))
      (ap not (end_no_port d.components w good.1)))
      (word_name pin (h refl))

  element_named : (e : NewElement) → IsNewElement d e → names_element (element_layout d.components e) ≡ true
  element_named e is =
      let l = element_layout d.components e in
      and_from (is_name l.name) (is_name l.input && is_name l.output) (found_has (λ w. is_name w ≡ true) d.components named e.component e.component is.component.0 is.component.1)
      (and_from (is_name l.input) (is_name l.output) (word_name e.input is.input) (word_name e.output is.output))

  elements_named : (es : List NewElement) → Each (IsNewElement d) es → list_all names_element (map (element_layout d.components) es) ≡ true
  elements_named [] h = refl
  elements_named (e ∷ es) h = and_from (names_element (element_layout d.components e)) _ (element_named e h.0) (elements_named es h.1)

  some_there : (es : List NewElement) → 0 < length es → some_list (map (element_layout d.components) es) ≡ true
  some_there [] lt = absurd (omega arith)
  some_there (e ∷ es) lt = refl

  lists_named : (ess : List (List NewElement)) → Each (λ es. (0 < length es) × Each (IsNewElement d) es) ess → list_all names_list (map (map (element_layout d.components)) ess) ≡ true
  lists_named [] h = refl
  lists_named (es ∷ ess) h =
      and_from (names_list (map (element_layout d.components) es)) _ (and_from (some_list (map (element_layout d.components) es)) _ (some_there es h.0.0) (elements_named es h.0.1)) (lists_named ess h.1)

  some_in : (es : List NewElement) (ess : List (List NewElement)) → Each (λ es. (0 < length es) × Each (IsNewElement d) es) ess → 0 < length es + length ess
      → some_list (map (element_layout d.components) es ++ flat_map (λ xs. xs) (map (map (element_layout d.components)) ess)) ≡ true
  some_in (e ∷ es) ess h lt = refl
  some_in [] [] h lt = absurd (omega arith)
  some_in [] ([] ∷ ess) h lt = let no = h.0.0 in absurd (omega (arith, no))
  some_in [] ((e ∷ es) ∷ ess) h lt = refl

  -- a chain that is written is well
  chain_well : (cs : List Component) (c : Located Chain) (new : NewChain) → IsChain c.statement → IsNewChain d (chain_of cells cs c) new → is_written_well (chain_layout d.components c.statement new) ≡ true
  chain_well cs c new good is =
      let l = chain_layout d.components c.statement new in
      and_from (is_name l.name && names_partition l.partition) _ (and_from (is_name l.name) (names_partition l.partition) good.name (partition_named c.statement.partition good.partition))
      (and_from (names_terminal l.start && names_terminal l.stop) _
      (and_from (names_terminal l.start) (names_terminal l.stop) (terminal_named c.statement.start new.start good.start (λ e. plain_end (chain_of cells cs c).start new.start (start_cell cs c e) is.start))
      (terminal_named c.statement.stop new.stop good.stop (λ e. plain_end (chain_of cells cs c).stop new.stop (stop_cell cs c e) is.stop)))
      (and_from (list_all names_element l.floating && list_all names_list l.ordered) _
      (and_from (list_all names_element l.floating) (list_all names_list l.ordered) (elements_named new.floating is.floating) (lists_named new.ordered is.ordered)) (some_in new.floating new.ordered is.ordered is.some)))

  pub chains_well : (cs : List Component) (chains : List (Located Chain)) (news : List NewChain) → Each (λ (c : Located Chain). IsChain c.statement) chains → AreNewChains d (map (chain_of cells cs) chains) news
      → list_all is_written_well (chain_layouts d.components chains news) ≡ true
  unfolding chain_layouts
  chains_well cs [] news good is = refl
  chains_well cs (c ∷ chains) [] good is = absurd is
  chains_well cs (c ∷ chains) (new ∷ news) good is = and_from (is_written_well (chain_layout d.components c.statement new)) _ (chain_well cs c new good.0 is.0) (chains_well cs chains news good.1 is.1)

  pub chains_length : (cs : List Component) (chains : List (Located Chain)) (news : List NewChain) → AreNewChains d (map (chain_of cells cs) chains) news → length (chain_layouts d.components chains news) ≡ length chains
  unfolding chain_layouts
  chains_length cs [] news is = refl
  chains_length cs (c ∷ chains) [] is = absurd is
  chains_length cs (c ∷ chains) (new ∷ news) is = ap suc (chains_length cs chains news is.1)

  pub chains_named : (cs : List Component) (chains : List (Located Chain)) (news : List NewChain) → AreNewChains d (map (chain_of cells cs) chains) news
      → map (λ (x : ChainLayout). plain_name x.name) (chain_layouts d.components chains news) ≡ map (λ (x : Located Chain). plain_name x.statement.name) chains
  unfolding chain_layouts
  chains_named cs [] news is = refl
  chains_named cs (c ∷ chains) [] is = absurd is
  chains_named cs (c ∷ chains) (new ∷ news) is = ap (λ (l : List (List ℕ)). plain_name c.statement.name ∷ l) (chains_named cs chains news is.1)

  elements_few : (es : List NewElement) → Each (IsNewElement d) es → Each HasFewBits (map (element_layout d.components) es)
  elements_few [] h = tt
  elements_few (e ∷ es) h = (h.0.bits, elements_few es h.1)

  lists_few : (ess : List (List NewElement)) → Each (λ es. (0 < length es) × Each (IsNewElement d) es) ess → Each (Each HasFewBits) (map (map (element_layout d.components)) ess)
  lists_few [] h = tt
  lists_few (es ∷ ess) h = (elements_few es h.0.1, lists_few ess h.1)

  pub chains_within : (cs : List Component) (chains : List (Located Chain)) (news : List NewChain) → AreNewChains d (map (chain_of cells cs) chains) news → Each IsWithin (chain_layouts d.components chains news)
  unfolding chain_layouts
  chains_within cs [] news is = tt
  chains_within cs (c ∷ chains) [] is = absurd is
  chains_within cs (c ∷ chains) (new ∷ news) is = (
    record { most = partition_few c.statement.partition; floating = elements_few new.floating is.0.floating; ordered = lists_few new.ordered is.0.ordered },
    chains_within cs chains news is.1,
  )

module _ (text : List ℕ) (cells : Cells) (d : Design) (h : DenotesDesign text cells d) where
  abbrev t : DesignText
  t = h.statements

  abbrev r : IsDesignText text h.statements
  r = h.reads

  pub components_are : d.components ≡ map component_of h.statements.components
  unfolding design_of
  components_are = ap (λ (e : Design). e.components) h.is

  pub nets_are : d.nets ≡ filter_map (net_of text) h.statements.nets
  unfolding design_of
  nets_are = ap (λ (e : Design). e.nets) h.is

  pub chains_are : d.chains ≡ map (chain_of cells (map component_of h.statements.components)) h.statements.chains
  unfolding design_of
  chains_are = ap (λ (e : Design). e.chains) h.is

  pub plain_components : ArePlain (map component_of h.statements.components)
  plain_components = are_plain h.statements.components

  pub named_components : AreNamed d.components
  named_components =
      subst AreNamed (sym components_are)
      (each_map (λ (c : Component). is_name c.text ≡ true) component_of t.components
      (located_each component text (λ x. is_name x.name ≡ true) IsSeen component_seen (within Components r.blocks) t.components (within_each IsSeen Components r.blocks (body_seen text t r)) r.components))

  pub seen_chains : Each (λ (c : Located Chain). IsChain c.statement) h.statements.chains
  seen_chains = located_each chain text IsChain IsSeen chain_seen (within ScanChains r.blocks) t.chains (within_each IsSeen ScanChains r.blocks (body_seen text t r)) r.chains

  pub good_rows : Each IsRow (net_rows text h.statements)
  good_rows =
      let stand = subst (Each (StandIn text)) (body_is text t r) (each_front (StandIn text) r.body (r.closed.end ∷ r.closed.behind) (subst (Each (StandIn text)) r.closed.is (each_stand text))) in
      rows_all (nets_in text t)
      (each_map IsRowIf (λ (n : Located NetStatement). net_in text n.statement) t.nets
      (located_each net text (λ x. IsRowIf (net_in text x)) (StandIn text) (net_row text) (within Nets r.blocks) t.nets (within_each (StandIn text) Nets r.blocks stand) r.nets))

  pub nets_words : map net_fields d.nets ≡ nets_of_words (nets_in text h.statements)
  nets_words = ap (map net_fields) nets_are ∙ nets_same text t.nets

  pub rows_are : map net_fields d.nets ≡ map net_of_words (net_rows text h.statements)
  rows_are = nets_words ∙ rows_same (nets_in text t)

  module _ (moves : List PinMove) (news : List NewChain) (are : AreMovesIn d.nets moves) (new : AreNewChains d d.chains news) where
    pub chains_new : AreNewChains d (map (chain_of cells (map component_of h.statements.components)) h.statements.chains) news
    chains_new = subst (λ (l : List ScanChainText). AreNewChains d l news) chains_are new

    -- the changes fit
    pub fit : IsFit h.statements (changes_of text h.statements d moves news)
    fit = record {
      pins = map_length (λ p. new_word (net_rows text t) d.nets moves (plain_name p.statement.name)) t.pins;
      nets = changes_length d.components (net_rows text t) moves 0 (nets_in text t) ∙ map_length (λ (n : Located NetStatement). net_in text n.statement) t.nets;
      chains = chains_length cells d named_components (map component_of t.components) t.chains news chains_new;
      words = pins_named (net_rows text t) good_rows d.components named_components d.nets moves t.pins;
      added = changes_named d.components named_components (net_rows text t) good_rows moves 0 (nets_in text t);
      well = chains_well cells d named_components (map component_of t.components) t.chains news seen_chains chains_new;
    }

    -- the nets with the changes are the nets behind the moves
    pub nets_moved : nets_of_words (changed_nets text h.statements (changes_of text h.statements d moves news)) ≡ map net_fields (moved_nets d.nets moves)
    nets_moved =
        moved_same d.nets (net_rows text t) rows_are d.components (reads_same d.components (subst ArePlain (sym components_are) plain_components)) moves 0 (nets_in text t) d.nets nets_words

    -- and they are sound
    pub sound : AreSound text h.statements (changes_of text h.statements d moves news)
    sound = record {
      within = chains_within cells d named_components (map component_of t.components) t.chains news chains_new;
      named = chains_named cells d named_components (map component_of t.components) t.chains news chains_new;
      once = λ line again. none_again d.nets moves (once_law text cells d h) are line (subst (λ (ns : List Net). StandsAgain (connection_rows ns) line) nets_moved again);
    }
