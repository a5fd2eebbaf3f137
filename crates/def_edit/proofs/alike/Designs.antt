-- The design that a text with changes denotes.
use Rattle.std.proofs.Common.{◌≡◌, ℕ, Bool, true, false, List, [], ◌∷◌, ◌++◌, map, Option, Some, None, refl, sym, ap, ◌∙◌}
use Rattle.std.specs.Prelude.{option_map, unwrap_or, ℤ, pos}
use Rattle.std.specs.List.{flat_map, filter_map, cons_option, list_any, AllByRecursion as Each}
use Rattle.std.proofs.lemmas.List.{map-append}
use Rattle.std.proofs.lemmas.Bool.{or_parts}
use Rattle.base_types.specs.Names.{plain_name}
use Rattle.base_types.specs.declared.span.Span.{Span}
use Rattle.cell_table.specs.Cells.{Cells}
use Rattle.def_syntax.specs.Frames.{word_of}
use Rattle.def_syntax.specs.declared.design.DesignText.{DesignText}
use Rattle.def_syntax.specs.declared.design.Located.{Located}
use Rattle.def_syntax.specs.declared.design.Section.{Section}
use Rattle.def_syntax.specs.declared.units.Units.{Units}
use Rattle.def_syntax.specs.declared.component.Component.{Component as ComponentText}
use Rattle.def_syntax.specs.declared.pin.DesignPin.{DesignPin as PinText}
use Rattle.def_syntax.specs.declared.net.NetStatement.{NetStatement}
use Rattle.def_syntax.specs.declared.net.NetStatement.TheVariants as statements
use Rattle.def_syntax.specs.declared.element.ElementList.TheVariants as lists
use Rattle.def_syntax.specs.declared.chain.Chain.{Chain}
use Rattle.def_layout.specs.declared.chains.ElementLayout.{ElementLayout}
use Rattle.def_layout.specs.declared.chains.PartitionLayout.{PartitionLayout}
use Rattle.def_layout.specs.declared.chains.ChainLayout.{ChainLayout}
use Rattle.def_layout.specs.SectionForms.{read_chain, element_of, partition_of, max_bits_of, floating_of}
use Rattle.def_layout.specs.Nets.{connection_in}
use Rattle.def_layout.proofs.NumberWords.{number_number}
use Rattle.def_reader.specs.declared.design.Component.{Component}
use Rattle.def_reader.specs.declared.design.DesignPin.{DesignPin}
use Rattle.def_reader.specs.declared.design.NetPin.{NetPin}
use Rattle.def_reader.specs.declared.design.Net.{Net}
use Rattle.def_reader.specs.declared.design.ScanChainText.{ScanChainText}
use Rattle.def_reader.specs.declared.design.Design.{Design}
use Rattle.def_reader.specs.Numbers.{units_of}
use Rattle.def_reader.specs.Designs.{pin_place, component_of, pin_of, net_at, net_of, chain_of, max_bits_in, design_of}
use Rattle.def_reader.specs.Faults.{NumberAt, BadUnits, FarComponent, FarPin, ManyBits, TwiceAt, SameComponent, SamePin, SameNet, SameChain, SameSection, SameConnection, are_no_units, has_far_component, has_far_pin, is_far, are_many, have_many, has_many, has_many_bits, names_in, component_rows, pin_rows, net_rows, chain_rows, section_rows, connections_of, connection_rows}
use Rattle.def_edit.specs.Alike.Changes.{Changes, NetChange, NetWords, net_in, changed_net, changed_each}
use Rattle.def_edit.specs.Alike.Fields.{nowhere, component_fields, pin_fields, net_fields, chain_fields, fields, pin_of_words, net_of_words, nets_of_words, nets_in, changed_nets, with_net, chain_read, changed_fields}
use Rattle.def_edit.specs.Alike.Laws.{pin_value, pins_in, with_word, IsChanged, HasFewBits, IsFew, HasFewMost, IsWithin, AreSound, DesignLaw}
use Rattle.def_edit.proofs.alike.Lists.{also_in, each_contains, map_of_map, map_same, filter_of_map}
use Rattle.def_edit.proofs.alike.Denoting.{stands_same, fails_same, name_and_cell, same_cell, chain_same, span_same, few_bits}

-- what statements give, where they are the same
over : {X Y : Type 0} (g : X → Y) (us ts : List (Located X)) → map (λ r. r.statement) us ≡ map (λ r. r.statement) ts → map (λ r. g r.statement) us ≡ map (λ r. g r.statement) ts
over g us ts e = sym (map_of_map g (λ r. r.statement) us) ∙ ap (map g) e ∙ map_of_map g (λ r. r.statement) ts

-- changes that a part of a member doesn't show
each_kept : {X C Y : Type 0} (f : X → C → X) (g : X → Y) → ((x : X) (c : C) → g (f x c) ≡ g x) → (xs : List X) (cs : List (Option C)) → map g (changed_each f xs cs) ≡ map g xs
each_kept f g h [] cs = refl
each_kept f g h (x ∷ xs) [] = refl
each_kept {X} {C} {Y} f g h (x ∷ xs) (None ∷ cs) = ap (λ (l : List Y). g x ∷ l) (each_kept f g h xs cs)
each_kept f g h (x ∷ xs) (Some c ∷ cs) = rw (h x c, each_kept f g h xs cs) refl

-- changes seen through a function
each_map : {X C Y : Type 0} (f : X → C → X) (k : Y → C → Y) (g : X → Y) → ((x : X) (c : C) → g (f x c) ≡ k (g x) c) → (xs : List X) (cs : List (Option C)) → map g (changed_each f xs cs) ≡ changed_each k (map g xs) cs
each_map f k g h [] cs = refl
each_map f k g h (x ∷ xs) [] = refl
each_map {X} {C} {Y} f k g h (x ∷ xs) (None ∷ cs) = ap (λ (l : List Y). g x ∷ l) (each_map f k g h xs cs)
each_map f k g h (x ∷ xs) (Some c ∷ cs) = rw (h x c, each_map f k g h xs cs) refl

-- the nets of a design, by their words
net_same : (text : List ℕ) (span : Span) (line : ℕ) (x : NetStatement) → option_map net_fields (net_at text span line x) ≡ option_map net_of_words (net_in text x)
net_same text span line statements.MustJoin = refl
net_same text span line (statements.Net x) =
    ap (λ (pins : List NetPin). Some (record { name = plain_name x.name; pins = pins; span = nowhere; line = 0 })) (sym (filter_of_map pin_of_words (connection_in text) x.connections))

cons_map : {X Y : Type 0} (f : X → Y) (o : Option X) (xs : List X) → map f (cons_option o xs) ≡ cons_option (option_map f o) (map f xs)
cons_map f None xs = refl
cons_map f (Some x) xs = refl

nets_same : (text : List ℕ) (ns : List (Located NetStatement)) → map net_fields (filter_map (net_of text) ns) ≡ nets_of_words (map (λ n. net_in text n.statement) ns)
nets_same text [] = refl
nets_same text (n ∷ ns) =
    cons_map net_fields (net_of text n) (filter_map (net_of text) ns) ∙ ap (λ (o : Option Net). cons_option o (map net_fields (filter_map (net_of text) ns))) (net_same text n.span n.line n.statement)
    ∙ ap (λ (l : List Net). cons_option (option_map net_of_words (net_in text n.statement)) l) (nets_same text ns)

abbrev net_name : Net → List ℕ
net_name n = n.name

-- changed nets keep their names
kept_names : (xs : List (Option NetWords)) (cs : List (Option NetChange)) → map net_name (nets_of_words (changed_each changed_net xs cs)) ≡ map net_name (nets_of_words xs)
kept_names [] cs = refl
kept_names (x ∷ xs) [] = refl
kept_names (None ∷ xs) (None ∷ cs) = kept_names xs cs
kept_names (Some x ∷ xs) (None ∷ cs) = ap (λ (l : List (List ℕ)). plain_name x.name ∷ l) (kept_names xs cs)
kept_names (None ∷ xs) (Some c ∷ cs) = kept_names xs cs
kept_names (Some x ∷ xs) (Some c ∷ cs) = ap (λ (l : List (List ℕ)). plain_name x.name ∷ l) (kept_names xs cs)

-- names of rows
row_names : {X : Type 0} (name : X → List ℕ) (line : X → ℕ) (xs : List X) → names_in (map (λ x. (name x, line x)) xs) ≡ map name xs
row_names name line xs = map_of_map (λ r. r.0) (λ x. (name x, line x)) xs

connection_names : (ns : List Net) → names_in (connection_rows ns) ≡ flat_map (λ n. n.pins) ns
connection_names [] = refl
connection_names (n ∷ ns) =
    map-append (λ (r : NetPin × ℕ). r.0) (connections_of n) (connection_rows ns) ∙ ap (λ (l : List NetPin). l ++ names_in (connection_rows ns)) (map_of_map (λ (r : NetPin × ℕ). r.0) (λ p. (p, n.line)) n.pins ∙ map_id n.pins)
    ∙ ap (λ (l : List NetPin). n.pins ++ l) (connection_names ns)
  where
    map_id : (ps : List NetPin) → map (λ p. p) ps ≡ ps
    map_id [] = refl
    map_id (p ∷ ps) = ap (λ (l : List NetPin). p ∷ l) (map_id ps)

pins_of_fields : (ns : List Net) → flat_map (λ n. n.pins) (map net_fields ns) ≡ flat_map (λ n. n.pins) ns
pins_of_fields [] = refl
pins_of_fields (n ∷ ns) = ap (λ (l : List NetPin). n.pins ++ l) (pins_of_fields ns)

-- a chain within its limits has no number beyond them
any_both : {X : Type 0} (p : X → Bool) (xs ys : List X) → list_any p xs ≡ false → list_any p ys ≡ false → list_any p (xs ++ ys) ≡ false
any_both p [] ys e f = f
any_both p (x ∷ xs) ys e f = let h = or_parts (p x) (list_any p xs) e in rw (h.0) (any_both p xs ys h.1 f)

few_elements : (es : List ElementLayout) → Each HasFewBits es → have_many (map element_of es) ≡ false
few_elements [] h = refl
few_elements (e ∷ es) h = let b = few_bits e.bits (number_number e.bits) h.0 in rw b (few_elements es h.1)

few_floating : (es : List ElementLayout) → Each HasFewBits es → list_any has_many (floating_of es) ≡ false
few_floating [] h = refl
few_floating (e ∷ es) h = let f = few_elements (e ∷ es) h in rw f refl

few_ordered : (ess : List (List ElementLayout)) → Each (Each HasFewBits) ess → list_any has_many (map (λ es. lists.Ordered (map element_of es)) ess) ≡ false
few_ordered [] h = refl
few_ordered (es ∷ ess) h = let f = few_elements es h.0 in rw f (few_ordered ess h.1)

few_most : (p : Option PartitionLayout) → HasFewMost p → are_many (max_bits_in (partition_of p)) ≡ false
few_most None h = refl
few_most (Some p) h = of p.max_bits h
  where
    of : (o : Option ℕ) → IsFew o → are_many (max_bits_of o) ≡ false
    of None h = refl
    of (Some n) h = let b = few_bits n (number_number n) h in rw b refl

few_chain : (c : ChainLayout) → IsWithin c → has_many_bits (read_chain c) ≡ false
few_chain c h =
    let a = few_most c.partition h.most in
    let b = any_both has_many (floating_of c.floating) (map (λ es. lists.Ordered (map element_of es)) c.ordered) (few_floating c.floating h.floating) (few_ordered c.ordered h.ordered) in
    rw (a, b) refl

abbrev design_with : ℤ → List Component → List DesignPin → List Net → List ScanChainText → Option Span → Design
design_with a cs ps ns hs s = record { units = a; components = cs; pins = ps; nets = ns; chains = hs; chains_span = s }

same_design : (a b : ℤ) (cs ds : List Component) (ps qs : List DesignPin) (ns ms : List Net) (hs ks : List ScanChainText) (s r : Option Span) → a ≡ b → cs ≡ ds → ps ≡ qs → ns ≡ ms → hs ≡ ks → s ≡ r
    → design_with a cs ps ns hs s ≡ design_with b ds qs ms ks r
same_design a b cs ds ps qs ns ms hs ks s r e f g h i j = rw (e, f, g, h, i, j) refl

module _ (text : List ℕ) (cells : Cells) (t : DesignText) (c : Changes) (written : List ℕ) (u : DesignText) (changed : IsChanged text t c written u) where
  numbers : ((line : ℕ) → NumberAt t line → ⊥) → Each IsWithin c.chains → (line : ℕ) → NumberAt u line → ⊥
  numbers h within line (BadUnits f) = let n = fails_same are_no_units are_no_units (u.units ∷ []) (t.units ∷ []) line (ap (λ (x : Units). are_no_units x ∷ []) changed.units) f in h n.0 (BadUnits n.1)
  numbers h within line (FarComponent f) = let n = fails_same has_far_component has_far_component u.components t.components line (over has_far_component u.components t.components changed.components) f in h n.0 (FarComponent n.1)
  numbers h within line (FarPin f) =
      let far = λ (p : PinText). is_far p.place in
      let same : map (λ r. has_far_pin r.statement) u.pins ≡ map (λ r. has_far_pin r.statement) t.pins =
      sym (map_of_map far (λ r. pin_value r.statement) u.pins) ∙ ap (map far) changed.pins ∙ each_kept with_word far (λ x w. refl) (pins_in t) c.pins ∙ map_of_map far (λ r. pin_value r.statement) t.pins
      in
      let n = fails_same has_far_pin has_far_pin u.pins t.pins line same f in h n.0 (FarPin n.1)
  numbers h within line (ManyBits f) =
      let a = also_in (λ r. r.statement) read_chain u.chains c.chains f.row changed.chains f.there in
      let no : true ≡ false = sym f.fails ∙ ap has_many_bits (sym a.same) ∙ few_chain a.member (each_contains IsWithin c.chains a.member within a.there) in
      absurd cc

  nets_are : map net_fields (filter_map (net_of written) u.nets) ≡ nets_of_words (changed_nets text t c)
  nets_are = nets_same written u.nets ∙ ap nets_of_words changed.nets

  pins_of_nets : names_in (connection_rows (filter_map (net_of written) u.nets)) ≡ names_in (connection_rows (nets_of_words (changed_nets text t c)))
  pins_of_nets =
      connection_names (filter_map (net_of written) u.nets) ∙ sym (pins_of_fields (filter_map (net_of written) u.nets)) ∙ ap (λ (l : List Net). flat_map (λ n. n.pins) l) nets_are ∙ sym (connection_names (nets_of_words (changed_nets text t c)))

  net_names : names_in (net_rows (filter_map (net_of written) u.nets)) ≡ names_in (net_rows (filter_map (net_of text) t.nets))
  net_names =
      row_names net_name (λ n. n.line) (filter_map (net_of written) u.nets) ∙ sym (map_of_map net_name net_fields (filter_map (net_of written) u.nets)) ∙ ap (map net_name) nets_are ∙ kept_names (nets_in text t) c.nets
      ∙ ap (map net_name) (sym (nets_same text t.nets)) ∙ map_of_map net_name net_fields (filter_map (net_of text) t.nets) ∙ sym (row_names net_name (λ n. n.line) (filter_map (net_of text) t.nets))

  component_names : names_in (component_rows (map component_of u.components)) ≡ names_in (component_rows (map component_of t.components))
  component_names =
      row_names (λ x. x.name) (λ x. x.line) (map component_of u.components) ∙ map_of_map (λ (x : Component). x.name) component_of u.components ∙ over (λ x. plain_name x.name) u.components t.components changed.components
      ∙ sym (map_of_map (λ (x : Component). x.name) component_of t.components) ∙ sym (row_names (λ x. x.name) (λ x. x.line) (map component_of t.components))

  pin_names : names_in (pin_rows (map pin_of u.pins)) ≡ names_in (pin_rows (map pin_of t.pins))
  pin_names =
      let name = λ (p : PinText). plain_name p.name in
      row_names (λ x. x.name) (λ x. x.line) (map pin_of u.pins) ∙ map_of_map (λ (x : DesignPin). x.name) pin_of u.pins ∙ sym (map_of_map name (λ r. pin_value r.statement) u.pins) ∙ ap (map name) changed.pins
      ∙ each_kept with_word name (λ x w. refl) (pins_in t) c.pins ∙ map_of_map name (λ r. pin_value r.statement) t.pins
      ∙ sym (map_of_map (λ (x : DesignPin). x.name) pin_of t.pins) ∙ sym (row_names (λ x. x.name) (λ x. x.line) (map pin_of t.pins))

  chain_names : map (λ x. plain_name x.name) c.chains ≡ map (λ x. plain_name x.statement.name) t.chains → names_in (chain_rows u.chains) ≡ names_in (chain_rows t.chains)
  chain_names named =
      let name = λ (x : Chain). plain_name x.name in
      row_names (λ x. plain_name x.statement.name) (λ x. x.line) u.chains ∙ sym (map_of_map name (λ r. r.statement) u.chains) ∙ ap (map name) changed.chains ∙ map_of_map name read_chain c.chains ∙ named
      ∙ sym (row_names (λ x. plain_name x.statement.name) (λ x. x.line) t.chains)

  section_names : names_in (section_rows u.sections) ≡ names_in (section_rows t.sections)
  section_names =
      row_names (λ s. word_of s.kind) (λ s. s.line) u.sections ∙ sym (map_of_map word_of (λ (s : Section). s.kind) u.sections) ∙ ap (map word_of) changed.sections ∙ map_of_map word_of (λ (s : Section). s.kind) t.sections
      ∙ sym (row_names (λ s. word_of s.kind) (λ s. s.line) t.sections)

  none_twice : ((line : ℕ) → TwiceAt text t line → ⊥) → AreSound text t c → (line : ℕ) → TwiceAt written u line → ⊥
  none_twice h sound line (SameComponent s) = let n = stands_same _ _ line component_names s in h n.0 (SameComponent n.1)
  none_twice h sound line (SamePin s) = let n = stands_same _ _ line pin_names s in h n.0 (SamePin n.1)
  none_twice h sound line (SameNet s) = let n = stands_same _ _ line net_names s in h n.0 (SameNet n.1)
  none_twice h sound line (SameChain s) = let n = stands_same _ _ line (chain_names sound.named) s in h n.0 (SameChain n.1)
  none_twice h sound line (SameSection s) = let n = stands_same _ _ line section_names s in h n.0 (SameSection n.1)
  none_twice h sound line (SameConnection s) = let n = stands_same _ _ line pins_of_nets s in sound.once n.0 n.1

  components_same : map component_fields (map component_of u.components) ≡ map component_fields (map component_of t.components)
  components_same =
      let g = λ (x : ComponentText). component_fields (component_of (record { statement = x; span = nowhere; line = 0 })) in
      map_of_map component_fields component_of u.components ∙ over g u.components t.components changed.components ∙ sym (map_of_map component_fields component_of t.components)

  pins_same : map pin_fields (map pin_of u.pins) ≡ changed_each with_net (map pin_fields (map pin_of t.pins)) c.pins
  pins_same =
      let g : PinText → DesignPin = λ x. record { name = plain_name x.name; net = plain_name x.net; net_span = nowhere; place = pin_place x.place; line = 0 } in
      map_of_map pin_fields pin_of u.pins ∙ sym (map_of_map g (λ r. pin_value r.statement) u.pins) ∙ ap (map g) changed.pins ∙ each_map with_word with_net g (λ x w. refl) (pins_in t) c.pins
      ∙ ap (λ (l : List DesignPin). changed_each with_net l c.pins) (map_of_map g (λ r. pin_value r.statement) t.pins ∙ sym (map_of_map pin_fields pin_of t.pins))

  chains_same : map chain_fields (map (chain_of cells (map component_of u.components)) u.chains) ≡ map (chain_read cells (map component_of t.components)) c.chains
  chains_same =
      let old = map component_of t.components in
      let new = map component_of u.components in
      let key : ComponentText → List ℕ × List ℕ = λ x. (plain_name x.name, plain_name x.cell) in
      let cells_same = same_cell new old (map_of_map name_and_cell component_of u.components ∙ over key u.components t.components changed.components ∙ sym (map_of_map name_and_cell component_of t.components)) in
      let g : Chain → ScanChainText = λ x. chain_of cells old (record { statement = x; span = nowhere; line = 0 }) in
      map_of_map chain_fields (chain_of cells new) u.chains ∙ map_same (λ r. chain_fields (chain_of cells new r)) (λ r. g r.statement) u.chains (λ r. ap chain_fields (chain_same cells new old cells_same r))
      ∙ sym (map_of_map g (λ r. r.statement) u.chains) ∙ ap (map g) changed.chains ∙ map_of_map g read_chain c.chains

  fields_same : fields (design_of written cells u) ≡ changed_fields text cells t c
  unfolding fields changed_fields design_of
  fields_same =
      same_design _ _ _ _ _ _ _ _ _ _ _ _ (ap (λ (x : Units). pos (unwrap_or (units_of x.number) 0)) changed.units) components_same pins_same nets_are chains_same (span_same nowhere u.sections t.sections changed.sections)

pub design_law : DesignLaw
design_law text cells d h c written u reads changed sound =
    let t = h.statements in
    record {
      denoted = record {
        statements = u;
        reads = reads;
        numbers = numbers text cells t c written u changed h.numbers sound.within;
        once = none_twice text cells t c written u changed h.once sound;
        is = refl;
      };
      is = fields_same text cells t c written u changed;
    }
