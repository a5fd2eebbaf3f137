-- Without a fault no step of the netlist's instances is named by two elements.
use Rattle.std.proofs.Common.{◌≡◌, ℕ, zero, suc, ◌+◌, ◌<◌, ◌⊎◌, inl, inr, true, List, [], ◌∷◌, ◌++◌, length, map, get_or, Option, Some, None, Contains, refl, sym, ap, ◌∙◌, subst, append_assoc, arith}
use Rattle.std.specs.Prelude.{is_none, option_map, unwrap_or}
use Rattle.std.specs.List.{filter_map, cons_option, position}
use Rattle.std.specs.Str.{bytes_eq}
use Rattle.std.proofs.lemmas.List.{length-map}
use Rattle.std.proofs.lemmas.Grind.{flat_map-append}
use Rattle.std.proofs.lemmas.List.Elements.{Contains-append_left, Contains-append_right, filter_map-append}
use Rattle.std.proofs.lemmas.List.Quantifiers.{position-Some}
use Rattle.std.proofs.lemmas.Slice.Eq.{bytes_eq-Decides}
use Rattle.netlist_core.specs.declared.netlist.Instance.{Instance}
use Rattle.netlist_core.specs.declared.netlist.Netlist.{Netlist}
use Rattle.cell_table.specs.Cells.{Cells}
use Rattle.lef_pins.specs.Macros.{NamedMacros}
use Rattle.def_reader.specs.declared.design.Component.{Component}
use Rattle.def_reader.specs.declared.design.Element.{Element}
use Rattle.def_reader.specs.declared.design.ScanChainText.{ScanChainText}
use Rattle.def_reader.specs.declared.design.Design.{Design}
use Rattle.def_reader.specs.Faults.{StandsAgain}
use Rattle.list_laws.proofs.Members.{contains_to, flat_to}
use Rattle.chain_rules.specs.declared.spec.StepSpec.{StepSpec}
use Rattle.chain_rules.specs.declared.spec.PathSpec.{PathSpec}
use Rattle.chain_rules.specs.declared.spec.ElementSpec.{ElementSpec}
use Rattle.chain_rules.specs.Stretches.{path_at, step_at, spec_at, elements_of, Names, NamesAt, NamedOnce}
use Rattle.design_elements.specs.CellPins.{pins_of, start_pins, stop_pins, path_number, elements_of as texts_of}
use Rattle.design_elements.specs.Elements.{instance_number, element_spec, chain_specs}
use Rattle.design_elements.specs.Faults.{element_rows, all_rows, Twice, Pin}
use Rattle.design_elements.specs.Laws.{IsFaultless, AreOfInstances}
use Rattle.design_elements.specs.Seen.{row_of}
use Rattle.design_elements.proofs.SpecElements.{no_element, no_text, chain_elements, same_length, spec_is}

-- a member by its place, with those before it
record SplitAt {X : Type 0} (xs : List X) (k : ℕ) (d : X) : Type 0 where
  front : List X
  behind : List X
  is : xs ≡ front ++ get_or xs k d ∷ behind
  earlier : (m : ℕ) → m < k → Contains front (get_or xs m d)

in_more : {X : Type 0} (x y : X) (xs : List X) → Contains xs y → Contains (x ∷ xs) y
in_more x y xs h = (suc h.0, (let lt = h.1 in omega arith), h.2)

earlier_more : {X : Type 0} (x : X) (xs front : List X) (k : ℕ) (d : X) → ((m : ℕ) → m < k → Contains front (get_or xs m d)) → (m : ℕ) → m < suc k → Contains (x ∷ front) (get_or (x ∷ xs) m d)
earlier_more x xs front k d earlier zero lt = (0, omega arith, refl)
earlier_more x xs front k d earlier (suc m) lt = in_more x (get_or xs m d) front (earlier m (omega arith))

split_at : {X : Type 0} (xs : List X) (k : ℕ) (d : X) → k < length xs → SplitAt xs k d
split_at [] k d lt = absurd (omega arith)
split_at (x ∷ xs) zero d lt = record { front = []; behind = xs; is = refl; earlier = λ m below. absurd (omega arith) }
split_at {X} (x ∷ xs) (suc k) d lt =
    let rest = split_at xs k d (omega arith) in
    record { front = x ∷ rest.front; behind = rest.behind; is = ap (λ (l : List X). x ∷ l) rest.is; earlier = earlier_more x xs rest.front k d rest.earlier }

contains_at : {X : Type 0} (xs : List X) (k : ℕ) (d : X) → k < length xs → Contains xs (get_or xs k d)
contains_at [] k d lt = absurd (omega arith)
contains_at (x ∷ xs) zero d lt = (0, omega arith, refl)
contains_at (x ∷ xs) (suc k) d lt = in_more x (get_or xs k d) xs (contains_at xs k d (omega arith))

contains_map : {A B : Type 0} (f : A → B) (xs : List A) (x : A) → Contains xs x → Contains (map f xs) (f x)
contains_map f [] x h = absurd (let lt = h.1 in omega arith)
contains_map f (y ∷ ys) x (zero, lt, is) = (0, omega arith, ap f is)
contains_map f (y ∷ ys) x (suc k, lt, is) = in_more (f y) (f x) (map f ys) (contains_map f ys x (k, omega arith, is))

get_map : {A B : Type 0} (f : A → B) (xs : List A) (i : ℕ) (d : A) → get_or (map f xs) i (f d) ≡ f (get_or xs i d)
get_map f [] i d = refl
get_map f (x ∷ xs) zero d = refl
get_map f (x ∷ xs) (suc i) d = get_map f xs i d

-- the name of the instance of a number

no_instance : Instance
no_instance = record { name = []; cell = []; connections = []; line = 0 }

number_case : (xs : List Instance) (name : List ℕ) (m : ℕ) (o : Option ℕ) → position (λ i. bytes_eq i.name name) xs ≡ o → unwrap_or o (length xs) ≡ m → m < length xs → (get_or xs m no_instance).name ≡ name
number_case xs name m None is e lt = absurd (omega arith)
number_case xs name m (Some k) is e lt =
    let found = position-Some (λ (i : Instance). bytes_eq i.name name) xs k no_instance is in
    subst (λ (j : ℕ). (get_or xs j no_instance).name ≡ name) e ((bytes_eq-Decides (get_or xs k no_instance).name name).0 found.1)

name_is : (n : Netlist) (name : List ℕ) (m : ℕ) → instance_number n name ≡ m → m < length n.instances → (get_or n.instances m no_instance).name ≡ name
name_is n name m e lt = number_case n.instances name m (position (λ i. bytes_eq i.name name) n.instances) refl e lt

-- an element of the chains by its place, with its component and its scan path
record Shows (cells : Cells) (components : List Component) (chains : List ScanChainText) (c i : ℕ) (name : List ℕ) (path : ℕ) : Type 0 where
  chain : c < length chains
  element : i < length (texts_of (get_or chains c no_text))
  named : (get_or (texts_of (get_or chains c no_text)) i no_element).component ≡ name
  is : path_number cells components (pins_of (get_or (texts_of (get_or chains c no_text)) i no_element)) ≡ Some path

shown_row : (cells : Cells) (components : List Component) (line : ℕ) (e : Element) (name : List ℕ) (path : ℕ) → e.component ≡ name → path_number cells components (pins_of e) ≡ Some path → row_of cells components line e ≡ Some ((name, path), line)
shown_row cells components line e name path named is =
    ap (option_map (λ (p : ℕ). ((e.component, p), line))) is ∙ ap (λ (nm : List ℕ). Some ((nm, path), line)) named

module _ (cells : Cells) (components : List Component) (chains : List ScanChainText) (name : List ℕ) (path : ℕ) where
  -- the rows of a chain, split at an element
  rows_split : (line : ℕ) (texts front behind : List Element) (e : Element) → texts ≡ front ++ e ∷ behind → row_of cells components line e ≡ Some ((name, path), line)
      → filter_map (row_of cells components line) texts ≡ filter_map (row_of cells components line) front ++ ((name, path), line) ∷ filter_map (row_of cells components line) behind
  rows_split line texts front behind e is row =
      let f = row_of cells components line in
      ap (filter_map f) is ∙ filter_map-append f front (e ∷ behind) ∙ ap (λ (o : Option ((List ℕ × ℕ) × ℕ)). filter_map f front ++ cons_option o (filter_map f behind)) row

  -- the rows of all chains, split at an element of one of them
  all_split : (front behind : List ScanChainText) (chain : ScanChainText) (texts rest : List ((List ℕ × ℕ) × ℕ)) (row : (List ℕ × ℕ) × ℕ) → chains ≡ front ++ chain ∷ behind → element_rows cells components chain ≡ texts ++ row ∷ rest
      → all_rows cells components chains ≡ (all_rows cells components front ++ texts) ++ row ∷ (rest ++ all_rows cells components behind)
  all_split front behind chain texts rest row is here =
      let rows = all_rows cells components in
      ap rows is ∙ flat_map-append (element_rows cells components) front (chain ∷ behind)
      ∙ ap (λ (l : List ((List ℕ × ℕ) × ℕ)). rows front ++ (l ++ rows behind)) here
      ∙ ap (λ (l : List ((List ℕ × ℕ) × ℕ)). rows front ++ l) (append_assoc texts (row ∷ rest) (rows behind))
      ∙ sym (append_assoc (rows front) texts (row ∷ (rest ++ rows behind)))

  -- an element stands again, where one of the rows before it is the same
  again : (d j : ℕ) → Shows cells components chains d j name path
      → ((front : List ScanChainText) (texts : List Element) → ((m : ℕ) → m < d → Contains front (get_or chains m no_text)) → ((m : ℕ) → m < j → Contains texts (get_or (texts_of (get_or chains d no_text)) m no_element))
      → (line : ℕ) × Contains (all_rows cells components front ++ filter_map (row_of cells components (get_or chains d no_text).line) texts) ((name, path), line))
      → StandsAgain (all_rows cells components chains) (get_or chains d no_text).line
  again d j shows before =
      let chain = get_or chains d no_text in
      let f = row_of cells components chain.line in
      let s = split_at chains d no_text shows.chain in
      let t = split_at (texts_of chain) j no_element shows.element in
      let row = shown_row cells components chain.line (get_or (texts_of chain) j no_element) name path shows.named shows.is in
      let one = before s.front t.front s.earlier t.earlier in
      record {
        front = all_rows cells components s.front ++ filter_map f t.front;
        name = (name, path);
        behind = filter_map f t.behind ++ all_rows cells components s.behind;
        is = all_split s.front s.behind chain (filter_map f t.front) (filter_map f t.behind) ((name, path), chain.line) s.is (rows_split chain.line (texts_of chain) t.front t.behind (get_or (texts_of chain) j no_element) t.is row);
        before = contains_map {A = (List ℕ × ℕ) × ℕ} {B = List ℕ × ℕ} (λ r. r.0) (all_rows cells components s.front ++ filter_map f t.front) ((name, path), one.0) one.1;
      }

  -- an element of an earlier chain is the same
  chain_before : (c i d j : ℕ) → Shows cells components chains c i name path → Shows cells components chains d j name path → c < d → StandsAgain (all_rows cells components chains) (get_or chains d no_text).line
  chain_before c i d j one other lt =
      let chain = get_or chains c no_text in
      let row = shown_row cells components chain.line (get_or (texts_of chain) i no_element) name path one.named one.is in
      again d j other
      (λ front texts chains_before texts_before. (
        chain.line,
        Contains-append_left (all_rows cells components front) (filter_map (row_of cells components (get_or chains d no_text).line) texts) ((name, path), chain.line)
            (flat_to (element_rows cells components) front chain ((name, path), chain.line) (chains_before c lt)
            (contains_to (row_of cells components chain.line) (texts_of chain) (get_or (texts_of chain) i no_element) ((name, path), chain.line) (contains_at (texts_of chain) i no_element one.element) row)),
      ))

  -- an earlier element of the same chain is the same
  element_before : (d i j : ℕ) → Shows cells components chains d i name path → Shows cells components chains d j name path → i < j → StandsAgain (all_rows cells components chains) (get_or chains d no_text).line
  element_before d i j one other lt =
      let chain = get_or chains d no_text in
      let row = shown_row cells components chain.line (get_or (texts_of chain) i no_element) name path one.named one.is in
      again d j other
      (λ front texts chains_before texts_before. (
        chain.line,
        Contains-append_right (all_rows cells components front) (filter_map (row_of cells components chain.line) texts) ((name, path), chain.line)
            (contains_to (row_of cells components chain.line) texts (get_or (texts_of chain) i no_element) ((name, path), chain.line) (texts_before i lt) row),
      ))

  three : (a b : ℕ) → (a < b) ⊎ ((a ≡ b) ⊎ (b < a))
  three zero zero = inr (inl refl)
  three zero (suc b) = inl (omega arith)
  three (suc a) zero = inr (inr (omega arith))
  three (suc a) (suc b) = elim (three a b) [ inl lt ↦ inl (omega arith) | inr more ↦ elim more [ inl e ↦ inr (inl (ap suc e)) | inr gt ↦ inr (inr (omega arith)) ] ]

  module _ (once : (line : ℕ) → StandsAgain (all_rows cells components chains) line → ⊥) where
    same_element : (d i j : ℕ) → Shows cells components chains d i name path → Shows cells components chains d j name path → i ≡ j
    same_element d i j one other =
        elim (three i j) [
          | inl lt ↦ absurd (once _ (element_before d i j one other lt))
          | inr more ↦ elim more [ inl e ↦ e | inr gt ↦ absurd (once _ (element_before d j i other one gt)) ]
        ]

    same_place : (c i d j : ℕ) → Shows cells components chains c i name path → Shows cells components chains d j name path → (c ≡ d) × (i ≡ j)
    same_place c i d j one other =
        elim (three c d) [
          | inl lt ↦ absurd (once _ (chain_before c i d j one other lt))
          | inr more ↦
              elim more [
                | inl e ↦ (e, same_element d i j (subst (λ (x : ℕ). Shows cells components chains x i name path) e one) other)
                | inr gt ↦ absurd (once _ (chain_before d j c i other one gt))
              ]
        ]

some_path : (o : Option ℕ) → (is_none o ≡ true → ⊥) → o ≡ Some (unwrap_or o 0)
some_path None never = absurd (never refl)
some_path (Some p) never = refl

module _ (n : Netlist) (cells : Cells) (macros : NamedMacros) (design : Design) (none : IsFaultless cells macros design) where
  -- the pins of each element tell a scan path
  path_told : (chain : ScanChainText) (e : Element) → Contains design.chains chain → Contains (texts_of chain) e
      → path_number cells design.components (pins_of e) ≡ Some (unwrap_or (path_number cells design.components (pins_of e)) 0)
  path_told chain e there listed =
      some_path (path_number cells design.components (pins_of e))
      (λ fails. none _ (Pin chain.line (record {
        chain = chain;
        there = there;
        named = pins_of e;
        listed = Contains-append_right (start_pins chain.start ++ stop_pins chain.stop) (map pins_of (texts_of chain)) (pins_of e) (contains_map pins_of (texts_of chain) e listed);
        fails = fails;
        is = refl;
      })))

  -- what a step is named by shows its instance and its scan path
  shows : (c i : ℕ) (step : StepSpec) → step.instance < length n.instances → NamesAt (chain_specs n cells design) c i step
      → Shows cells design.components design.chains c i (get_or n.instances step.instance no_instance).name step.path
  shows c i step within named =
      let chain = get_or design.chains c no_text in
      let spec : ElementSpec = element_spec n cells design.components no_element in
      let in_chains : c < length design.chains = let same = same_length n cells design 0 design.chains in let lt = named.0 in omega arith in
      let is = spec_is n cells design 0 c design.chains in_chains in
      let texts = ap elements_of is ∙ chain_elements n cells design (0 + c) chain in
      let long = ap length texts ∙ length-map (texts_of chain) (element_spec n cells design.components) in
      let in_texts : i < length (texts_of chain) = let lt = named.1 in omega arith in
      let e = get_or (texts_of chain) i no_element in
      let at : get_or (elements_of (spec_at (chain_specs n cells design) c)) i spec ≡ element_spec n cells design.components e =
      ap (λ (l : List ElementSpec). get_or l i spec) texts ∙ get_map (element_spec n cells design.components) (texts_of chain) i no_element in
      let names : Names (element_spec n cells design.components e) step = subst (λ (s : ElementSpec). Names s step) at (named.2 spec) in
      record {
        chain = in_chains;
        element = in_texts;
        named = sym (name_is n e.component step.instance (sym names.instance) within);
        is = path_told chain e (contains_at design.chains c no_text in_chains) (contains_at (texts_of chain) i no_element in_texts) ∙ ap (λ (p : ℕ). Some p) (sym names.path);
      }

-- no step is named by two elements
pub named_once : (n : Netlist) (cells : Cells) (macros : NamedMacros) (d : Design) (paths : List PathSpec) → IsFaultless cells macros d → AreOfInstances n paths → NamedOnce paths (chain_specs n cells d)
named_once n cells macros design paths none instances = λ p k c i d j place one other.
    let step = step_at (path_at paths p) k in
    let within = instances p k place in
    same_place cells design.components design.chains (get_or n.instances step.instance no_instance).name step.path (λ line again. none _ (Twice line again)) c i d j (shows n cells macros design none c i step within one)
    (shows n cells macros design none d j step within other)
