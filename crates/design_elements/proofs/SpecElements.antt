-- The elements of the chains as numbers are those of the chains as they are written.
use Rattle.std.proofs.Common.{◌≡◌, ℕ, false, zero, suc, ◌+◌, ◌<◌, ◌≤◌, inl, inr, List, [], ◌∷◌, ◌++◌, length, map, get_or, refl, sym, ap, ◌∙◌, arith, length-append}
use Rattle.std.specs.Prelude.{All, None}
use Rattle.std.specs.List.{flat_map, sum_by}
use Rattle.std.proofs.lemmas.List.{map-append, length-map}
use Rattle.std.proofs.lemmas.List.Elements.{All-nil, All-cons, All-head, All-tail, All-map, All-weaker}
use Rattle.std.proofs.lemmas.List.Sums.{sum_by-cons}
use Rattle.netlist_core.specs.declared.netlist.Netlist.{Netlist}
use Rattle.cell_table.specs.Cells.{Cells}
use Rattle.lef_pins.specs.Macros.{NamedMacros}
use Rattle.def_reader.specs.declared.design.Component.{Component}
use Rattle.def_reader.specs.declared.design.Element.{Element}
use Rattle.def_reader.specs.declared.design.ElementList.{ElementList}
use Rattle.def_reader.specs.declared.design.ElementList.TheVariants as texts
use Rattle.def_reader.specs.declared.design.EndText.TheVariants as end_texts
use Rattle.def_reader.specs.declared.design.ScanChainText.{ScanChainText}
use Rattle.def_reader.specs.declared.design.Design.{Design}
use Rattle.list_laws.proofs.LeastLines.{order}
use Rattle.def_reader.specs.Sound.{IsSound, HasLists, elements_in as texts_in}
use Rattle.chain_rules.specs.declared.spec.ElementSpec.{ElementSpec}
use Rattle.chain_rules.specs.declared.spec.ChainSpec.{ChainSpec}
use Rattle.chain_rules.specs.Stretches.{elements_in, elements_of, HasElements, spec_at}
use Rattle.design_elements.specs.CellPins.{elements_of as texts_of}
use Rattle.design_elements.specs.Elements.{element_spec, list_spec, chain_spec, specs_from, chain_specs}
use Rattle.design_elements.specs.Faults.{element_count, AreTooMany, TooMany}
use Rattle.design_elements.specs.Laws.{IsFaultless}

-- an element to stand where a list has none
abbrev pub no_element : Element
no_element = record { component = []; input = None; output = None; bits = None }

-- a chain to stand where a list has none
abbrev pub no_text : ScanChainText
no_text = record { name = []; partition = None; max_bits = 0; has_max_bits = false; start = end_texts.Port []; stop = end_texts.Port []; lists = []; line = 0 }

module _ (n : Netlist) (cells : Cells) where
  list_elements : (components : List Component) (list : ElementList) → elements_in (list_spec n cells components list) ≡ map (element_spec n cells components) (texts_in list)
  list_elements components (texts.Floating elements) = refl
  list_elements components (texts.Ordered elements) = refl

  lists_elements : (components : List Component) (lists : List ElementList) → flat_map elements_in (map (list_spec n cells components) lists) ≡ map (element_spec n cells components) (flat_map texts_in lists)
  lists_elements components [] = refl
  lists_elements components (list ∷ lists) =
      ap (λ (l : List ElementSpec). l ++ flat_map elements_in (map (list_spec n cells components) lists)) (list_elements components list)
      ∙ ap (λ (l : List ElementSpec). map (element_spec n cells components) (texts_in list) ++ l) (lists_elements components lists)
      ∙ sym (map-append (element_spec n cells components) (texts_in list) (flat_map texts_in lists))

  -- the elements of a chain
  pub chain_elements : (d : Design) (c : ℕ) (chain : ScanChainText) → elements_of (chain_spec n cells d c chain) ≡ map (element_spec n cells d.components) (texts_of chain)
  chain_elements d c chain = lists_elements d.components chain.lists

  chain_count : (d : Design) (c : ℕ) (chain : ScanChainText) → length (elements_of (chain_spec n cells d c chain)) ≡ length (texts_of chain)
  chain_count d c chain = ap length (chain_elements d c chain) ∙ length-map (texts_of chain) (element_spec n cells d.components)

  -- as many elements
  pub same_count : (d : Design) (c : ℕ) (chains : List ScanChainText) → sum_by (λ chain. length (elements_of chain)) (specs_from n cells d c chains) ≡ element_count chains
  same_count d c [] = refl
  same_count d c (chain ∷ chains) =
      let front = sum_by-cons (λ (s : ChainSpec). length (elements_of s)) (chain_spec n cells d c chain) (specs_from n cells d (c + 1) chains) in
      let rest = sum_by-cons (λ (s : ScanChainText). length (texts_of s)) chain chains in
      let here = chain_count d c chain in
      let more = same_count d (c + 1) chains in
      omega arith

  -- as many chains
  pub same_length : (d : Design) (c : ℕ) (chains : List ScanChainText) → length (specs_from n cells d c chains) ≡ length chains
  same_length d c [] = refl
  same_length d c (chain ∷ chains) = let more = same_length d (c + 1) chains in omega arith

  -- the chain of a number
  pub spec_is : (d : Design) (k c : ℕ) (chains : List ScanChainText) → c < length chains → spec_at (specs_from n cells d k chains) c ≡ chain_spec n cells d (k + c) (get_or chains c no_text)
  spec_is d k c [] lt = absurd (omega arith)
  spec_is d k zero (chain ∷ chains) lt = ap (λ (m : ℕ). chain_spec n cells d m chain) (omega arith)
  spec_is d k (suc c) (chain ∷ chains) lt =
      let place : (k + 1) + c ≡ k + suc c = omega arith in
      spec_is d (k + 1) c chains (omega arith) ∙ ap (λ (m : ℕ). chain_spec n cells d m (get_or chains c no_text)) place

  list_has : (components : List Component) (list : ElementList) → 0 < length (texts_in list) → 0 < length (elements_in (list_spec n cells components list))
  list_has components list some =
      let same = ap length (list_elements components list) ∙ length-map (texts_in list) (element_spec n cells components) in omega arith

  chain_has : (d : Design) (c : ℕ) (chain : ScanChainText) → HasLists chain → HasElements (chain_spec n cells d c chain)
  chain_has d c chain has = record {
    list = (let same = length-map chain.lists (list_spec n cells d.components) in let some = has.some in omega arith);
    each = All-map (λ list. 0 < length (elements_in list)) (list_spec n cells d.components) chain.lists
        (All-weaker (λ list. 0 < length (texts_in list)) (λ list. 0 < length (elements_in (list_spec n cells d.components list))) (list_has d.components) chain.lists has.each);
  }

  chains_have : (d : Design) (c : ℕ) (chains : List ScanChainText) → All HasLists chains → All HasElements (specs_from n cells d c chains)
  chains_have d c [] all = All-nil HasElements
  chains_have d c (chain ∷ chains) all =
      All-cons HasElements (chain_spec n cells d c chain) (specs_from n cells d (c + 1) chains) (chain_has d c chain (All-head HasLists chain chains all)) (chains_have d (c + 1) chains (All-tail HasLists chain chains all))

  -- each chain of a sound design has a list, and each list an element
  pub have_elements : (d : Design) → IsSound d → All HasElements (chain_specs n cells d)
  have_elements d sound = chains_have d 0 d.chains sound.chains

record Last (xs : List ScanChainText) : Type 0 where
  front : List ScanChainText
  chain : ScanChainText
  is : xs ≡ front ++ chain ∷ []

last : (x : ScanChainText) (xs : List ScanChainText) → Last (x ∷ xs)
last x [] = record { front = []; chain = x; is = refl }
last x (y ∷ ys) = let rest = last y ys in record { front = x ∷ rest.front; chain = rest.chain; is = ap (λ (l : List ScanChainText). x ∷ l) rest.is }

within : (count : ℕ) → count ≤ 65537 → (65536 < count → ⊥) → count ≤ 65536
within count less never = grind (arith, never)

below : (count : ℕ) → (65536 < count → ⊥) → count ≤ 65536
below count never = elim (order 65537 count) [ inl more ↦ absurd (never (omega arith)) | inr less ↦ within count less never ]

not_many : (chains : List ScanChainText) → ((line : ℕ) → AreTooMany chains line → ⊥) → element_count chains ≤ 65536
not_many [] none = omega arith
not_many (x ∷ xs) none =
    let l = last x xs in
    let count : element_count (x ∷ xs) ≡ element_count (l.front ++ l.chain ∷ []) = ap element_count l.is in
    let few : element_count (l.front ++ l.chain ∷ []) ≤ 65536 =
    below (element_count (l.front ++ l.chain ∷ [])) (λ many. none l.chain.line (record { front = l.front; chain = l.chain; behind = []; is = l.is; many = many; line_is = refl })) in
    omega arith

-- without a fault there are 65536 elements at most
pub few_elements : (cells : Cells) (macros : NamedMacros) (d : Design) → IsFaultless cells macros d → element_count d.chains ≤ 65536
few_elements cells macros d none = not_many d.chains (λ line many. none _ (TooMany line many))

some_elements : (lists : List ElementList) → 0 < length lists → All (λ list. 0 < length (texts_in list)) lists → 0 < length (flat_map texts_in lists)
some_elements [] some all = absurd (omega arith)
some_elements (list ∷ lists) some all =
    let first = All-head (λ l. 0 < length (texts_in l)) list lists all in
    let both = length-append (texts_in list) (flat_map texts_in lists) in
    omega arith

-- no more chains than elements
pub fewer_chains : (chains : List ScanChainText) → All HasLists chains → length chains ≤ element_count chains
fewer_chains [] all = omega arith
fewer_chains (chain ∷ chains) all =
    let has = All-head HasLists chain chains all in
    let some = some_elements chain.lists has.some has.each in
    let more = fewer_chains chains (All-tail HasLists chain chains all) in
    let count = sum_by-cons (λ (s : ScanChainText). length (texts_of s)) chain chains in
    omega arith
