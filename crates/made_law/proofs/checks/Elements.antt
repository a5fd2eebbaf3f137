-- Nothing is wrong with the elements of a made design.
use Rattle.std.proofs.Common.{◌≡◌, ℕ, zero, suc, ◌+◌, ◌*◌, ◌/◌, ◌%◌, ◌<◌, ◌≤◌, Bool, false, List, [], ◌∷◌, ◌++◌, length, map, drop, Some, Contains, refl, ap, ◌∙◌, subst, arith}
use Rattle.std.specs.Prelude.{option_map}
use Rattle.std.specs.List.{flat_map, filter_map, range_with_len, AllByRecursion as Each}
use Rattle.std.specs.Str.Parse.{digits_value}
use Rattle.std.proofs.lemmas.List.{append-nil, map-append, length-append}
use Rattle.std.proofs.lemmas.List.FromFn.{length-map-range_with_len}
use Rattle.std.proofs.lemmas.Bool.{both_ways}
use Rattle.cell_table.specs.Table.{small_cells}
use Rattle.def_syntax.proofs.FrameLaws.{each_append, each_front, each_behind}
use Rattle.def_reader.specs.declared.design.Element.{Element}
use Rattle.def_reader.specs.declared.design.ScanChainText.{ScanChainText}
use Rattle.def_reader.specs.Faults.{names_in, StandsAgain}
use Rattle.design_elements.specs.CellPins.{CellPins, pins_of, elements_of, cells_of, path_number}
use Rattle.design_elements.specs.Faults.{is_unknown, is_unplaced, has_no_path, has_no_macro, has_other_bits, FailsIn, element_rows, all_rows, AreTooMany, Unknown, Twice, Unplaced, Pin, Bits, Macro, TooMany}
use Rattle.design_maker.specs.Chains.{chain_length, unit_of}
use Rattle.made_law.specs.Designs.Names.{unit}
use Rattle.made_law.specs.Designs.Places.{Place, Places, placed}
use Rattle.made_law.specs.Designs.MadeMacros.{made_macros}
use Rattle.made_law.specs.Designs.MadeComponents.{made_components}
use Rattle.made_law.specs.Designs.MadeChains.{chain_numbers, element_numbers, made_element, made_chain, made_chains}
use Rattle.made_law.proofs.designs.Numbers.{value_of}
use Rattle.made_law.proofs.designs.Rising.{Rising, rising_range, never_again, rising_both}
use Rattle.made_law.specs.Checks.Laws.{ElementsLaw}
use Rattle.made_law.proofs.checks.Members.{sum_few}
use Rattle.made_law.proofs.checks.Units.{component_found, unit_pins, unit_within, chain_of, element_of, named_of}

module _ (n : ℕ) (some : 8 ≤ n) (most : n ≤ 16384) (at : Places) where
  known : (i : ℕ) → i < n → is_unknown small_cells (made_components at.components n) (unit_pins i) ≡ false
  known i lt = rw (component_found n at.components i most lt).1 refl

  is_placed : (i : ℕ) → i < n → is_unplaced (made_components at.components n) (unit_pins i) ≡ false
  is_placed i lt = rw (component_found n at.components i most lt).1 refl

  path_is : (i : ℕ) → i < n → path_number small_cells (made_components at.components n) (unit_pins i) ≡ Some 0
  path_is i lt = rw (component_found n at.components i most lt).1 refl

  has_path : (i : ℕ) → i < n → has_no_path small_cells (made_components at.components n) (unit_pins i) ≡ false
  has_path i lt = rw (path_is i lt) refl

  has_macro : (i : ℕ) → i < n → has_no_macro made_macros (made_components at.components n) (unit_pins i) ≡ false
  has_macro i lt = rw (component_found n at.components i most lt).1 refl

  none_fails : (bad : CellPins → Bool) (line : ℕ) → ((i : ℕ) → i < n → bad (unit_pins i) ≡ false) → FailsIn cells_of bad (made_chains at.chains n) line → ⊥
  none_fails bad line good h =
      let r = named_of n at.chains h.chain h.named some h.there h.listed in
      both_ways (bad h.named) (ap bad r.is ∙ good r.number r.low) h.fails

  no_bits : (line : ℕ) → FailsIn elements_of (has_other_bits small_cells (made_components at.components n)) (made_chains at.chains n) line → ⊥
  no_bits line h =
      let c = chain_of n at.chains h.chain h.there in
      let e = element_of n c.number c.place h.named (subst (λ (x : ScanChainText). Contains (elements_of x) h.named) c.is h.listed) in
      both_ways (has_other_bits small_cells (made_components at.components n) h.named) (ap (has_other_bits small_cells (made_components at.components n)) e.is) h.fails

  -- at most 2048 elements in a chain
  abbrev IsShort : ScanChainText → Type 0
  IsShort chain = length (elements_of chain) ≤ 2048

  short_chain : (p : Place) (k : ℕ) → IsShort (made_chain n p k)
  short_chain p k =
      let m = chain_length n k in
      let long = ap (λ (l : List Element). length l) (append-nil (map (made_element k) (element_numbers n k))) ∙ length-map-range_with_len (made_element k) 0 m in
      omega (arith, long)

  short_chains : (a : ℕ → Place) (ks : List ℕ) → Each IsShort (placed (made_chain n) a ks)
  short_chains a [] = tt
  short_chains a (k ∷ ks) = (short_chain (a 0) k, short_chains (λ j. a (suc j)) ks)

  few : (line : ℕ) → AreTooMany (made_chains at.chains n) line → ⊥
  few line h =
      let all = subst (Each IsShort) h.is (short_chains at.chains chain_numbers) in
      let last = each_behind IsShort h.front (h.chain ∷ h.behind) all in
      let bound = sum_few (λ (c : ScanChainText). length (elements_of c)) 2048 (h.front ++ h.chain ∷ []) (each_append IsShort h.front (h.chain ∷ []) (each_front IsShort h.front (h.chain ∷ h.behind) all) (last.0, tt)) in
      let size = length-append h.front (h.chain ∷ []) in
      let whole : 8 ≡ length (h.front ++ h.chain ∷ h.behind) = ap (λ (l : List ScanChainText). length l) h.is in
      let parts = length-append h.front (h.chain ∷ h.behind) in
      let many = h.many in
      omega (arith, bound, size, whole, parts, many)

  -- the rows of the elements
  abbrev name_of : ℕ → ℕ → List ℕ × ℕ
  name_of k t = (unit (unit_of k t), 0)

  row_from : (p : Place) (k a m : ℕ) → k < 8 → a + m ≤ chain_length n k
      → names_in (filter_map (λ e. option_map (λ path. ((e.component, path), p.line)) (path_number small_cells (made_components at.components n) (pins_of e))) (map (made_element k) (range_with_len a m))) ≡ map (name_of k) (range_with_len a m)
  row_from p k a zero lt fits = refl
  row_from p k a (suc m) lt fits =
      rw (path_is (unit_of k a) (unit_within n k a some lt (omega arith))) (ap (λ (l : List (List ℕ × ℕ)). name_of k a ∷ l) (row_from p k (a + 1) m lt (omega arith)))

  rows_of_chain : (p : Place) (k : ℕ) → k < 8 → names_in (element_rows small_cells (made_components at.components n) (made_chain n p k)) ≡ map (name_of k) (element_numbers n k)
  rows_of_chain p k lt =
      ap (λ (es : List Element). names_in (filter_map (λ e. option_map (λ path. ((e.component, path), p.line)) (path_number small_cells (made_components at.components n) (pins_of e))) es)) (append-nil (map (made_element k) (element_numbers n k)))
      ∙ row_from p k 0 (chain_length n k) lt (omega arith)

  rows_are : (a : ℕ → Place) (from m : ℕ) → from + m ≤ 8
      → names_in (all_rows small_cells (made_components at.components n) (placed (made_chain n) a (range_with_len from m))) ≡ flat_map (λ k. map (name_of k) (element_numbers n k)) (range_with_len from m)
  rows_are a from zero fits = refl
  rows_are a from (suc m) fits =
      let one = element_rows small_cells (made_components at.components n) (made_chain n (a 0) from) in
      let rest = all_rows small_cells (made_components at.components n) (placed (made_chain n) (λ j. a (suc j)) (range_with_len (from + 1) m)) in
      map-append (λ (r : (List ℕ × ℕ) × ℕ). r.0) one rest ∙ ap (λ (l : List (List ℕ × ℕ)). l ++ names_in rest) (rows_of_chain (a 0) from (omega arith))
      ∙ ap (λ (l : List (List ℕ × ℕ)). map (name_of from) (element_numbers n from) ++ l) (rows_are (λ j. a (suc j)) (from + 1) m (omega arith))

  -- chain by chain
  abbrev place_key : ℕ → ℕ
  place_key x = x % 8 * 4096 + x / 8

  abbrev row_key : List ℕ × ℕ → ℕ
  row_key q = place_key (digits_value 10 (drop 1 q.0))

  place_is : (k t : ℕ) → k < 8 → place_key (unit_of k t) ≡ k * 4096 + t
  place_is k t lt = omega arith

  chain_rises : (k : ℕ) → k < 8 → Rising row_key (k * 4096) (map (name_of k) (element_numbers n k)) ((k + 1) * 4096)
  chain_rises k lt =
      rising_range row_key (name_of k) (k * 4096) (k * 4096) ((k + 1) * 4096) 0 (chain_length n k)
      (λ t from to. ap place_key (value_of (unit_of k t) (omega arith)) ∙ place_is k t lt) (omega arith) (omega arith)

  all_rise : (from m : ℕ) → from + m ≤ 8 → Rising row_key (from * 4096) (flat_map (λ k. map (name_of k) (element_numbers n k)) (range_with_len from m)) ((from + m) * 4096)
  all_rise from zero fits = omega arith
  all_rise from (suc m) fits =
      let e : (from + 1 + m) * 4096 ≡ (from + suc m) * 4096 = omega arith in
      rising_both row_key (from * 4096) ((from + 1) * 4096) ((from + suc m) * 4096) (map (name_of from) (element_numbers n from)) (flat_map (λ k. map (name_of k) (element_numbers n k)) (range_with_len (from + 1) m)) (chain_rises from (omega arith))
      (subst (λ (b : ℕ). Rising row_key ((from + 1) * 4096) (flat_map (λ k. map (name_of k) (element_numbers n k)) (range_with_len (from + 1) m)) b) e (all_rise (from + 1) m (omega arith)))

  once : (line : ℕ) → StandsAgain (all_rows small_cells (made_components at.components n) (made_chains at.chains n)) line → ⊥
  once line h =
      never_again row_key 0 32768 (all_rows small_cells (made_components at.components n) (made_chains at.chains n)) (flat_map (λ k. map (name_of k) (element_numbers n k)) (range_with_len 0 8)) (rows_are at.chains 0 8 (omega arith)) (all_rise 0 8 (omega arith)) line h

pub elements_right : ElementsLaw
elements_right n at some most _ (Unknown line h) = none_fails n some most at (is_unknown small_cells (made_components at.components n)) line (known n some most at) h
elements_right n at some most _ (Twice line h) = once n some most at line h
elements_right n at some most _ (Unplaced line h) = none_fails n some most at (is_unplaced (made_components at.components n)) line (is_placed n some most at) h
elements_right n at some most _ (Pin line h) = none_fails n some most at (has_no_path small_cells (made_components at.components n)) line (has_path n some most at) h
elements_right n at some most _ (Bits line h) = no_bits n some most at line h
elements_right n at some most _ (Macro line h) = none_fails n some most at (has_no_macro made_macros (made_components at.components n)) line (has_macro n some most at) h
elements_right n at some most _ (TooMany line h) = few n some most at line h
