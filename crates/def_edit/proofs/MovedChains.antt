-- What the chains that are written are read as.
use Rattle.std.proofs.Common.{◌≡◌, ℕ, ◌≤◌, ◌<◌, Bool, true, false, cond, List, [], ◌∷◌, length, map, decimal, Option, Some, None, refl, sym, ap, ◌∙◌, arith}
use Rattle.std.specs.Prelude.{option_map, option_and_then, unwrap_or, is_some, nat_le, ◌&&◌, ℤ, pos, negsuc}
use Rattle.std.specs.List.{find, AllByRecursion as Each}
use Rattle.std.specs.Str.{bytes_eq}
use Rattle.std.proofs.lemmas.Bool.Decides.{nat_tests}
use Rattle.std.proofs.lemmas.List.{map-append}
use Rattle.base_types.specs.Names.{plain_name}
use Rattle.cell_table.specs.Cells.{Cells}
use Rattle.def_tokens.specs.Numbers.{integer_of}
use Rattle.def_syntax.specs.declared.design.Located.{Located}
use Rattle.def_syntax.specs.declared.element.ElementList.TheVariants as list_texts
use Rattle.def_syntax.specs.declared.chain.Chain.{Chain}
use Rattle.def_syntax.specs.declared.chain.CommonPins.{CommonPins}
use Rattle.def_syntax.specs.declared.chain.Partition.{Partition}
use Rattle.def_syntax.specs.declared.chain.Terminal.{Terminal}
use Rattle.def_syntax.specs.declared.chain.Terminal.TheVariants as terminals
use Rattle.def_reader.specs.declared.design.Component.{Component}
use Rattle.def_reader.specs.declared.design.Design.{Design}
use Rattle.def_reader.specs.declared.design.Element.{Element}
use Rattle.def_reader.specs.declared.design.ElementList.TheVariants as lists
use Rattle.def_reader.specs.declared.design.EndText.TheVariants as ends
use Rattle.def_reader.specs.Numbers.{between, bits_of}
use Rattle.def_reader.specs.Designs.{element_of, list_of, end_of, max_bits_in, chain_of}
use Rattle.def_layout.specs.SectionForms.{partition_of, max_bits_of, terminal_of, floating_of}
use Rattle.def_layout.specs.SectionForms.{element_of as read_element}
use Rattle.def_layout.proofs.NumberWords.{number_number}
use Rattle.def_edit.specs.Alike.Fields.{chain_fields, chain_read}
use Rattle.def_edit.proofs.alike.Denoting.{few_bits}
use Rattle.def_edit.specs.declared.chains.NewElement.{NewElement}
use Rattle.def_edit.specs.declared.chains.NewChain.{NewChain}
use Rattle.def_edit.specs.Words.{word_for, end_word}
use Rattle.def_edit.specs.NewChains.{element_layout, terminal_layout, max_bits, partition_layout, chain_layout, chain_layouts, new_element, floating_list, new_end, new_chain, new_chains_of, IsNewElement, IsNewChain, AreNewChains}
use Rattle.def_edit.proofs.MovedWords.{ArePlain, word_plain, found_plain, end_plain}

abbrev pub argument_type : {A B : Type 0} → (A → B) → Type 0
argument_type {A} f = A

abbrev pub Side : Type 0
Side = argument_type end_of

-- a number of bits is small
pub few_most : (o : Option ℤ) → unwrap_or (between 0 262144 o) 0 ≤ 262144
few_most None = omega arith
few_most (Some (pos n)) = step (nat_le n 262144) refl
  where
    step : (b : Bool) → nat_le n 262144 ≡ b → unwrap_or (cond (nat_le 0 n && b) (Some n) None) 0 ≤ 262144
    step true e = let le : n ≤ 262144 = grind (arith, nat_tests) in of (nat_le 0 n) le
      where
        of : (a : Bool) → n ≤ 262144 → unwrap_or (cond (a && true) (Some n) None) 0 ≤ 262144
        of true le = le
        of false le = omega arith
    step false e = of (nat_le 0 n)
      where
        of : (a : Bool) → unwrap_or (cond (a && false) (Some n) None) 0 ≤ 262144
        of true = omega arith
        of false = omega arith
few_most (Some (negsuc n)) = omega arith

pub bits_back : (n : ℕ) → n ≤ 262144 → bits_of (decimal n) ≡ Some n
bits_back n few = few_bits n (number_number n) few

-- MAXBITS is read back
most_back : (o : Option (List ℕ)) → unwrap_or (option_and_then bits_of (max_bits_of (max_bits o))) 0 ≡ unwrap_or (option_and_then bits_of o) 0
most_back None = refl
most_back (Some w) = rw (bits_back (unwrap_or (bits_of w) 0) (few_most (integer_of w))) refl

partition_most : (p : Option Partition) → unwrap_or (option_and_then bits_of (max_bits_in (partition_of (option_map partition_layout p)))) 0 ≡ unwrap_or (option_and_then bits_of (max_bits_in p)) 0
partition_most None = refl
partition_most (Some p) = most_back p.max_bits

has_most : (o : Option (List ℕ)) → is_some (max_bits_of (max_bits o)) ≡ is_some o
has_most None = refl
has_most (Some w) = refl

partition_has : (p : Option Partition) → is_some (max_bits_in (partition_of (option_map partition_layout p))) ≡ is_some (max_bits_in p)
partition_has None = refl
partition_has (Some p) = has_most p.max_bits

partition_name : (p : Option Partition) → option_map (λ (x : Partition). plain_name x.name) (partition_of (option_map partition_layout p)) ≡ option_map (λ (x : Partition). plain_name x.name) p
partition_name None = refl
partition_name (Some p) = ap Some (word_plain p.name)

module _ (cells : Cells) (cs : List Component) (plain : ArePlain cs) where
  -- a start or a stop is read back
  end_back : (side : Side) (common : Option CommonPins) (t : Terminal) (pin : List ℕ) → end_of side cells cs None (terminal_of (terminal_layout cs t pin)) ≡ new_end (end_of side cells cs common t) pin
  end_back side common (terminals.AtPin name) pin = ap ends.Port (word_plain name)
  end_back side common (terminals.AtCell w was) pin =
      ap (λ (n : List ℕ). ends.Cell n (Some (plain_name (word_for pin)))) (word_plain (end_word cs w) ∙ end_plain cs plain w) ∙ ap (λ (n : List ℕ). ends.Cell (plain_name w) (Some n)) (word_plain pin)

  module _ (d : Design) (components : d.components ≡ cs) where
    -- so are the elements
    element_back : (e : NewElement) → IsNewElement d e → element_of cells cs None (read_element (element_layout cs e)) ≡ new_element e
    element_back e is =
        rw (found_plain cs plain e.component e.component is.component.0 (ap (λ (l : List Component). find (λ x. bytes_eq x.name e.component) l) (sym components) ∙ is.component.1), word_plain e.input, word_plain e.output, bits_back e.bits is.bits) refl

    elements_back : (es : List NewElement) → Each (IsNewElement d) es → map (element_of cells cs None) (map read_element (map (element_layout cs) es)) ≡ map new_element es
    elements_back [] h = refl
    elements_back (e ∷ es) h = rw (element_back e h.0, elements_back es h.1) refl

    floating_back : (es : List NewElement) → Each (IsNewElement d) es → map (list_of cells cs None) (floating_of (map (element_layout cs) es)) ≡ floating_list es
    floating_back [] h = refl
    floating_back (e ∷ es) h = ap (λ (l : List Element). lists.Floating l ∷ []) (elements_back (e ∷ es) h)

    ordered_back : (ess : List (List NewElement)) → Each (λ es. (0 < length es) × Each (IsNewElement d) es) ess
        → map (list_of cells cs None) (map (λ es. list_texts.Ordered (map read_element es)) (map (map (element_layout cs)) ess)) ≡ map (λ es. lists.Ordered (map new_element es)) ess
    ordered_back [] h = refl
    ordered_back (es ∷ ess) h = rw (elements_back es h.0.1, ordered_back ess h.1) refl

    -- a chain is read back as the one with the other elements
    chain_back : (c : Located Chain) (new : NewChain) → IsNewChain d (chain_of cells cs c) new → chain_read cells cs (chain_layout cs c.statement new) ≡ chain_fields (new_chain (chain_of cells cs c) new)
    chain_back c new is =
        let common = c.statement.common_pins in
        let f = floating_back new.floating is.floating in
        let o = ordered_back new.ordered is.ordered in
        let l = map-append (list_of cells cs None) (floating_of (map (element_layout cs) new.floating)) (map (λ es. list_texts.Ordered (map read_element es)) (map (map (element_layout cs)) new.ordered)) in
        rw (l, f, o, end_back _ common c.statement.start new.start, end_back _ common c.statement.stop new.stop, partition_name c.statement.partition, partition_most c.statement.partition, partition_has c.statement.partition) refl

    pub chains_back : (chains : List (Located Chain)) (news : List NewChain)
        → AreNewChains d (map (chain_of cells cs) chains) news → map (chain_read cells cs) (chain_layouts cs chains news) ≡ map chain_fields (new_chains_of (map (chain_of cells cs) chains) news)
    unfolding chain_layouts
    chains_back [] [] is = refl
    chains_back [] (new ∷ news) is = absurd is
    chains_back (c ∷ chains) [] is = absurd is
    chains_back (c ∷ chains) (new ∷ news) is = rw (chain_back c new is.0, chains_back chains news is.1) refl
