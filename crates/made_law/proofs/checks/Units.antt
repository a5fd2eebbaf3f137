-- The units of a made design by their names, and the chains that name them.
use Rattle.std.proofs.Common.{◌≡◌, ℕ, ◌^◌, ◌<◌, ◌≤◌, true, false, List, map, drop, decimal, Some, Contains, refl, ap, ◌∙◌, subst, codes, arith}
use Rattle.std.specs.List.{find}
use Rattle.std.specs.Str.{bytes_eq}
use Rattle.std.proofs.lemmas.Fmt.{decimal_injective}
use Rattle.std.proofs.lemmas.List.{append-nil}
use Rattle.std.proofs.lemmas.Bool.{false_from_ne_true}
use Rattle.base_types.proofs.TruthValues.{bytes_are, bytes_same}
use Rattle.def_reader.specs.declared.design.Component.{Component}
use Rattle.def_reader.specs.declared.design.Element.{Element}
use Rattle.def_reader.specs.declared.design.ScanChainText.{ScanChainText}
use Rattle.design_elements.specs.CellPins.{CellPins, pins_of, elements_of, cells_of}
use Rattle.design_maker.specs.Chains.{chain_length, unit_of}
use Rattle.made_law.specs.Designs.Names.{unit}
use Rattle.made_law.specs.Designs.Places.{Place}
use Rattle.made_law.specs.Designs.MadeComponents.{made_component, made_components}
use Rattle.made_law.specs.Designs.MadeChains.{chain_numbers, element_numbers, made_element, made_chain, made_chains}
use Rattle.made_law.proofs.checks.Members.{of_map, of_placed, number_in_range, find_placed}

pub unit_same : (i : ℕ) → bytes_eq (unit i) (unit i) ≡ true
unit_same i = bytes_same (unit i) (unit i) refl

pub unit_differs : (i j : ℕ) → i < 2 ^ 64 → j < i → bytes_eq (unit j) (unit i) ≡ false
unit_differs i j small less = false_from_ne_true (bytes_eq (unit j) (unit i)) (λ e.
    let names : unit j ≡ unit i = bytes_are (unit j) (unit i) e in
    let digits : decimal j ≡ decimal i = ap (drop 1) names in
    let same = decimal_injective j i (omega arith) small digits in
    omega (arith, same))

-- the component of unit i
pub component_found : (n : ℕ) (at : ℕ → Place) (i : ℕ) → n ≤ 16384 → i < n → (p : Place) × (find (λ (c : Component). bytes_eq c.name (unit i)) (made_components at n) ≡ Some (made_component p i))
component_found n at i most lt = find_placed (λ (c : Component). bytes_eq c.name (unit i)) made_component at 0 n i (omega arith) (omega arith) (λ p. unit_same i) (λ p j less. unit_differs i j (omega arith) less)

-- what a chain names of unit i
abbrev pub unit_pins : ℕ → CellPins
unit_pins i = record { component = unit i; input = Some (codes "SI"); output = Some (codes "Q") }

-- the units of a chain are below n
pub unit_within : (n k t : ℕ) → 8 ≤ n → k < 8 → t < chain_length n k → unit_of k t < n
unit_within n k t some lt less = omega arith

-- a chain of a made design
pub record IsChainOf (n : ℕ) (chain : ScanChainText) : Type 0 where
  pub number : ℕ
  pub low : number < 8
  pub place : Place
  pub is : chain ≡ made_chain n place number

pub chain_of : (n : ℕ) (at : ℕ → Place) (chain : ScanChainText) → Contains (made_chains at n) chain → IsChainOf n chain
chain_of n at chain h =
    let r = of_placed (made_chain n) at chain_numbers chain h in
    record { number = r.member; low = (let q = (number_in_range 0 8 r.member r.there).1 in omega (arith, q)); place = r.place; is = r.is }

-- an element of one
pub record IsElementOf (n k : ℕ) (e : Element) : Type 0 where
  pub number : ℕ
  pub low : number < chain_length n k
  pub is : e ≡ made_element k number

pub element_of : (n k : ℕ) (p : Place) (e : Element) → Contains (elements_of (made_chain n p k)) e → IsElementOf n k e
element_of n k p e h =
    let all = subst (λ (l : List Element). Contains l e) (append-nil (map (made_element k) (element_numbers n k))) h in
    let r = of_map (made_element k) (element_numbers n k) e all in
    record { number = r.member; low = (let q = (number_in_range 0 (chain_length n k) r.member r.there).1 in omega (arith, q)); is = r.is }

-- what a chain names is a unit with both pins
pub record NamesUnit (n : ℕ) (named : CellPins) : Type 0 where
  pub number : ℕ
  pub low : number < n
  pub is : named ≡ unit_pins number

pub named_of : (n : ℕ) (at : ℕ → Place) (chain : ScanChainText) (named : CellPins) → 8 ≤ n → Contains (made_chains at n) chain → Contains (cells_of chain) named → NamesUnit n named
named_of n at chain named some there listed =
    let c = chain_of n at chain there in
    let here = subst (λ (x : ScanChainText). Contains (cells_of x) named) c.is listed in
    let r = of_map pins_of (elements_of (made_chain n c.place c.number)) named here in
    let e = element_of n c.number c.place r.member r.there in
    record { number = unit_of c.number e.number; low = unit_within n c.number e.number some c.low e.low; is = r.is ∙ ap pins_of e.is }
