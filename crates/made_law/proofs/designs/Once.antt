-- Nothing of the made design stands a second time.
use Rattle.std.proofs.Common.{◌≡◌, ℕ, suc, ◌+◌, ◌-◌, ◌*◌, ◌%◌, ◌<◌, ◌≤◌, true, false, cond, eqb, List, [], ◌∷◌, ◌++◌, map, get_or, drop, refl, sym, ap, ◌∙◌, subst, codes, arith}
use Rattle.std.specs.Prelude.{nat_lt}
use Rattle.std.specs.List.{flat_map, range_with_len}
use Rattle.std.specs.Str.{bytes_eq}
use Rattle.std.specs.Str.Parse.{digits_value}
use Rattle.std.proofs.lemmas.Bool.Decides.{nat_tests}
use Rattle.std.proofs.lemmas.List.{map-append}
use Rattle.base_types.specs.Names.{plain_name}
use Rattle.def_syntax.specs.declared.design.Located.{Located}
use Rattle.def_syntax.specs.declared.chain.Chain.{Chain}
use Rattle.def_reader.specs.Faults.{names_in, StandsAgain, component_rows, pin_rows, net_rows, chain_rows, connection_rows, connections_of}
use Rattle.def_reader.specs.declared.design.Component.{Component}
use Rattle.def_reader.specs.declared.design.DesignPin.{DesignPin}
use Rattle.def_reader.specs.declared.design.NetPin.{NetPin}
use Rattle.def_reader.specs.declared.design.NetPin.TheVariants.{Cell, Port}
use Rattle.def_reader.specs.declared.design.Net.{Net}
use Rattle.def_reader.specs.declared.design.ScanChainText.{ScanChainText}
use Rattle.design_maker.specs.Chains.{last_unit}
use Rattle.made_law.specs.Designs.Names.{unit, unit_net, in_port, out_port, chain_name}
use Rattle.made_law.specs.Designs.Places.{Place, placed}
use Rattle.made_law.specs.Designs.MadeComponents.{units, made_component, made_components}
use Rattle.made_law.specs.Designs.MadePins as pins
use Rattle.made_law.specs.Designs.MadeNets as nets
use Rattle.made_law.specs.Designs.MadeChains.{chain_numbers, made_chain, made_chains}
use Rattle.made_law.proofs.designs.Numbers.{value_of}
use Rattle.made_law.proofs.designs.Rising.{Rising, rising_both, rising_range, never_again, rising_map, rising_flat_both, rising_flat, rising_lower}
use Rattle.made_law.proofs.designs.Chains.{Beside, chain_beside}

-- names of rows
row_names : {X K : Type 0} (name : X → K) (line : X → ℕ) (xs : List X) → names_in (map (λ x. (name x, line x)) xs) ≡ map name xs
row_names name line [] = refl
row_names {X} {K} name line (x ∷ xs) = ap (λ (l : List K). name x ∷ l) (row_names name line xs)

placed_names : {X Y K : Type 0} (name : Y → K) (of : X → K) (make : Place → X → Y) → ((p : Place) (x : X) → name (make p x) ≡ of x) → (at : ℕ → Place) (xs : List X) → map name (placed make at xs) ≡ map of xs
placed_names name of make is at [] = refl
placed_names {X} {Y} {K} name of make is at (x ∷ xs) =
    ap (λ (k : K). k ∷ map name (placed make (λ k. at (suc k)) xs)) (is (at 0) x) ∙ ap (λ (l : List K). of x ∷ l) (placed_names name of make is (λ k. at (suc k)) xs)

-- the number behind the first letter
abbrev number_in : List ℕ → ℕ
number_in w = digits_value 10 (drop 1 w)

abbrev number_behind : List ℕ → ℕ
number_behind w = digits_value 10 (drop 2 w)

components_rise : (n : ℕ) → n ≤ 16384 → Rising number_in 0 (map unit (units n)) n
components_rise n most = rising_range number_in unit 0 0 n 0 n (λ k from to. let v = value_of k (omega arith) in omega (arith, v)) (omega arith) (omega arith)

pub components_once : (n : ℕ) → n ≤ 16384 → (at : ℕ → Place) (cs : List Component) → cs ≡ made_components at n → (line : ℕ) → StandsAgain (component_rows cs) line → ⊥
components_once n most at cs e =
    never_again number_in 0 n (component_rows cs) (map unit (units n))
    (row_names (λ (c : Component). c.name) (λ c. c.line) cs ∙ ap (map (λ (c : Component). c.name)) e ∙ placed_names (λ (c : Component). c.name) unit made_component (λ p x. refl) at (units n))
    (components_rise n most)

-- names of ports and nets in their order
abbrev name_key : List ℕ → ℕ
name_key w =
    cond (eqb (get_or w 0 0) 113) (11 + number_in w)
    (cond (eqb (get_or w 1 0) 105) (3 + number_behind w)
    (cond (eqb (get_or w 1 0) 111) (20 + number_behind w) (cond (eqb (get_or w 0 0) 99) 0 (cond (eqb (get_or w 0 0) 115) 1 2))))

in_key : (k : ℕ) → k < 8 → name_key (in_port k) ≡ 3 + k
in_key k lt = let v = value_of k (omega arith) in omega (arith, v)

out_key : (k : ℕ) → k < 8 → name_key (out_port k) ≡ 20 + k
out_key k lt = let v = value_of k (omega arith) in omega (arith, v)

net_key : (i : ℕ) → i < 16384 → name_key (unit_net i) ≡ 11 + i
net_key i lt = let v = value_of i (omega arith) in omega (arith, v)

abbrev pin_row_key : pins.PinRow → ℕ
pin_row_key r = name_key r.name

pins_rise : (n : ℕ) → Rising pin_row_key 0 (pins.pin_rows n) 28
pins_rise n = (
  omega arith,
  (
    omega arith,
    (
      omega arith,
      rising_both pin_row_key 3 11 28 (map pins.in_pin (range_with_len 0 8)) (map (pins.out_pin n) (range_with_len 0 8))
          (rising_range pin_row_key pins.in_pin 3 3 11 0 8 (λ k from to. in_key k (omega arith)) (omega arith) (omega arith))
          (rising_range pin_row_key (pins.out_pin n) 20 11 28 0 8 (λ k from to. out_key k (omega arith)) (omega arith) (omega arith)),
    ),
  ),
)

pub pins_once : (n : ℕ) (at : ℕ → Place) (ps : List DesignPin) → ps ≡ pins.made_pins at n → (line : ℕ) → StandsAgain (pin_rows ps) line → ⊥
pins_once n at ps e =
    never_again name_key 0 28 (pin_rows ps) (map (λ (r : pins.PinRow). r.name) (pins.pin_rows n))
    (row_names (λ (p : DesignPin). p.name) (λ p. p.line) ps ∙ ap (map (λ (p : DesignPin). p.name)) e ∙ placed_names (λ (p : DesignPin). p.name) (λ (r : pins.PinRow). r.name) pins.made_pin (λ p x. refl) at (pins.pin_rows n))
    (rising_map name_key (λ (r : pins.PinRow). r.name) 0 28 (pins.pin_rows n) (pins_rise n))

abbrev net_row_key : nets.NetRow → ℕ
net_row_key r = name_key r.name

nets_rise : (n : ℕ) → 8 ≤ n → n ≤ 16384 → Rising net_row_key 0 (nets.net_rows n) (11 + n)
nets_rise n some most = (
  omega arith,
  (
    omega arith,
    (
      omega arith,
      rising_both net_row_key 3 11 (11 + n) (map nets.in_net (range_with_len 0 8)) (map nets.inner_net (range_with_len 0 (n - 8)) ++ map (λ j. nets.out_net (n - 8 + j)) (range_with_len 0 8))
          (rising_range net_row_key nets.in_net 3 3 11 0 8 (λ k from to. in_key k (omega arith)) (omega arith) (omega arith))
          (rising_both net_row_key 11 (11 + (n - 8)) (11 + n) (map nets.inner_net (range_with_len 0 (n - 8))) (map (λ j. nets.out_net (n - 8 + j)) (range_with_len 0 8))
          (rising_range net_row_key nets.inner_net 11 11 (11 + (n - 8)) 0 (n - 8) (λ k from to. net_key k (omega arith)) (omega arith) (omega arith))
          (rising_range net_row_key (λ j. nets.out_net (n - 8 + j)) (11 + (n - 8)) (11 + (n - 8)) (11 + n) 0 8 (λ k from to. let h = net_key (n - 8 + k) (omega arith) in omega (arith, h)) (omega arith) (omega arith))),
    ),
  ),
)

pub nets_once : (n : ℕ) → 8 ≤ n → n ≤ 16384 → (at : ℕ → Place) (ns : List Net) → ns ≡ nets.made_nets at n → (line : ℕ) → StandsAgain (net_rows ns) line → ⊥
nets_once n some most at ns e =
    never_again name_key 0 (11 + n) (net_rows ns) (map (λ (r : nets.NetRow). r.name) (nets.net_rows n))
    (row_names (λ (m : Net). m.name) (λ m. m.line) ns ∙ ap (map (λ (m : Net). m.name)) e ∙ placed_names (λ (m : Net). m.name) (λ (r : nets.NetRow). r.name) nets.made_net (λ p x. refl) at (nets.net_rows n))
    (rising_map name_key (λ (r : nets.NetRow). r.name) 0 (11 + n) (nets.net_rows n) (nets_rise n some most))

-- chains
chain_names : (c : Beside) (cs : List (Located Chain)) → names_in (chain_rows cs) ≡ map (λ (h : ScanChainText). h.name) (map (chain_beside c) cs)
chain_names c [] = refl
chain_names c (h ∷ cs) = ap (λ (l : List (List ℕ)). plain_name h.statement.name ∷ l) (chain_names c cs)

pub chains_once : (n : ℕ) (at : ℕ → Place) (c : Beside) (cs : List (Located Chain)) → map (chain_beside c) cs ≡ made_chains at n → (line : ℕ) → StandsAgain (chain_rows cs) line → ⊥
chains_once n at c cs e =
    never_again number_in 0 8 (chain_rows cs) (map chain_name chain_numbers)
    (chain_names c cs ∙ ap (map (λ (h : ScanChainText). h.name)) e ∙ placed_names (λ (h : ScanChainText). h.name) chain_name (made_chain n) (λ p x. refl) at chain_numbers)
    (rising_range number_in chain_name 0 0 8 0 8 (λ k from to. let v = value_of k (omega arith) in omega (arith, v)) (omega arith) (omega arith))

-- connections in the order of the nets
abbrev port_key : ℕ → List ℕ → ℕ
port_key n w =
    cond (eqb (get_or w 1 0) 105) (60000 + 2 * number_behind w)
    (cond (eqb (get_or w 1 0) 111) (70001 + 2 * last_unit n (number_behind w)) (cond (eqb (get_or w 0 0) 99) 0 (cond (eqb (get_or w 0 0) 115) 20000 40000)))

abbrev cell_key : ℕ → List ℕ → ℕ
cell_key i pin =
    cond (bytes_eq pin (codes "CK")) (1 + i)
    (cond (bytes_eq pin (codes "SE")) (20001 + i)
    (cond (bytes_eq pin (codes "D")) (40001 + i)
    (cond (bytes_eq pin (codes "Q")) (70000 + 2 * i) (cond (nat_lt i 8) (60001 + 2 * i) (70001 + 2 * (i - 8))))))

abbrev pin_key : ℕ → NetPin → ℕ
pin_key n (Cell component pin) = cell_key (number_in component) pin
pin_key n (Port port) = port_key n port

-- the last unit of its chain
last_is : (n i : ℕ) → 8 ≤ n → n ≤ i + 8 → i < n → last_unit n (i % 8) ≡ i
last_is n i some from to = omega arith

wide_rise : (n base : ℕ) (port pin : List ℕ) → n ≤ 16384 → port_key n port ≡ base → ((i : ℕ) → cell_key i pin ≡ base + 1 + i) → Rising (pin_key n) base (nets.wide_net port pin n).pins (base + 20000)
wide_rise n base port pin most p c = (
  omega (arith, p),
  rising_range (pin_key n) (λ i. Cell (unit i) pin) (base + 1) (port_key n port + 1) (base + 20000) 0 n (λ k from to. let v = value_of k (omega arith) in ap (λ (i : ℕ). cell_key i pin) v ∙ c k) (omega (arith, p)) (omega arith),
)

in_net_rise : (n k : ℕ) → k < 8 → Rising (pin_key n) (60000 + 2 * k) (nets.in_net k).pins (60000 + 2 * (k + 1))
in_net_rise n k lt =
    let v = value_of k (omega arith) in
    let low : nat_lt k 8 ≡ true = grind (arith, nat_tests) in
    let port : port_key n (in_port k) ≡ 60000 + 2 * k = ap (λ (i : ℕ). 60000 + 2 * i) v in
    let cell : pin_key n (Cell (unit k) (codes "SI")) ≡ 60001 + 2 * k = rw (v, low) refl in
    (omega (arith, port), (omega (arith, port, cell), omega (arith, cell)))

inner_net_rise : (n i : ℕ) → i < 16384 → Rising (pin_key n) (70000 + 2 * i) (nets.inner_net i).pins (70000 + 2 * (i + 1))
inner_net_rise n i lt =
    let v = value_of i (omega arith) in
    let w = value_of (i + 8) (omega arith) in
    let high : nat_lt (i + 8) 8 ≡ false = grind (arith, nat_tests) in
    let output : pin_key n (Cell (unit i) (codes "Q")) ≡ 70000 + 2 * i = ap (λ (j : ℕ). 70000 + 2 * j) v in
    let input : pin_key n (Cell (unit (i + 8)) (codes "SI")) ≡ 70001 + 2 * (i + 8 - 8) = rw (w, high) refl in
    (omega (arith, output), (omega (arith, output, input), omega (arith, input)))

out_net_rise : (n i : ℕ) → 8 ≤ n → n ≤ 16384 → n ≤ i + 8 → i < n → Rising (pin_key n) (70000 + 2 * i) (nets.out_net i).pins (70000 + 2 * (i + 1))
out_net_rise n i some most from to =
    let v = value_of i (omega arith) in
    let w = value_of (i % 8) (omega arith) in
    let output : pin_key n (Cell (unit i) (codes "Q")) ≡ 70000 + 2 * i = ap (λ (j : ℕ). 70000 + 2 * j) v in
    let port : port_key n (out_port (i % 8)) ≡ 70001 + 2 * i = ap (λ (j : ℕ). 70001 + 2 * last_unit n j) w ∙ ap (λ (j : ℕ). 70001 + 2 * j) (last_is n i some from to) in
    (omega (arith, output), (omega (arith, output, port), omega (arith, port)))

abbrev row_pins : nets.NetRow → List NetPin
row_pins r = r.pins

scan_rise : (n : ℕ) → 8 ≤ n → n ≤ 16384
    → Rising (pin_key n) 60000 (flat_map row_pins (map nets.in_net (range_with_len 0 8) ++ (map nets.inner_net (range_with_len 0 (n - 8)) ++ map (λ j. nets.out_net (n - 8 + j)) (range_with_len 0 8)))) (70000 + 2 * n)
scan_rise n some most =
    let ins = rising_flat (pin_key n) row_pins nets.in_net (λ k. 60000 + 2 * k) 0 8 (λ k from to. in_net_rise n k (omega arith)) in
    let inner = rising_flat (pin_key n) row_pins nets.inner_net (λ k. 70000 + 2 * k) 0 (n - 8) (λ k from to. inner_net_rise n k (omega arith)) in
    let outs = rising_flat (pin_key n) row_pins (λ j. nets.out_net (n - 8 + j)) (λ j. 70000 + 2 * (n - 8 + j)) 0 8
    (λ k from to.
    let e : n - 8 + k + 1 ≡ n - 8 + (k + 1) = omega arith in
    subst (λ (b : ℕ). Rising (pin_key n) (70000 + 2 * (n - 8 + k)) (row_pins (nets.out_net (n - 8 + k))) (70000 + 2 * b)) e (out_net_rise n (n - 8 + k) some most (omega arith) (omega arith)))
    in
    let all_in = map nets.in_net (range_with_len 0 8) in
    let all_inner = map nets.inner_net (range_with_len 0 (n - 8)) in
    let all_out = map (λ j. nets.out_net (n - 8 + j)) (range_with_len 0 8) in
    let a : 70000 + 2 * (0 + (n - 8)) ≡ 70000 + 2 * (n - 8 + 0) = omega arith in
    let b : 70000 + 2 * (n - 8 + (0 + 8)) ≡ 70000 + 2 * n = omega arith in
    rising_flat_both (pin_key n) row_pins 60000 60016 (70000 + 2 * n) all_in (all_inner ++ all_out) ins
    (rising_lower (pin_key n) 60016 70000 (70000 + 2 * n) (flat_map row_pins (all_inner ++ all_out)) (omega arith)
    (rising_flat_both (pin_key n) row_pins 70000 (70000 + 2 * (0 + (n - 8))) (70000 + 2 * n) all_inner all_out inner
    (subst (λ (c : ℕ). Rising (pin_key n) c (flat_map row_pins all_out) (70000 + 2 * n)) (sym a) (subst (λ (c : ℕ). Rising (pin_key n) (70000 + 2 * (n - 8 + 0)) (flat_map row_pins all_out) c) b outs))))

connections_rise : (n : ℕ) → 8 ≤ n → n ≤ 16384 → Rising (pin_key n) 0 (flat_map row_pins (nets.net_rows n)) (70000 + 2 * n)
connections_rise n some most =
    let clk = nets.wide_net (codes "clk") (codes "CK") n in
    let se = nets.wide_net (codes "se") (codes "SE") n in
    let d = nets.wide_net (codes "d") (codes "D") n in
    let scan = map nets.in_net (range_with_len 0 8) ++ (map nets.inner_net (range_with_len 0 (n - 8)) ++ map (λ j. nets.out_net (n - 8 + j)) (range_with_len 0 8)) in
    rising_both (pin_key n) 0 20000 (70000 + 2 * n) clk.pins (flat_map row_pins (se ∷ d ∷ scan)) (wide_rise n 0 (codes "clk") (codes "CK") most refl (λ i. omega arith))
    (rising_both (pin_key n) 20000 40000 (70000 + 2 * n) se.pins (flat_map row_pins (d ∷ scan)) (wide_rise n 20000 (codes "se") (codes "SE") most refl (λ i. omega arith))
    (rising_both (pin_key n) 40000 60000 (70000 + 2 * n) d.pins (flat_map row_pins scan) (wide_rise n 40000 (codes "d") (codes "D") most refl (λ i. omega arith)) (scan_rise n some most)))

same_pins : (line : ℕ) (ps : List NetPin) → names_in (map (λ p. (p, line)) ps) ≡ ps
same_pins line [] = refl
same_pins line (p ∷ ps) = ap (λ (l : List NetPin). p ∷ l) (same_pins line ps)

connection_names : (ns : List Net) → names_in (connection_rows ns) ≡ flat_map (λ m. m.pins) ns
connection_names [] = refl
connection_names (m ∷ ns) =
    map-append (λ (r : NetPin × ℕ). r.0) (connections_of m) (connection_rows ns) ∙ ap (λ (l : List NetPin). l ++ names_in (connection_rows ns)) (same_pins m.line m.pins)
    ∙ ap (λ (l : List NetPin). m.pins ++ l) (connection_names ns)

placed_pins : (at : ℕ → Place) (rs : List nets.NetRow) → flat_map (λ (m : Net). m.pins) (placed nets.made_net at rs) ≡ flat_map row_pins rs
placed_pins at [] = refl
placed_pins at (r ∷ rs) = ap (λ (l : List NetPin). r.pins ++ l) (placed_pins (λ k. at (suc k)) rs)

pub connections_once : (n : ℕ) → 8 ≤ n → n ≤ 16384 → (at : ℕ → Place) (ns : List Net) → ns ≡ nets.made_nets at n → (line : ℕ) → StandsAgain (connection_rows ns) line → ⊥
connections_once n some most at ns e =
    never_again (pin_key n) 0 (70000 + 2 * n) (connection_rows ns) (flat_map row_pins (nets.net_rows n))
    (connection_names ns ∙ ap (flat_map (λ (m : Net). m.pins)) e ∙ placed_pins at (nets.net_rows n))
    (connections_rise n some most)
