-- The pins and ports of the paths stand in the nets of a made design.
use Rattle.std.proofs.Common.{◌≡◌, ℕ, ◌+◌, ◌-◌, ◌%◌, ◌<◌, ◌≤◌, Bool, true, false, ◌||◌, List, [], ◌∷◌, ◌++◌, map, Option, Some, Contains, refl, sym, ap, ◌∙◌, subst, codes, arith, ◌⊎◌, inl, inr}
use Rattle.std.specs.Prelude.{is_none}
use Rattle.std.specs.List.{list_any, range_with_len, AllByRecursion as Each}
use Rattle.std.specs.Str.{bytes_eq}
use Rattle.std.proofs.lemmas.Option.{same_Some}
use Rattle.std.proofs.lemmas.Bool.{both_ways, cases_lt}
use Rattle.base_types.proofs.TruthValues.{bytes_are, bytes_same}
use Rattle.netlist_core.specs.declared.netlist.NetId.{NetId}
use Rattle.cell_table.specs.Table.{small_cells}
use Rattle.chain_trace.specs.declared.path.Step.{Step}
use Rattle.chain_trace.specs.declared.path.Path.{Path}
use Rattle.def_reader.specs.Agreement.{net_of_pin}
use Rattle.def_reader.specs.declared.design.NetPin.{NetPin}
use Rattle.def_reader.specs.declared.design.NetPin.TheVariants.{Cell, Port}
use Rattle.def_reader.specs.declared.design.Net.{Net}
use Rattle.def_reader.specs.declared.design.DesignPin.{DesignPin}
use Rattle.design_places.specs.NetPins.{same_pin, net_with, pin_named, lacks_in_net, lacks_out_net, lacks_port, names_other, InPin, OutPin, AtPort}
use Rattle.design_maker.specs.Chains.{unit_of, last_unit}
use Rattle.made_law.specs.Designs.Names.{unit, in_port, out_port}
use Rattle.made_law.specs.Designs.Places.{Places}
use Rattle.made_law.specs.Designs.MadePins as pins
use Rattle.made_law.specs.Designs.MadeNets.{NetRow, in_net, inner_net, out_net, net_rows, made_net, made_nets}
use Rattle.made_law.specs.Designs.MadeChains.{chain_numbers}
use Rattle.made_law.specs.Designs.MadeDesign.{made_design}
use Rattle.made_law.proofs.designs.Numbers.{value_of}
use Rattle.made_law.specs.Paths.MadeNetlist.{NetlistPlaces, net_id, in_number, out_number, made_netlist}
use Rattle.made_law.specs.Paths.MadePaths.{made_step, made_path}
use Rattle.made_law.proofs.paths.Joins.{number_there, shown_by, shown_port, shown_low}
use Rattle.made_law.proofs.paths.Sources.{instance_at}
use Rattle.made_law.proofs.paths.Netlists.{name_key}
use Rattle.made_law.specs.Checks.MadeAsked.{made_paths}
use Rattle.made_law.specs.Checks.Laws.{NetsLaw}
use Rattle.made_law.proofs.checks.Members.{of_map, of_placed, to_map, to_placed, number_in_range, each_contains, in_front, in_back, finds}
use Rattle.made_law.proofs.checks.Units.{unit_same, unit_within}
use Rattle.made_law.proofs.checks.Placing.{step_of}
use Rattle.made_law.proofs.checks.Traces.{in_name, out_name}
use Rattle.made_law.proofs.checks.Rows.{same_member, row_key, rows_rise, pin_key, pins_rise, IsPinOf, IsRowOf, rows_are, in_port_is, out_port_is, in_there, inner_there, out_there}

second_true : (a b : Bool) → b ≡ true → (a || (b || false)) ≡ true
second_true true b e = refl
second_true false true e = refl
second_true false false e = absurd cc

either : {P : Type 0} (a b : Bool) → (a || b) ≡ true → (a ≡ true → P) → (b ≡ true → P) → P
either true b e f g = f refl
either false b e f g = g e

module _ (n : ℕ) (v : NetlistPlaces) (d : Places) (some : 8 ≤ n) (most : n ≤ 16384) where
  -- a pin of a row stands in a net
  not_alone : (pin : NetPin) (r : NetRow) → Contains (net_rows n) r → list_any (same_pin pin) r.pins ≡ true → is_none (net_with (made_nets d.nets n) pin) ≡ false
  not_alone pin r there has =
      let p = to_placed made_net d.nets (net_rows n) r there in
      let f = finds (λ (m : Net). list_any (same_pin pin) m.pins) (made_nets d.nets n) (made_net p.0 r) p.1 has in
      ap (λ (o : Option Net). is_none o) f.is

  same_cell : (i : ℕ) (pin : List ℕ) → bytes_eq pin pin ≡ true → same_pin (Cell (unit i) pin) (Cell (unit i) pin) ≡ true
  same_cell i pin e = rw (unit_same i, e) refl

  has_input : (i : ℕ) → i < n → (i < 8) ⊎ (8 ≤ i) → is_none (net_with (made_nets d.nets n) (Cell (unit i) (codes "SI"))) ≡ false
  has_input i lt (inl low) =
      not_alone (Cell (unit i) (codes "SI")) (in_net i) (in_there n i low)
      (second_true (same_pin (Cell (unit i) (codes "SI")) (Port (in_port i))) (same_pin (Cell (unit i) (codes "SI")) (Cell (unit i) (codes "SI"))) (same_cell i (codes "SI") refl))
  has_input i lt (inr le) =
      let j = i - 8 in
      let e : j + 8 ≡ i = omega arith in
      subst (λ (k : ℕ). is_none (net_with (made_nets d.nets n) (Cell (unit k) (codes "SI"))) ≡ false) e
      (not_alone (Cell (unit (j + 8)) (codes "SI")) (inner_net j) (inner_there n j (omega arith))
      (second_true (same_pin (Cell (unit (j + 8)) (codes "SI")) (Cell (unit j) (codes "Q"))) (same_pin (Cell (unit (j + 8)) (codes "SI")) (Cell (unit (j + 8)) (codes "SI"))) (same_cell (j + 8) (codes "SI") refl)))

  has_output : (i : ℕ) → i < n → (i < n - 8) ⊎ (n - 8 ≤ i) → is_none (net_with (made_nets d.nets n) (Cell (unit i) (codes "Q"))) ≡ false
  has_output i lt (inl low) = not_alone (Cell (unit i) (codes "Q")) (inner_net i) (inner_there n i low) (rw (same_cell i (codes "Q") refl) refl)
  has_output i lt (inr le) = not_alone (Cell (unit i) (codes "Q")) (out_net i) (out_there n i some (omega arith) lt) (rw (same_cell i (codes "Q") refl) refl)

  in_right : (k t : ℕ) → unit_of k t < n → lacks_in_net (made_netlist v n) small_cells (made_design d n) (made_step k t) ≡ false
  in_right k t lt = rw (instance_at n v (unit_of k t) lt) (has_input (unit_of k t) lt (cases_lt (unit_of k t) 8))

  out_right : (k t : ℕ) → unit_of k t < n → lacks_out_net (made_netlist v n) small_cells (made_design d n) (made_step k t) ≡ false
  out_right k t lt = rw (instance_at n v (unit_of k t) lt) (has_output (unit_of k t) lt (cases_lt (unit_of k t) (n - 8)))

  -- a port among the pins of a row
  port_among : (key : ℕ) (name : List ℕ) (ps : List NetPin) → Each (IsPinOf n v key) ps → list_any (same_pin (Port name)) ps ≡ true → IsPinOf n v key (Port name)
  port_among key name [] h e = absurd cc
  port_among key name (Cell component pin ∷ ps) h e = port_among key name ps h.1 e
  port_among key name (Port other ∷ ps) h e =
      either (bytes_eq name other) (list_any (same_pin (Port name)) ps) e
      (λ same. subst (λ (w : List ℕ). IsPinOf n v key (Port w)) (sym (bytes_are name other same)) h.0)
      (λ more. port_among key name ps h.1 more)

  -- the row of a port is the one whose net it shows
  row_of_port : (name : List ℕ) (b : ℕ) (r s : NetRow) → net_of_pin (made_netlist v n) (Port name) ≡ Some (net_id b) → shown_by n b ≡ row_key s → Contains (net_rows n) r → Contains (net_rows n) s → list_any (same_pin (Port name)) r.pins ≡ true → r ≡ s
  row_of_port name b r s net shows there other has =
      let row = each_contains (IsRowOf n v) (net_rows n) r (rows_are n v some most) there in
      let p = port_among (row_key r) name r.pins row has in
      let same : net_id p.net ≡ net_id b = same_Some (net_id p.net) (net_id b) (sym p.is ∙ net) in
      same_member row_key 0 (19 + n) (net_rows n) r s (rows_rise n some most) there other (sym p.shown ∙ ap (λ (id : NetId). shown_by n id.0) same ∙ shows)

  port_right : (name : List ℕ) (b : ℕ) (s : NetRow) (q : pins.PinRow) → net_of_pin (made_netlist v n) (Port name) ≡ Some (net_id b) → shown_by n b ≡ row_key s → Contains (net_rows n) s → list_any (same_pin (Port name)) s.pins ≡ true
      → Contains (pins.pin_rows n) q → q.name ≡ name → q.net ≡ s.name → names_other (net_with (made_nets d.nets n) (Port name)) (pin_named (pins.made_pins d.pins n) name) ≡ false
  port_right name b s q net shows there has pin named named_net =
      let m = to_placed made_net d.nets (net_rows n) s there in
      let f = finds (λ (x : Net). list_any (same_pin (Port name)) x.pins) (made_nets d.nets n) (made_net m.0 s) m.1 has in
      let r = of_placed made_net d.nets (net_rows n) f.member f.there in
      let row = row_of_port name b r.member s net shows r.there there (subst (λ (x : Net). list_any (same_pin (Port name)) x.pins ≡ true) r.is f.passes) in
      let net_name : f.member.name ≡ s.name = ap (λ (x : Net). x.name) r.is ∙ ap (λ (x : NetRow). x.name) row in
      let p = to_placed pins.made_pin d.pins (pins.pin_rows n) q pin in
      let g = finds (λ (x : DesignPin). bytes_eq x.name name) (pins.made_pins d.pins n) (pins.made_pin p.0 q) p.1 (bytes_same q.name name named) in
      let t = of_placed pins.made_pin d.pins (pins.pin_rows n) g.member g.there in
      let pin_name : t.member.name ≡ name = bytes_are t.member.name name (subst (λ (x : DesignPin). bytes_eq x.name name ≡ true) t.is g.passes) in
      let pin_row = same_member pin_key 0 19 (pins.pin_rows n) t.member q (pins_rise n) t.there pin (ap name_key (pin_name ∙ sym named)) in
      let pin_net : g.member.net ≡ f.member.name = ap (λ (x : DesignPin). x.net) t.is ∙ ap (λ (x : pins.PinRow). x.net) pin_row ∙ named_net ∙ sym net_name in
      rw (f.is, g.is, bytes_same g.member.net f.member.name pin_net) refl

  in_pin_there : (k : ℕ) → k < 8 → Contains (pins.pin_rows n) (pins.in_pin k)
  in_pin_there k lt =
      in_back (pins.wide_pin (codes "clk") ∷ pins.wide_pin (codes "se") ∷ pins.wide_pin (codes "d") ∷ []) (map pins.in_pin (range_with_len 0 8) ++ map (pins.out_pin n) (range_with_len 0 8)) (pins.in_pin k)
      (in_front (map pins.in_pin (range_with_len 0 8)) (map (pins.out_pin n) (range_with_len 0 8)) (pins.in_pin k) (to_map pins.in_pin (range_with_len 0 8) k (number_there 0 8 k (omega arith) (omega arith))))

  out_pin_there : (k : ℕ) → k < 8 → Contains (pins.pin_rows n) (pins.out_pin n k)
  out_pin_there k lt =
      in_back (pins.wide_pin (codes "clk") ∷ pins.wide_pin (codes "se") ∷ pins.wide_pin (codes "d") ∷ []) (map pins.in_pin (range_with_len 0 8) ++ map (pins.out_pin n) (range_with_len 0 8)) (pins.out_pin n k)
      (in_back (map pins.in_pin (range_with_len 0 8)) (map (pins.out_pin n) (range_with_len 0 8)) (pins.out_pin n k) (to_map (pins.out_pin n) (range_with_len 0 8) k (number_there 0 8 k (omega arith) (omega arith))))

  in_key : (k : ℕ) → k < 8 → name_key (in_port k) ≡ 3 + k
  in_key k lt = let e = value_of k (omega arith) in omega (arith, e)

  input_right : (k : ℕ) → k < 8 → lacks_port (made_netlist v n) (made_design d n) (net_id (in_number k)) ≡ false
  input_right k lt =
      subst (λ (name : List ℕ). names_other (net_with (made_nets d.nets n) (Port name)) (pin_named (pins.made_pins d.pins n) name) ≡ false) (sym (in_name n k v lt))
      (port_right (in_port k) (in_number k) (in_net k) (pins.in_pin k) (in_port_is n v k lt) (shown_low n (in_number k) (omega arith) ∙ sym (in_key k lt)) (in_there n k lt) (rw (bytes_same (in_port k) (in_port k) refl) refl)
      (in_pin_there k lt) refl refl)

  unit_key : (i : ℕ) → i < n → row_key (out_net i) ≡ 19 + i
  unit_key i lt = let e = value_of i (omega arith) in omega (arith, e)

  output_right : (k : ℕ) → k < 8 → lacks_port (made_netlist v n) (made_design d n) (net_id (out_number k)) ≡ false
  output_right k lt =
      let i = last_unit n k in
      let same : k ≡ i % 8 = omega arith in
      let port : bytes_eq (out_port k) (out_port (i % 8)) ≡ true = bytes_same (out_port k) (out_port (i % 8)) (ap out_port same) in
      subst (λ (name : List ℕ). names_other (net_with (made_nets d.nets n) (Port name)) (pin_named (pins.made_pins d.pins n) name) ≡ false) (sym (out_name n k v lt))
      (port_right (out_port k) (out_number k) (out_net i) (pins.out_pin n k) (out_port_is n v k lt) (shown_port n k lt ∙ sym (unit_key i (omega arith))) (out_there n i some (omega arith) (omega arith))
      (second_true (same_pin (Port (out_port k)) (Cell (unit i) (codes "Q"))) (same_pin (Port (out_port k)) (Port (out_port (i % 8)))) port)
      (out_pin_there k lt) refl refl)

  port_of : (path : Path) (net : NetId) → Contains (made_paths n) path → (net ≡ path.input) ⊎ (net ≡ path.output) → lacks_port (made_netlist v n) (made_design d n) net ≡ false
  port_of path net there (inl e) =
      let r = of_map (made_path n) chain_numbers path there in
      let low : r.member < 8 = (let q = (number_in_range 0 8 r.member r.there).1 in omega (arith, q)) in
      ap (lacks_port (made_netlist v n) (made_design d n)) (e ∙ ap (λ (p : Path). p.input) r.is) ∙ input_right r.member low
  port_of path net there (inr e) =
      let r = of_map (made_path n) chain_numbers path there in
      let low : r.member < 8 = (let q = (number_in_range 0 8 r.member r.there).1 in omega (arith, q)) in
      ap (lacks_port (made_netlist v n) (made_design d n)) (e ∙ ap (λ (p : Path). p.output) r.is) ∙ output_right r.member low

  no_in : (path : Path) (step : Step) → Contains (made_paths n) path → Contains path.steps step → lacks_in_net (made_netlist v n) small_cells (made_design d n) step ≡ true → ⊥
  no_in path step there on h =
      let s = step_of n path step there on in
      both_ways (lacks_in_net (made_netlist v n) small_cells (made_design d n) step) (ap (lacks_in_net (made_netlist v n) small_cells (made_design d n)) s.is ∙ in_right s.chain s.number (unit_within n s.chain s.number some s.low s.within)) h

  no_out : (path : Path) (step : Step) → Contains (made_paths n) path → Contains path.steps step → lacks_out_net (made_netlist v n) small_cells (made_design d n) step ≡ true → ⊥
  no_out path step there on h =
      let s = step_of n path step there on in
      both_ways (lacks_out_net (made_netlist v n) small_cells (made_design d n) step) (ap (lacks_out_net (made_netlist v n) small_cells (made_design d n)) s.is ∙ out_right s.chain s.number (unit_within n s.chain s.number some s.low s.within)) h

pub nets_right : NetsLaw
nets_right n v d some most _ (InPin path step there on h) = no_in n v d some most path step there on h
nets_right n v d some most _ (OutPin path step there on h) = no_out n v d some most path step there on h
nets_right n v d some most _ (AtPort path net there at h) = both_ways (lacks_port (made_netlist v n) (made_design d n) net) (port_of n v d some most path net there at) h
