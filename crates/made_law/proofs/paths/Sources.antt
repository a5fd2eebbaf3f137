-- Sources and sinks of the made netlist by the numbers of their nets.
use Rattle.std.proofs.Common.{◌≡◌, ℕ, zero, suc, ◌+◌, ◌-◌, ◌<◌, ◌≤◌, Bool, true, false, ◌&&◌, ◌||◌, cond, eqb, if◌then◌else◌, map, Some, None, refl, sym, ap, ◌∙◌, subst, arith, ◌⊎◌, inl, inr}
use Rattle.std.specs.Prelude.{nat_lt}
use Rattle.std.specs.List.{list_any, slice_get, range_with_len}
use Rattle.std.proofs.lemmas.Bool.Decides.{nat_tests}
use Rattle.std.proofs.lemmas.Option.{same_Some, slice_get-get_or, slice_get_past}
use Rattle.std.proofs.lemmas.List.FromFn.{length-map-range_with_len, get_or-map-range_with_len}
use Rattle.std.proofs.lemmas.List.Folds.{list_any-append}
use Rattle.std.proofs.lemmas.Bool.{cases_lt}
use Rattle.base_types.proofs.TruthValues.{and_false}
use Rattle.netlist_core.specs.declared.netlist.NetId.{NetId}
use Rattle.netlist_core.specs.declared.netlist.Port.{Port}
use Rattle.netlist_core.specs.Joining.{AreJoined}
use Rattle.cell_table.specs.Table.{small_cells}
use Rattle.chain_trace.specs.declared.path.Source.{Source}
use Rattle.chain_trace.specs.declared.path.Source.TheVariants as sources
use Rattle.chain_trace.specs.declared.path.Sink.{Sink}
use Rattle.chain_trace.specs.declared.path.Sink.TheVariants as sinks
use Rattle.chain_trace.specs.Paths.{drives, is_driven, has_port, source_net, sink_net, AreApart, IsOnlySource}
use Rattle.made_law.specs.Designs.MadeComponents.{units}
use Rattle.made_law.specs.Paths.MadeNetlist.{NetlistPlaces, net_id, in_number, out_number, unit_number, input_number, made_instance, input_port, output_port, made_netlist}
use Rattle.made_law.proofs.paths.Joins.{shown_by, shown_low, shown_unit, joined_shown}

-- what holds of the numbers 0 to 7 holds of each number below 8
pub below_eight : (P : ℕ → Type 0) → P 0 → P 1 → P 2 → P 3 → P 4 → P 5 → P 6 → P 7 → (k : ℕ) → k < 8 → P k
below_eight P a b c d e f g h zero lt = a
below_eight P a b c d e f g h (suc zero) lt = b
below_eight P a b c d e f g h (suc (suc zero)) lt = c
below_eight P a b c d e f g h (suc (suc (suc zero))) lt = d
below_eight P a b c d e f g h (suc (suc (suc (suc zero)))) lt = e
below_eight P a b c d e f g h (suc (suc (suc (suc (suc zero))))) lt = f
below_eight P a b c d e f g h (suc (suc (suc (suc (suc (suc zero)))))) lt = g
below_eight P a b c d e f g h (suc (suc (suc (suc (suc (suc (suc zero))))))) lt = h
below_eight P a b c d e f g h (suc (suc (suc (suc (suc (suc (suc (suc k)))))))) lt = absurd (omega arith)

either : {P : Type 0} (a b : Bool) → (a || b) ≡ true → (a ≡ true → P) → (b ≡ true → P) → P
either true b e f g = f refl
either false b e f g = g e

and_on : (b : Bool) → (b && true) ≡ true → b ≡ true
and_on true e = refl
and_on false e = e

-- the source of a net
abbrev pub source_of : ℕ → Source
source_of x = cond (nat_lt x 19) (sources.Port (net_id x)) (sources.Out (record { instance = x - 19; path = 0; out = 0 }))

pub low_source : (x : ℕ) → x < 19 → sources.Port (net_id x) ≡ source_of x
low_source x lt = let low : nat_lt x 19 ≡ true = grind (arith, nat_tests) in rw low refl

pub unit_source : (i : ℕ) → sources.Out (record { instance = i; path = 0; out = 0 }) ≡ source_of (unit_number i)
unit_source i =
    let high : nat_lt (19 + i) 19 ≡ false = grind (arith, nat_tests) in
    let same : 19 + i - 19 ≡ i = omega arith in
    rw (high, same) refl

module _ (n : ℕ) (at : NetlistPlaces) where
  pub instance_at : (i : ℕ) → i < n → slice_get (map (made_instance at) (units n)) i ≡ Some (made_instance at i)
  instance_at i lt =
      let long = length-map-range_with_len (made_instance at) 0 n in
      slice_get-get_or (map (made_instance at) (units n)) i (made_instance at i) (omega (arith, long)) ∙ ap Some (get_or-map-range_with_len (made_instance at) 0 n i i (made_instance at i) lt (omega arith))

  no_instance : (i : ℕ) → n ≤ i → slice_get (map (made_instance at) (units n)) i ≡ None
  no_instance i le = let long = length-map-range_with_len (made_instance at) 0 n in slice_get_past (map (made_instance at) (units n)) i (omega (arith, long))

  -- only inputs drive
  abbrev test : NetId → Port → Bool
  test net port = eqb port.net.0 net.0 && drives port.direction

  inputs_low : (net : NetId) (a m : ℕ) → list_any (test net) (map (input_port at) (range_with_len a m)) ≡ true → net.0 < a + m
  inputs_low net a zero e = absurd cc
  inputs_low net a (suc m) e =
      either (eqb a net.0 && true) (list_any (test net) (map (input_port at) (range_with_len (a + 1) m))) e
      (λ h. let is = and_on (eqb a net.0) h in grind (arith, nat_tests))
      (λ h. let r = inputs_low net (a + 1) m h in omega (arith, r))

  outputs_none : (net : NetId) (a m : ℕ) → list_any (test net) (map (output_port at) (range_with_len a m)) ≡ false
  outputs_none net a zero = refl
  outputs_none net a (suc m) = rw (and_false (eqb a net.0)) (outputs_none net (a + 1) m)

  or_none : (a b : Bool) → b ≡ false → (a || b) ≡ true → a ≡ true
  or_none true b e f = refl
  or_none false b e f = sym e ∙ f

  driving_low : (net : NetId) → has_port drives (made_netlist at n) net ≡ true → net.0 < 11
  driving_low net e =
      let ins = map (input_port at) (range_with_len 0 11) in
      let outs = map (output_port at) (range_with_len 11 8) in
      let cut : (list_any (test net) ins || list_any (test net) outs) ≡ true = sym (list_any-append (test net) ins outs) ∙ e in
      inputs_low net 0 11 (or_none (list_any (test net) ins) (list_any (test net) outs) (outputs_none net 11 8) cut)

  -- what is known of the net of a source
  pub record IsSource (source : Source) (net : NetId) : Type 0 where
    pub is : source ≡ source_of net.0
    pub shown : shown_by n net.0 ≡ net.0

  port_source : (port net : NetId) (b : Bool) → has_port drives (made_netlist at n) port ≡ b → (if b then Some port else None) ≡ Some net → IsSource (sources.Port port) net
  port_source port net false h e = absurd cc
  port_source port net true h e =
      let same : port ≡ net = same_Some port net e in
      let low = driving_low port h in
      subst (IsSource (sources.Port port)) same (record { is = low_source port.0 (omega (arith, low)); shown = shown_low n port.0 low })

  -- by which net an out pin goes
  pub out_is : (i : ℕ) → i < n → source_net (made_netlist at n) small_cells (sources.Out (record { instance = i; path = 0; out = 0 })) ≡ Some (net_id (unit_number i))
  out_is i lt = rw (instance_at i lt) refl

  no_path : (i p o : ℕ) → i < n → source_net (made_netlist at n) small_cells (sources.Out (record { instance = i; path = suc p; out = o })) ≡ None
  no_path i p o lt = rw (instance_at i lt) refl

  no_inverted : (i : ℕ) → i < n → source_net (made_netlist at n) small_cells (sources.Out (record { instance = i; path = 0; out = 1 })) ≡ None
  no_inverted i lt = rw (instance_at i lt) refl

  no_out : (i o : ℕ) → i < n → source_net (made_netlist at n) small_cells (sources.Out (record { instance = i; path = 0; out = suc (suc o) })) ≡ None
  no_out i o lt = rw (instance_at i lt) refl

  no_unit : (i p o : ℕ) → n ≤ i → source_net (made_netlist at n) small_cells (sources.Out (record { instance = i; path = p; out = o })) ≡ None
  no_unit i p o le = rw (no_instance i le) refl

  never : (source : Source) (net : NetId) → source_net (made_netlist at n) small_cells source ≡ None → source_net (made_netlist at n) small_cells source ≡ Some net → ⊥
  never source net e f = let both : None ≡ Some net = sym e ∙ f in absurd cc

  step_source : (i p o : ℕ) (net : NetId) → (i < n) ⊎ (n ≤ i) → source_net (made_netlist at n) small_cells (sources.Out (record { instance = i; path = p; out = o })) ≡ Some net
      → IsSource (sources.Out (record { instance = i; path = p; out = o })) net
  step_source i p o net (inr le) e = absurd (never (sources.Out (record { instance = i; path = p; out = o })) net (no_unit i p o le) e)
  step_source i (suc p) o net (inl lt) e = absurd (never (sources.Out (record { instance = i; path = suc p; out = o })) net (no_path i p o lt) e)
  step_source i zero (suc zero) net (inl lt) e = absurd (never (sources.Out (record { instance = i; path = 0; out = 1 })) net (no_inverted i lt) e)
  step_source i zero (suc (suc o)) net (inl lt) e = absurd (never (sources.Out (record { instance = i; path = 0; out = suc (suc o) })) net (no_out i o lt) e)
  step_source i zero zero net (inl lt) e =
      let same : net_id (unit_number i) ≡ net = same_Some (net_id (unit_number i)) net (sym (out_is i lt) ∙ e) in
      subst (IsSource (sources.Out (record { instance = i; path = 0; out = 0 }))) same (record { is = unit_source i; shown = shown_unit n i })

  source_by : (source : Source) (net : NetId) → source_net (made_netlist at n) small_cells source ≡ Some net → IsSource source net
  source_by (sources.Port port) net e = port_source port net (has_port drives (made_netlist at n) port) refl e
  source_by (sources.Out step) net e = step_source step.instance step.path step.out net (cases_lt step.instance n) e

  -- the sinks
  pub in_is : (i : ℕ) → i < n → sink_net (made_netlist at n) small_cells (sinks.In i 0) ≡ Some (net_id (input_number i))
  in_is i lt = rw (instance_at i lt) refl

  driven : (k : ℕ) → k < 8 → has_port is_driven (made_netlist at n) (net_id (out_number k)) ≡ true
  driven = below_eight (λ k. has_port is_driven (made_netlist at n) (net_id (out_number k)) ≡ true) refl refl refl refl refl refl refl refl

  driving : (k : ℕ) → k < 8 → has_port drives (made_netlist at n) (net_id (in_number k)) ≡ true
  driving = below_eight (λ k. has_port drives (made_netlist at n) (net_id (in_number k)) ≡ true) refl refl refl refl refl refl refl refl

  pub port_sink : (k : ℕ) → k < 8 → sink_net (made_netlist at n) small_cells (sinks.Port (net_id (out_number k))) ≡ Some (net_id (out_number k))
  port_sink k lt = ap (λ (b : Bool). if b then Some (net_id (out_number k)) else None) (driven k lt)

  pub input_source : (k : ℕ) → k < 8 → source_net (made_netlist at n) small_cells (sources.Port (net_id (in_number k))) ≡ Some (net_id (in_number k))
  input_source k lt = ap (λ (b : Bool). if b then Some (net_id (in_number k)) else None) (driving k lt)

  -- a source that stands on a net joined with the sink's is its only one
  pub only_source : (source : Source) (sink : Sink) (x y : ℕ) → source_net (made_netlist at n) small_cells source ≡ Some (net_id x) → sink_net (made_netlist at n) small_cells sink ≡ Some (net_id y)
      → AreJoined (made_netlist at n) x y → AreApart source sink → IsOnlySource (made_netlist at n) small_cells source sink
  only_source source sink x y from_is to_is joined apart = record {
    feeds = record { from = net_id x; to = net_id y; from_is = from_is; to_is = to_is; joined = joined; apart = apart };
    only = λ other f.
        let here = source_by source (net_id x) from_is in
        let there = source_by other f.from f.from_is in
        let to : f.to ≡ net_id y = same_Some f.to (net_id y) (sym f.to_is ∙ to_is) in
        let same : f.from.0 ≡ x = sym there.shown ∙ joined_shown n at f.from.0 f.to.0 f.joined ∙ ap (λ (id : NetId). shown_by n id.0) to ∙ sym (joined_shown n at x y joined) ∙ here.shown in
        there.is ∙ ap source_of same ∙ sym here.is;
  }
