-- A path of one netlist is one of another with the same wiring by names, its ports by their names.
use Rattle.std.proofs.Common.{◌≡◌, ℕ, ◌<◌, Bool, true, false, ◌||◌, cond, List, [], ◌∷◌, length, map, refl, sym, ap, ◌∙◌, subst}
use Rattle.std.specs.Prelude.{All, Option, Some, None, option_and_then, option_map}
use Rattle.std.specs.List.{list_any, slice_get}
use Rattle.std.specs.Str.{bytes_eq}
use Rattle.std.proofs.lemmas.List.Elements.{All-head, All-tail}
use Rattle.std.proofs.lemmas.Option.{none-some, same_Some, cond_some}
use Rattle.std.proofs.lemmas.Slice.Eq.{bytes_eq-Decides}
use Rattle.base_types.proofs.TruthValues.{and_first}
use Rattle.netlist_core.specs.declared.netlist.NetId.{NetId}
use Rattle.netlist_core.specs.declared.netlist.Direction.{Direction}
use Rattle.netlist_core.specs.declared.netlist.Port.{Port}
use Rattle.netlist_core.specs.declared.netlist.Netlist.{Netlist}
use Rattle.netlist_core.specs.Netlists.{NamedNetlist, named, named_port, plain_of, AreWiredAlike, IsNetlist}
use Rattle.cell_table.specs.declared.paths.ScanPath.{ScanPath}
use Rattle.cell_table.specs.declared.paths.OutPin.{OutPin}
use Rattle.cell_table.specs.Cells.{Cells}
use Rattle.chain_trace.specs.declared.path.Step.{Step}
use Rattle.chain_trace.specs.declared.path.Path.{Path}
use Rattle.chain_trace.specs.declared.path.Source.{Source}
use Rattle.chain_trace.specs.declared.path.Source.TheVariants as sources
use Rattle.chain_trace.specs.declared.path.Sink.{Sink}
use Rattle.chain_trace.specs.declared.path.Sink.TheVariants as sinks
use Rattle.chain_trace.specs.Paths.{scan_path_at, out_pin_at, pin_net, drives, is_driven, has_port, source_net, sink_net, AreApart, Feeds, IsOnlySource, Leads, IsScanPath}
use Rattle.chain_trace.specs.Named.{HasSamePath}
use Rattle.chain_trace.proofs.Ranges.{port_within, source_within, sink_within}
use Rattle.chain_trace.proofs.NamedNets.{IsSameNet, same_wiring, turned_wiring, turned, one_new, one_old, is_port_named, has_port_named, port_by_name, pin_name, pin_by_name, scan_path_named, scan_path_by_name}
use Rattle.chain_trace.proofs.NamedSides.{joined_there}

-- the same source and the same sink by the names of their ports
abbrev IsSameSource : Netlist → Netlist → Source → Source → Type 0
IsSameSource n m (sources.Port a) (sources.Port b) = IsSameNet n m a b
IsSameSource n m (sources.Port a) (sources.Out t) = ⊥
IsSameSource n m (sources.Out s) (sources.Port b) = ⊥
IsSameSource n m (sources.Out s) (sources.Out t) = s ≡ t

abbrev IsSameSink : Netlist → Netlist → Sink → Sink → Type 0
IsSameSink n m (sinks.Port a) (sinks.Port b) = IsSameNet n m a b
IsSameSink n m (sinks.Port a) (sinks.In j q) = ⊥
IsSameSink n m (sinks.In i p) (sinks.Port b) = ⊥
IsSameSink n m (sinks.In i p) (sinks.In j q) = (i ≡ j) × (p ≡ q)

turned_source : (n m : Netlist) (x y : Source) → IsSameSource n m x y → IsSameSource m n y x
turned_source n m (sources.Port a) (sources.Port b) s = turned n m a b s
turned_source n m (sources.Port a) (sources.Out t) s = absurd s
turned_source n m (sources.Out s) (sources.Port b) e = absurd e
turned_source n m (sources.Out s) (sources.Out t) e = sym e

turned_sink : (n m : Netlist) (x y : Sink) → IsSameSink n m x y → IsSameSink m n y x
turned_sink n m (sinks.Port a) (sinks.Port b) s = turned n m a b s
turned_sink n m (sinks.Port a) (sinks.In j q) s = absurd s
turned_sink n m (sinks.In i p) (sinks.Port b) s = absurd s
turned_sink n m (sinks.In i p) (sinks.In j q) s = (sym s.0, sym s.1)

one_source : (n m : Netlist) → IsNetlist m → (x y z : Source) → IsSameSource n m x y → IsSameSource n m x z → y ≡ z
one_source n m ok (sources.Port a) (sources.Port b) (sources.Port c) s t = ap sources.Port (one_new n m ok a b c s t)
one_source n m ok (sources.Port a) (sources.Port b) (sources.Out u) s t = absurd t
one_source n m ok (sources.Port a) (sources.Out u) z s t = absurd s
one_source n m ok (sources.Out u) (sources.Port b) z s t = absurd s
one_source n m ok (sources.Out u) (sources.Out v) (sources.Port c) s t = absurd t
one_source n m ok (sources.Out u) (sources.Out v) (sources.Out w) s t = ap sources.Out (sym s ∙ t)

-- a net of one netlist has a like one in the other
record HasSameNet (n m : Netlist) (a : NetId) : Type 0 where
  net : NetId
  same : IsSameNet n m a net

record HasNet (n m : Netlist) (a : NetId) (o : Option NetId) : Type 0 where
  net : NetId
  is : o ≡ Some net
  name : plain_of n.nets a ≡ plain_of m.nets net

net_found : (n m : Netlist) (a : NetId) (o : Option NetId) → option_map (plain_of n.nets) (Some a) ≡ option_map (plain_of m.nets) o → HasNet n m a o
net_found n m a None e = absurd (none-some (plain_of n.nets a) (sym e))
net_found n m a (Some b) e = record { net = b; is = refl; name = same_Some (plain_of n.nets a) (plain_of m.nets b) e }

named_place : (n : Netlist) (test : Direction → Bool) (name : List ℕ) (ports : List Port) → All (λ port. port.net.0 < length n.nets) ports
    → list_any (is_port_named test name) (map (named_port n.nets) ports) ≡ true → (net : NetId) × (net.0 < length n.nets) × (plain_of n.nets net ≡ name)
named_place n test name [] all e = absurd cc
named_place n test name (p ∷ ps) all e =
    let here : is_port_named test name (named_port n.nets p) ≡ true → (net : NetId) × (net.0 < length n.nets) × (plain_of n.nets net ≡ name)
    = λ t. (p.net, All-head (λ (port : Port). port.net.0 < length n.nets) p ps all, (bytes_eq-Decides (plain_of n.nets p.net) name).0 (and_first (bytes_eq (plain_of n.nets p.net) name) (test p.direction) t)) in
    let rest : list_any (is_port_named test name) (map (named_port n.nets) ps) ≡ true → (net : NetId) × (net.0 < length n.nets) × (plain_of n.nets net ≡ name)
    = λ t. named_place n test name ps (All-tail (λ (port : Port). port.net.0 < length n.nets) p ps all) t in
    or_cases (is_port_named test name (named_port n.nets p)) (list_any (is_port_named test name) (map (named_port n.nets) ps)) here rest e
  where
    or_cases : {X : Type 0} (a b : Bool) → (a ≡ true → X) → (b ≡ true → X) → (a || b) ≡ true → X
    or_cases true b f g e = f refl
    or_cases false b f g e = g e

module _ (n m : Netlist) (cells : Cells) (n_ok : IsNetlist n) (m_ok : IsNetlist m) (same : AreWiredAlike n m) where
  port_same : (test : Direction → Bool) (a b : NetId) → IsSameNet n m a b → has_port test n a ≡ has_port test m b
  port_same test a b s =
      port_by_name n test a n_ok s.old ∙ ap (has_port_named test (named n)) s.name ∙ ap (λ (N : NamedNetlist). has_port_named test N (plain_of m.nets b)) (same_wiring n m same)
      ∙ sym (port_by_name m test b m_ok s.new)

  port_there : (test : Direction → Bool) (a : NetId) → has_port test n a ≡ true → HasSameNet n m a
  port_there test a e =
      let within = port_within n test a n_ok e in
      let there : has_port_named test (named m) (plain_of n.nets a) ≡ true
      = ap (λ (N : NamedNetlist). has_port_named test N (plain_of n.nets a)) (sym (same_wiring n m same)) ∙ sym (port_by_name n test a n_ok within) ∙ e in
      let found = named_place m test (plain_of n.nets a) m.ports m_ok.port_nets there in
      record { net = found.0; same = record { old = within; new = found.1; name = sym found.2 } }

  scan_path_same : (instance path : ℕ) → scan_path_at n cells instance path ≡ scan_path_at m cells instance path
  scan_path_same instance path =
      scan_path_by_name n cells instance path ∙ ap (λ (N : NamedNetlist). scan_path_named N cells instance path) (same_wiring n m same) ∙ sym (scan_path_by_name m cells instance path)

  pin_same : (instance : ℕ) (pin : List ℕ) → option_map (plain_of n.nets) (pin_net n instance pin) ≡ option_map (plain_of m.nets) (pin_net m instance pin)
  pin_same instance pin = pin_by_name n instance pin ∙ ap (λ (N : NamedNetlist). pin_name N instance pin) (same_wiring n m same) ∙ sym (pin_by_name m instance pin)

  out_same : (step : Step) → out_pin_at n cells step ≡ out_pin_at m cells step
  out_same step = ap (λ (o : Option ScanPath). option_and_then (λ (path : ScanPath). slice_get path.outs step.out) o) (scan_path_same step.instance step.path)

  out_net_same : (step : Step) (o : Option OutPin) → option_map (plain_of n.nets) (option_and_then (λ (out : OutPin). pin_net n step.instance out.pin) o)
      ≡ option_map (plain_of m.nets) (option_and_then (λ (out : OutPin). pin_net m step.instance out.pin) o)
  out_net_same step None = refl
  out_net_same step (Some out) = pin_same step.instance out.pin

  in_net_same : (instance : ℕ) (o : Option ScanPath) → option_map (plain_of n.nets) (option_and_then (λ (path : ScanPath). pin_net n instance path.input) o)
      ≡ option_map (plain_of m.nets) (option_and_then (λ (path : ScanPath). pin_net m instance path.input) o)
  in_net_same instance None = refl
  in_net_same instance (Some path) = pin_same instance path.input

  chosen_same : (a b : NetId) → plain_of n.nets a ≡ plain_of m.nets b → (t : Bool) → option_map (plain_of n.nets) (cond t (Some a) None) ≡ option_map (plain_of m.nets) (cond t (Some b) None)
  chosen_same a b name true = ap Some name
  chosen_same a b name false = refl

  port_net_same : (test : Direction → Bool) (a b : NetId) → IsSameNet n m a b
      → option_map (plain_of n.nets) (cond (has_port test n a) (Some a) None) ≡ option_map (plain_of m.nets) (cond (has_port test m b) (Some b) None)
  port_net_same test a b s =
      ap (λ (t : Bool). option_map (plain_of n.nets) (cond t (Some a) None)) (port_same test a b s) ∙ chosen_same a b s.name (has_port test m b)

  source_same : (x y : Source) → IsSameSource n m x y → option_map (plain_of n.nets) (source_net n cells x) ≡ option_map (plain_of m.nets) (source_net m cells y)
  source_same (sources.Port a) (sources.Port b) s = port_net_same drives a b s
  source_same (sources.Port a) (sources.Out t) s = absurd s
  source_same (sources.Out u) (sources.Port b) s = absurd s
  source_same (sources.Out u) (sources.Out v) s =
      ap (λ (o : Option OutPin). option_map (plain_of n.nets) (option_and_then (λ (out : OutPin). pin_net n u.instance out.pin) o)) (out_same u)
      ∙ out_net_same u (out_pin_at m cells u) ∙ ap (λ (w : Step). option_map (plain_of m.nets) (source_net m cells (sources.Out w))) s

  sink_same : (x y : Sink) → IsSameSink n m x y → option_map (plain_of n.nets) (sink_net n cells x) ≡ option_map (plain_of m.nets) (sink_net m cells y)
  sink_same (sinks.Port a) (sinks.Port b) s = port_net_same is_driven a b s
  sink_same (sinks.Port a) (sinks.In j q) s = absurd s
  sink_same (sinks.In i p) (sinks.Port b) s = absurd s
  sink_same (sinks.In i p) (sinks.In j q) s =
      ap (λ (o : Option ScanPath). option_map (plain_of n.nets) (option_and_then (λ (path : ScanPath). pin_net n i path.input) o)) (scan_path_same i p)
      ∙ in_net_same i (scan_path_at m cells i p)
      ∙ ap (λ (k : ℕ). option_map (plain_of m.nets) (sink_net m cells (sinks.In k p))) s.0
      ∙ ap (λ (k : ℕ). option_map (plain_of m.nets) (sink_net m cells (sinks.In j k))) s.1

  apart_there : (x y : Source) (s t : Sink) → IsSameSource n m x y → IsSameSink n m s t → AreApart x s → AreApart y t
  apart_there (sources.Port a) (sources.Port b) (sinks.Port c) (sinks.Port d) p q apart =
      λ e. apart (one_old n m n_ok a c d (subst (λ (k : NetId). IsSameNet n m a k) e p) q)
  apart_there (sources.Port a) (sources.Port b) (sinks.Port c) (sinks.In j k) p q apart = absurd q
  apart_there (sources.Port a) (sources.Port b) (sinks.In i l) (sinks.Port d) p q apart = absurd q
  apart_there (sources.Port a) (sources.Port b) (sinks.In i l) (sinks.In j k) p q apart = tt
  apart_there (sources.Port a) (sources.Out v) s t p q apart = absurd p
  apart_there (sources.Out u) (sources.Port b) s t p q apart = absurd p
  apart_there (sources.Out u) (sources.Out v) s t p q apart = tt

  feeds_there : (x y : Source) (s t : Sink) → IsSameSource n m x y → IsSameSink n m s t → Feeds n cells x s → Feeds m cells y t
  feeds_there x y s t p q feeds =
      let from = net_found n m feeds.from (source_net m cells y) (ap (option_map (plain_of n.nets)) (sym feeds.from_is) ∙ source_same x y p) in
      let to = net_found n m feeds.to (sink_net m cells t) (ap (option_map (plain_of n.nets)) (sym feeds.to_is) ∙ sink_same s t q) in
      let same_from : IsSameNet n m feeds.from from.net =
      record { old = source_within n cells x feeds.from n_ok feeds.from_is; new = source_within m cells y from.net m_ok from.is; name = from.name } in
      let same_to : IsSameNet n m feeds.to to.net =
      record { old = sink_within n cells s feeds.to n_ok feeds.to_is; new = sink_within m cells t to.net m_ok to.is; name = to.name } in
      record {
        from = from.net;
        to = to.net;
        from_is = from.is;
        to_is = to.is;
        joined = joined_there n m n_ok m_ok same feeds.from feeds.to from.net to.net same_from same_to feeds.joined;
        apart = apart_there x y s t p q feeds.apart;
      }

  -- what stands on a net has one like it
  record HasSource (x : Source) : Type 0 where
    source : Source
    same_source : IsSameSource n m x source

  source_there : (x : Source) (net : NetId) → source_net n cells x ≡ Some net → HasSource x
  source_there (sources.Port a) net e =
      let there = port_there drives a (cond_some (has_port drives n a) a net e).0 in
      record { source = sources.Port there.net; same_source = there.same }
  source_there (sources.Out step) net e = record { source = sources.Out step; same_source = refl }

module _ (n m : Netlist) (cells : Cells) (n_ok : IsNetlist n) (m_ok : IsNetlist m) (same : AreWiredAlike n m) where
  only_there : (x y : Source) (s t : Sink) → IsSameSource n m x y → IsSameSink n m s t → IsOnlySource n cells x s → IsOnlySource m cells y t
  only_there x y s t p q only = record {
    feeds = feeds_there n m cells n_ok m_ok same x y s t p q only.feeds;
    only = λ other feeds.
        let back = source_there m n cells m_ok n_ok (turned_wiring n m same) other feeds.from feeds.from_is in
        let here = feeds_there m n cells m_ok n_ok (turned_wiring n m same) other back.source t s back.same_source (turned_sink n m s t q) feeds in
        one_source n m m_ok x other y (subst (λ (z : Source). IsSameSource n m z other) (only.only back.source here) (turned_source m n other back.source back.same_source)) p;
  }

  leads_there : (steps : List Step) (x y : Source) (s t : Sink) → IsSameSource n m x y → IsSameSink n m s t → Leads n cells x steps s → Leads m cells y steps t
  leads_there [] x y s t p q leads = only_there x y s t p q leads
  leads_there (step ∷ steps) x y s t p q leads = (
    only_there x y (sinks.In step.instance step.path) (sinks.In step.instance step.path) p (refl, refl) leads.0,
    leads_there steps (sources.Out step) (sources.Out step) s t refl q leads.1,
  )

  first_there : (steps : List Step) (a : NetId) (s : Sink) → Leads n cells (sources.Port a) steps s → HasSameNet n m a
  first_there [] a s leads =
      port_there n m cells n_ok m_ok same drives a (cond_some (has_port drives n a) a leads.feeds.from leads.feeds.from_is).0
  first_there (step ∷ steps) a s leads =
      port_there n m cells n_ok m_ok same drives a (cond_some (has_port drives n a) a leads.0.feeds.from leads.0.feeds.from_is).0

  last_there : (steps : List Step) (x : Source) (a : NetId) → Leads n cells x steps (sinks.Port a) → HasSameNet n m a
  last_there [] x a leads =
      port_there n m cells n_ok m_ok same is_driven a (cond_some (has_port is_driven n a) a leads.feeds.to leads.feeds.to_is).0
  last_there (step ∷ steps) x a leads = last_there steps (sources.Out step) a leads.1

  pub path_there : (path : Path) → IsScanPath n cells path.output path → HasSamePath n m cells path
  path_there path is =
      let input = first_there path.steps path.input (sinks.Port path.output) is.leads in
      let output = last_there path.steps (sources.Port path.input) path.output is.leads in
      record {
        path = record { input = input.net; output = output.net; steps = path.steps };
        is = record {
          ends = refl;
          leads = leads_there path.steps (sources.Port path.input) (sources.Port input.net) (sinks.Port path.output) (sinks.Port output.net) input.same output.same is.leads;
          once = is.once;
        };
        same = record { input = sym input.same.name; output = sym output.same.name; steps = refl };
      }
