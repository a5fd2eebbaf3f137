-- The net of a port that stands at no pin.
use Rattle.std.proofs.Common.{◌≡◌, ◌≢◌, ℕ, List, [], ◌∷◌, Some, sum_by, All, sym, ap, ◌∙◌, arith}
use Rattle.std.specs.List.{slice_get}
use Rattle.std.specs.Str.{bytes_eq}
use Rattle.std.proofs.lemmas.Bool.{eq-eqb, false≢true}
use Rattle.std.proofs.lemmas.Option.{cond_some}
use Rattle.std.proofs.lemmas.List.Sums.{sum_by-cons}
use Rattle.std.proofs.lemmas.List.Elements.{All-nil, All-cons}
use Rattle.netlist_core.specs.declared.netlist.NetId.{NetId}
use Rattle.netlist_core.specs.declared.netlist.Bit.TheVariants.{Net}
use Rattle.netlist_core.specs.declared.netlist.Connection.{Connection}
use Rattle.netlist_core.specs.declared.netlist.Instance.{Instance}
use Rattle.netlist_core.specs.declared.netlist.Netlist.{Netlist}
use Rattle.netlist_core.specs.Netlists.{single_net, connection_at, net_at}
use Rattle.cell_table.specs.declared.paths.ScanPath.{ScanPath}
use Rattle.cell_table.specs.declared.paths.OutPin.{OutPin}
use Rattle.cell_table.specs.Cells.{Cells}
use Rattle.chain_trace.specs.declared.path.Source.{Source}
use Rattle.chain_trace.specs.declared.path.Source.TheVariants as sources
use Rattle.chain_trace.specs.declared.path.Sink.TheVariants as sinks
use Rattle.chain_trace.specs.Paths.{drives, has_port, scan_path_at, out_pin_at, pin_net, source_net, sink_net}
use Rattle.chain_trace.proofs.Ranges.{then_some, all_at, find_holds}
use Rattle.path_links.specs.Free.{count_in, count_in_instance}
use Rattle.path_links.proofs.PathSame.{net_is}
use Rattle.path_links.proofs.PathAssigns.{count_parts, single_is}

zero_all : {X : Type 0} (f : X → ℕ) (xs : List X) → sum_by f xs ≡ 0 → All (λ x. f x ≡ 0) xs
zero_all f [] e = All-nil (λ x. f x ≡ 0)
zero_all f (x ∷ xs) e =
    let c = sum_by-cons f x xs in
    All-cons (λ y. f y ≡ 0) x xs (omega (arith, c, e)) (zero_all f xs (omega (arith, c, e)))

-- a net that stands at no instance is that of no pin
pub no_pin : (n : Netlist) (o : NetId) (i : ℕ) (pin : List ℕ) (net : NetId) → sum_by (count_in_instance o) n.instances ≡ 0 → pin_net n i pin ≡ Some net → net.0 ≢ o.0
no_pin n o i pin net none is same =
    let a = then_some (net_at pin) (slice_get n.instances i) net is in
    let zero_at : count_in_instance o a.value ≡ 0 = all_at (λ (placed : Instance). count_in_instance o placed ≡ 0) n.instances i a.value (zero_all (count_in_instance o) n.instances none) a.is in
    let c = then_some (λ (connection : Connection). single_net connection.expr.bits) (connection_at pin a.value.connections) net a.gives in
    let zero_in : count_in o c.value.expr.bits ≡ 0 =
    find_holds (λ (connection : Connection). count_in o connection.expr.bits ≡ 0) (λ (connection : Connection). bytes_eq connection.pin pin) a.value.connections c.value
    (zero_all (λ (connection : Connection). count_in o connection.expr.bits) a.value.connections zero_at) c.is in
    let off = (count_parts o (Net net) [] (ap (count_in o) (sym (single_is c.value.expr.bits net c.gives)) ∙ zero_in)).0 in
    false≢true (sym off ∙ eq-eqb net.0 o.0 same)

pub no_in : (n : Netlist) (cells : Cells) (o : NetId) (i k : ℕ) (net : NetId) → sum_by (count_in_instance o) n.instances ≡ 0 → sink_net n cells (sinks.In i k) ≡ Some net → net.0 ≢ o.0
no_in n cells o i k net none is =
    let a = then_some (λ (path : ScanPath). pin_net n i path.input) (scan_path_at n cells i k) net is in
    no_pin n o i a.value.input net none a.gives

-- the net of a port's source is the port's
pub port_net : (n : Netlist) (cells : Cells) (o net : NetId) (x : Source) → x ≡ sources.Port o → source_net n cells x ≡ Some net → net.0 ≡ o.0
port_net n cells o net x e is =
    let at : source_net n cells (sources.Port o) ≡ Some net = ap (source_net n cells) (sym e) ∙ is in
    ap (λ (m : NetId). m.0) (sym (cond_some (has_port drives n o) o net at).1)

-- only the port is a source on such a net
pub only_port : (n : Netlist) (cells : Cells) (o net : NetId) (x : Source) → sum_by (count_in_instance o) n.instances ≡ 0 → source_net n cells x ≡ Some net → net.0 ≡ o.0 → x ≡ sources.Port o
only_port n cells o net (sources.Port a) none is same =
    let e = (cond_some (has_port drives n a) a net is).1 in
    ap (λ (m : NetId). sources.Port m) (net_is a o (ap (λ (m : NetId). m.0) e ∙ same))
only_port n cells o net (sources.Out step) none is same =
    let a = then_some (λ (out : OutPin). pin_net n step.instance out.pin) (out_pin_at n cells step) net is in
    absurd (no_pin n o step.instance a.value.pin net none a.gives same)
