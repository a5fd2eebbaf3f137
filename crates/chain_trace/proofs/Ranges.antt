-- What a source or a sink stands on: its entry, and that its net is in range.
use Rattle.std.proofs.Common.{◌≡◌, ℕ, ◌==◌, ◌&&◌, ◌<◌, ◌≤◌, Bool, true, false, cond, List, [], ◌∷◌, length, get_or, refl, sym, ap, ◌∙◌, subst, arith}
use Rattle.std.specs.Prelude.{All, Option, Some, None, option_and_then, IfSome}
use Rattle.std.specs.List.{slice_get, find, HoldsAt}
use Rattle.std.specs.Str.{bytes_eq}
use Rattle.std.proofs.lemmas.Bool.{eqb-true}
use Rattle.std.proofs.lemmas.Option.{none-some, same_Some, cond_some, slice_get_within, slice_get-get_or, get_or_from_slice_get}
use Rattle.std.proofs.lemmas.List.Elements.{All-head, All-tail}
use Rattle.std.proofs.lemmas.List.Folds.{Any-from_list_any}
use Rattle.base_types.proofs.TruthValues.{and_first}
use Rattle.netlist_core.specs.declared.netlist.NetId.{NetId}
use Rattle.netlist_core.specs.declared.netlist.Bit.{Bit}
use Rattle.netlist_core.specs.declared.netlist.Bit.TheVariants.{Net, Zero, One, Unknown}
use Rattle.netlist_core.specs.declared.netlist.Direction.{Direction}
use Rattle.netlist_core.specs.declared.netlist.Port.{Port}
use Rattle.netlist_core.specs.declared.netlist.Connection.{Connection}
use Rattle.netlist_core.specs.declared.netlist.Instance.{Instance}
use Rattle.netlist_core.specs.declared.netlist.Netlist.{Netlist}
use Rattle.netlist_core.specs.Netlists.{IsBitWithin, IsInstance, IsNetlist, single_net, connection_at, net_at}
use Rattle.netlist_core.specs.Joining.{AreClassesOf}
use Rattle.cell_table.specs.declared.paths.ScanPath.{ScanPath}
use Rattle.cell_table.specs.declared.paths.OutPin.{OutPin}
use Rattle.cell_table.specs.Cells.{Cells}
use Rattle.cell_table.specs.Table.{paths_at}
use Rattle.chain_trace.specs.declared.path.Step.{Step}
use Rattle.chain_trace.specs.declared.path.Source.{Source}
use Rattle.chain_trace.specs.declared.path.Source.TheVariants as sources
use Rattle.chain_trace.specs.declared.path.Sink.{Sink}
use Rattle.chain_trace.specs.declared.path.Sink.TheVariants as sinks
use Rattle.chain_trace.specs.Paths.{scan_path_at, out_pin_at, pin_net, drives, is_driven, has_port, source_net, sink_net, IsOnlySource}

-- an instance to stand where a list has none
abbrev pub blank : Instance
blank = record { name = []; cell = []; connections = []; line = 0 }

pub record Then {A B : Type 0} (f : A → Option B) (o : Option A) (y : B) : Type 0 where
  pub value : A
  pub is : o ≡ Some value
  pub gives : f value ≡ Some y

pub then_some : {A B : Type 0} (f : A → Option B) (o : Option A) (y : B) → option_and_then f o ≡ Some y → Then f o y
then_some f None y e = absurd (none-some y e)
then_some f (Some x) y e = record { value = x; is = refl; gives = e }

pub all_at : {X : Type 0} (P : X → Type 0) (xs : List X) (i : ℕ) (x : X) → All P xs → slice_get xs i ≡ Some x → P x
all_at P xs i x all e = subst P (get_or_from_slice_get xs i x x e) (all i x (slice_get_within xs i x e))

find_case : {X : Type 0} (P : X → Type 0) (y x : X) (rest : Option X) → P y → (rest ≡ Some x → P x) → (t : Bool) → cond t (Some y) rest ≡ Some x → P x
find_case P y x rest here more true e = subst P (same_Some y x e) here
find_case P y x rest here more false e = more e

pub find_holds : {X : Type 0} (P : X → Type 0) (test : X → Bool) (xs : List X) (x : X) → All P xs → find test xs ≡ Some x → P x
find_holds P test [] x all e = absurd (none-some x e)
find_holds P test (y ∷ ys) x all e =
    find_case P y x (find test ys) (All-head P y ys all) (λ r. find_holds P test ys x (All-tail P y ys all) r) (test y) e

single_within : (count : ℕ) (bits : List Bit) (net : NetId) → All (IsBitWithin count) bits → single_net bits ≡ Some net → net.0 < count
single_within count [] net all e = absurd (none-some net e)
single_within count (Net m ∷ []) net all e = subst (λ (x : NetId). x.0 < count) (same_Some m net e) (All-head (IsBitWithin count) (Net m) [] all)
single_within count (Net m ∷ (b ∷ bs)) net all e = absurd (none-some net e)
single_within count (Zero ∷ bs) net all e = absurd (none-some net e)
single_within count (One ∷ bs) net all e = absurd (none-some net e)
single_within count (Unknown ∷ bs) net all e = absurd (none-some net e)

pub net_at_within : (count : ℕ) (placed : Instance) (pin : List ℕ) (net : NetId) → IsInstance count placed → net_at pin placed ≡ Some net → net.0 < count
net_at_within count placed pin net ok e =
    let t = then_some (λ (connection : Connection). single_net connection.expr.bits) (connection_at pin placed.connections) net e in
    single_within count t.value.expr.bits net
    (find_holds (λ (connection : Connection). All (IsBitWithin count) connection.expr.bits) (λ (connection : Connection). bytes_eq connection.pin pin) placed.connections t.value ok.nets t.is) t.gives

pub port_within : (n : Netlist) (test : Direction → Bool) (net : NetId) → IsNetlist n → has_port test n net ≡ true → net.0 < length n.nets
port_within n test net ok e =
    let any = Any-from_list_any (λ (port : Port). port.net.0 == net.0 && test port.direction) n.ports e in
    let port = any.1 in
    let same : port.net.0 ≡ net.0 = eqb-true port.net.0 net.0 (and_first (port.net.0 == net.0) (test port.direction) any.4) in
    let here : port.net.0 < length n.nets = subst (λ (p : Port). p.net.0 < length n.nets) any.3 (ok.port_nets any.0 port any.2) in
    omega arith

-- where an out pin stands
pub record IsOut (n : Netlist) (cells : Cells) (step : Step) (net : NetId) : Type 0 where
  pub placed : Instance
  pub placed_is : slice_get n.instances step.instance ≡ Some placed
  pub paths : List ScanPath
  pub paths_is : paths_at placed.cell cells ≡ Some paths
  pub path : ScanPath
  pub path_is : slice_get paths step.path ≡ Some path
  pub entry_is : scan_path_at n cells step.instance step.path ≡ Some path
  pub out : OutPin
  pub out_is : slice_get path.outs step.out ≡ Some out
  pub net_is : net_at out.pin placed ≡ Some net

pub out_of : (n : Netlist) (cells : Cells) (step : Step) (net : NetId) → source_net n cells (sources.Out step) ≡ Some net → IsOut n cells step net
out_of n cells step net e =
    let a = then_some (λ (out : OutPin). pin_net n step.instance out.pin) (out_pin_at n cells step) net e in
    let b = then_some (λ (path : ScanPath). slice_get path.outs step.out) (scan_path_at n cells step.instance step.path) a.value a.is in
    let p = then_some (λ (placed : Instance). option_and_then (λ (paths : List ScanPath). slice_get paths step.path) (paths_at placed.cell cells)) (slice_get n.instances step.instance) b.value b.is in
    let q = then_some (λ (paths : List ScanPath). slice_get paths step.path) (paths_at p.value.cell cells) b.value p.gives in
    let r = then_some (net_at a.value.pin) (slice_get n.instances step.instance) net a.gives in
    let same : r.value ≡ p.value = same_Some r.value p.value (sym r.is ∙ p.is) in
    record {
      placed = p.value;
      placed_is = p.is;
      paths = q.value;
      paths_is = q.is;
      path = b.value;
      path_is = q.gives;
      entry_is = b.is;
      out = a.value;
      out_is = b.gives;
      net_is = subst (λ (x : Instance). net_at a.value.pin x ≡ Some net) same r.gives;
    }

pub source_within : (n : Netlist) (cells : Cells) (source : Source) (net : NetId) → IsNetlist n → source_net n cells source ≡ Some net → net.0 < length n.nets
source_within n cells (sources.Port port) net ok e =
    let c = cond_some (has_port drives n port) port net e in
    subst (λ (x : NetId). x.0 < length n.nets) c.1 (port_within n drives port ok c.0)
source_within n cells (sources.Out step) net ok e =
    let o = out_of n cells step net e in
    net_at_within (length n.nets) o.placed o.out.pin net (all_at (IsInstance (length n.nets)) n.instances step.instance o.placed ok.instances o.placed_is) o.net_is

pub sink_within : (n : Netlist) (cells : Cells) (sink : Sink) (net : NetId) → IsNetlist n → sink_net n cells sink ≡ Some net → net.0 < length n.nets
sink_within n cells (sinks.Port port) net ok e =
    let c = cond_some (has_port is_driven n port) port net e in
    subst (λ (x : NetId). x.0 < length n.nets) c.1 (port_within n is_driven port ok c.0)
sink_within n cells (sinks.In instance path) net ok e =
    let a = then_some (λ (p : ScanPath). pin_net n instance p.input) (scan_path_at n cells instance path) net e in
    let r = then_some (net_at a.value.input) (slice_get n.instances instance) net a.gives in
    net_at_within (length n.nets) r.value a.value.input net (all_at (IsInstance (length n.nets)) n.instances instance r.value ok.instances r.is) r.gives

pub class_within : (n : Netlist) (classes : List ℕ) (net : ℕ) → AreClassesOf n classes → net < length n.nets → get_or classes net 0 < length n.nets
class_within n classes net ok lt = omega (arith, ok.least net net lt lt (record { over = []; chain = refl }))

-- the net of a pin of an instance that is there
pin_is : (n : Netlist) (instance : ℕ) (pin : List ℕ) (net : Option NetId) → instance < length n.instances → HoldsAt (λ i. net ≡ net_at pin i) n.instances instance
    → (d : Instance) → pin_net n instance pin ≡ net
pin_is n instance pin net lt h d =
    ap (λ (o : Option Instance). option_and_then (net_at pin) o) (slice_get-get_or n.instances instance d lt) ∙ sym (h d)

some_pin_within : (n : Netlist) (instance : ℕ) (pin : List ℕ) (net : Option NetId) → IsNetlist n → instance < length n.instances
    → (d : Instance) → net ≡ net_at pin (get_or n.instances instance d) → IfSome net (λ m. m.0 < length n.nets)
some_pin_within n instance pin None ok lt d e = tt
some_pin_within n instance pin (Some m) ok lt d e =
    net_at_within (length n.nets) (get_or n.instances instance d) pin m (ok.instances instance d lt) (sym e)

pub pin_within : (n : Netlist) (instance : ℕ) (pin : List ℕ) (net : Option NetId) (d : Instance) → IsNetlist n → instance < length n.instances
    → HoldsAt (λ i. net ≡ net_at pin i) n.instances instance → IfSome net (λ m. m.0 < length n.nets)
pin_within n instance pin net d ok lt h = some_pin_within n instance pin net ok lt d (h d)

pub record AreWithin (classes : List ℕ) (count : ℕ) (net : Option NetId) : Type 0 where
  pub net_in : IfSome net (λ m. m.0 < length classes)
  pub class_in : IfSome net (λ m. get_or classes m.0 0 < count)

pub are_within : (n : Netlist) (classes : List ℕ) (count : ℕ) (net : Option NetId) → AreClassesOf n classes → count ≡ length n.nets
    → IfSome net (λ m. m.0 < length n.nets) → AreWithin classes count net
are_within n classes count None ok e h = record { net_in = tt; class_in = tt }
are_within n classes count (Some m) ok e h =
    let low = class_within n classes m.0 ok h in
    record { net_in = omega (arith, ok.count); class_in = omega arith }

-- the net of an out pin, and of an in pin, by its entry
pub source_is : (n : Netlist) (cells : Cells) (step : Step) (path : ScanPath) (out : OutPin) (net : Option NetId) (d : Instance)
    → scan_path_at n cells step.instance step.path ≡ Some path → slice_get path.outs step.out ≡ Some out
    → step.instance < length n.instances → HoldsAt (λ i. net ≡ net_at out.pin i) n.instances step.instance → source_net n cells (sources.Out step) ≡ net
source_is n cells step path out net d entry is lt h =
    let at_out : Option OutPin → Option NetId = λ o. option_and_then (λ (x : OutPin). pin_net n step.instance x.pin) o in
    let at_path : Option ScanPath → Option OutPin = λ o. option_and_then (λ (x : ScanPath). slice_get x.outs step.out) o in
    ap (λ (o : Option ScanPath). at_out (at_path o)) entry ∙ ap at_out is ∙ pin_is n step.instance out.pin net lt h d

pub sink_is : (n : Netlist) (cells : Cells) (instance path : ℕ) (entry : ScanPath) (net : Option NetId) (d : Instance)
    → scan_path_at n cells instance path ≡ Some entry → instance < length n.instances
    → HoldsAt (λ i. net ≡ net_at entry.input i) n.instances instance → sink_net n cells (sinks.In instance path) ≡ net
sink_is n cells instance path entry net d is lt h =
    ap (λ (o : Option ScanPath). option_and_then (λ (x : ScanPath). pin_net n instance x.input) o) is ∙ pin_is n instance entry.input net lt h d

pub sink_none : (n : Netlist) (cells : Cells) (instance path : ℕ) → scan_path_at n cells instance path ≡ None → sink_net n cells (sinks.In instance path) ≡ None
sink_none n cells instance path is = ap (λ (o : Option ScanPath). option_and_then (λ (x : ScanPath). pin_net n instance x.input) o) is

some_source_within : (n : Netlist) (cells : Cells) (source : Source) (net : Option NetId) → IsNetlist n → source_net n cells source ≡ net → IfSome net (λ m. m.0 < length n.nets)
some_source_within n cells source None ok e = tt
some_source_within n cells source (Some m) ok e = source_within n cells source m ok e

pub source_in : (n : Netlist) (cells : Cells) (source : Source) (net : Option NetId) → IsNetlist n → source_net n cells source ≡ net → IfSome net (λ m. m.0 < length n.nets)
source_in n cells source net ok e = some_source_within n cells source net ok e

-- the instance of a source that stands somewhere
pub instance_within : (n : Netlist) (cells : Cells) (step : Step) (sink : Sink) → IsOnlySource n cells (sources.Out step) sink → step.instance < length n.instances
instance_within n cells step sink only =
    let o = out_of n cells step only.feeds.from only.feeds.from_is in
    slice_get_within n.instances step.instance o.placed o.placed_is

-- an out pin is one of its entry
pub outs_within : (n : Netlist) (cells : Cells) (i p len : ℕ) (entry : ScanPath) → scan_path_at n cells i p ≡ Some entry → length entry.outs ≤ len
    → (s : Step) (net : NetId) → source_net n cells (sources.Out s) ≡ Some net → s.instance ≡ i → s.path ≡ p → s.out < len
outs_within n cells i p len entry is le s net e ei ep =
    let o = out_of n cells s net e in
    let same : o.path ≡ entry =
    same_Some o.path entry (sym o.entry_is ∙ (ap (λ (x : ℕ). scan_path_at n cells x s.path) ei ∙ ap (λ (y : ℕ). scan_path_at n cells i y) ep) ∙ is) in
    let lt = slice_get_within o.path.outs s.out o.out o.out_is in
    omega (arith, lt, ap (λ (x : ScanPath). length x.outs) same)

-- a path that has an out pin is one of the instance's
pub paths_within : (n : Netlist) (cells : Cells) (i len : ℕ) (paths : List ScanPath) → ((path : ℕ) → slice_get paths path ≡ scan_path_at n cells i path) → length paths ≤ len
    → (s : Step) (net : NetId) → source_net n cells (sources.Out s) ≡ Some net → s.instance ≡ i → s.path < len
paths_within n cells i len paths at le s net es ei =
    let o = out_of n cells s net es in
    let here : slice_get paths s.path ≡ Some o.path = at s.path ∙ ap (λ (x : ℕ). scan_path_at n cells x s.path) (sym ei) ∙ o.entry_is in
    let lt = slice_get_within paths s.path o.path here in
    omega arith
