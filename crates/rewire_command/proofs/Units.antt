-- The steps of a path where the table has one cell: each is over the only path of an instance, by its only out pin, so the
-- name of its instance tells it.
use Rattle.std.proofs.Common.{◌≡◌, ℕ, zero, suc, Bool, true, false, cond, List, [], ◌∷◌, map, slice_get, Option, Some, None, option_map, refl, sym, ap, ◌∙◌}
use Rattle.std.specs.Str.{bytes_eq}
use Rattle.std.proofs.lemmas.Option.{slice_get-map, slice_get_within, get_or_from_slice_get}
use Rattle.std.specs.List.{AllByRecursion as Each}
use Rattle.netlist_core.specs.declared.netlist.NetId.{NetId}
use Rattle.netlist_core.specs.declared.netlist.Instance.{Instance}
use Rattle.netlist_core.specs.declared.netlist.Netlist.{Netlist}
use Rattle.netlist_core.specs.Netlists.{IsNetlist}
use Rattle.cell_table.specs.declared.paths.ScanPath.{ScanPath}
use Rattle.cell_table.specs.declared.paths.OutPin.{OutPin}
use Rattle.cell_table.specs.Cells.{Cells, ◌>>=◌}
use Rattle.cell_table.specs.Table.{paths_at, one_path}
use Rattle.chain_trace.specs.declared.path.Step.{Step}
use Rattle.chain_trace.specs.declared.path.Source.{Source}
use Rattle.chain_trace.specs.declared.path.Source.TheVariants as sources
use Rattle.chain_trace.specs.declared.path.Sink.{Sink}
use Rattle.chain_trace.specs.declared.path.Sink.TheVariants as sinks
use Rattle.chain_trace.specs.Paths.{scan_path_at, out_pin_at, pin_net, source_net, sink_net, Leads}
use Rattle.rewire_command.specs.declared.rewire.Rewire.{Rewire}
use Rattle.rewire_command.specs.Rewiring.{cells_of, name_of, instance_name}

-- the value that leads to another
pub record Bound {A B : Type 0} (o : Option A) (f : A → Option B) (y : B) : Type 0 where
  pub value : A
  pub is : o ≡ Some value
  pub gives : f value ≡ Some y

pub bound : {A B : Type 0} (o : Option A) (f : A → Option B) (y : B) → (o >>= f) ≡ Some y → Bound o f y
bound None f y e = absurd cc
bound (Some x) f y e = record { value = x; is = refl; gives = e }

-- the only member of a list
pub record IsOnly {A : Type 0} (x : A) (k : ℕ) (y : A) : Type 0 where
  pub first : k ≡ 0
  pub same : y ≡ x

pub only : {A : Type 0} (x : A) (k : ℕ) (y : A) → slice_get (x ∷ []) k ≡ Some y → IsOnly x k y
only x zero y e = record { first = refl; same = cc }
only x (suc k) y e = absurd cc

paths_of_one : (w : Rewire) (cell : List ℕ) (paths : List ScanPath) → paths_at cell (cells_of w) ≡ Some paths → paths ≡ one_path w.in_pin w.out_pin ∷ []
paths_of_one w cell paths =
    elim (bytes_eq cell w.cell) as (λ (t : Bool). cond t (Some (one_path w.in_pin w.out_pin ∷ [])) None ≡ Some paths → paths ≡ one_path w.in_pin w.out_pin ∷ []) [ true ↦ λ e. cc | false ↦ λ e. absurd cc ]

-- a scan path of an instance
pub record IsEntered (n : Netlist) (w : Rewire) (instance path : ℕ) (entered : ScanPath) : Type 0 where
  pub placed : Instance
  pub is : slice_get n.instances instance ≡ Some placed
  pub only : IsOnly (one_path w.in_pin w.out_pin) path entered

pub entered : (n : Netlist) (w : Rewire) (instance path : ℕ) (scan : ScanPath) → scan_path_at n (cells_of w) instance path ≡ Some scan → IsEntered n w instance path scan
entered n w instance path scan e =
    let placed = bound (slice_get n.instances instance) (λ placed. paths_at placed.cell (cells_of w) >>= λ paths. slice_get paths path) scan e in
    let paths = bound (paths_at placed.value.cell (cells_of w)) (λ paths. slice_get paths path) scan placed.gives in
    let same = paths_of_one w placed.value.cell paths.value paths.is in
    record { placed = placed.value; is = placed.is; only = only (one_path w.in_pin w.out_pin) path scan (ap (λ (l : List ScanPath). slice_get l path) (sym same) ∙ paths.gives) }

-- the out pin of a step
pub left : (n : Netlist) (w : Rewire) (step : Step) (out : OutPin) → out_pin_at n (cells_of w) step ≡ Some out → IsOnly (record { pin = w.out_pin; inverted = false }) step.out out
left n w step out e =
    let scan = bound (scan_path_at n (cells_of w) step.instance step.path) (λ path. slice_get path.outs step.out) out e in
    let here = entered n w step.instance step.path scan.value scan.is in
    only (record { pin = w.out_pin; inverted = false }) step.out out (ap (λ (p : ScanPath). slice_get p.outs step.out) (sym here.only.same) ∙ scan.gives)

-- a step over the only path of an instance
pub record IsUnit (n : Netlist) (step : Step) : Type 0 where
  pub placed : Instance
  pub is : slice_get n.instances step.instance ≡ Some placed
  pub path : step.path ≡ 0
  pub out : step.out ≡ 0

record HasNet (n : Netlist) (cells : Cells) (source : Source) : Type 0 where
  net : NetId
  is : source_net n cells source ≡ Some net

lead_net : (n : Netlist) (cells : Cells) (source : Source) (steps : List Step) (sink : Sink) → Leads n cells source steps sink → HasNet n cells source
lead_net n cells source [] sink l = record { net = l.feeds.from; is = l.feeds.from_is }
lead_net n cells source (step ∷ steps) sink l = record { net = l.0.feeds.from; is = l.0.feeds.from_is }

unit : (n : Netlist) (w : Rewire) (step : Step) (to : NetId) → sink_net n (cells_of w) (sinks.In step.instance step.path) ≡ Some to → HasNet n (cells_of w) (sources.Out step) → IsUnit n step
unit n w step to e from =
    let scan = bound (scan_path_at n (cells_of w) step.instance step.path) (λ path. pin_net n step.instance path.input) to e in
    let here = entered n w step.instance step.path scan.value scan.is in
    let out = bound (out_pin_at n (cells_of w) step) (λ out. pin_net n step.instance out.pin) from.net from.is in
    record { placed = here.placed; is = here.is; path = here.only.first; out = (left n w step out.value out.is).first }

-- each step of a path is one
pub lead_units : (n : Netlist) (w : Rewire) (source : Source) (steps : List Step) (sink : Sink) → Leads n (cells_of w) source steps sink → Each (IsUnit n) steps
lead_units n w source [] sink l = tt
lead_units n w source (step ∷ steps) sink l =
    (unit n w step l.0.feeds.to l.0.feeds.to_is (lead_net n (cells_of w) (sources.Out step) steps sink l.1), lead_units n w (sources.Out step) steps sink l.1)

step_same : (s t : Step) → s.instance ≡ t.instance → s.path ≡ t.path → s.out ≡ t.out → s ≡ t
step_same s t a b d =
    ap (λ (i : ℕ). record { instance = i; path = s.path; out = s.out }) a ∙ ap (λ (p : ℕ). record { instance = t.instance; path = p; out = s.out }) b
    ∙ ap (λ (o : ℕ). record { instance = t.instance; path = t.path; out = o }) d

name_at : (n : Netlist) (step : Step) → IsUnit n step → slice_get (map (λ (i : Instance). i.name) n.instances) step.instance ≡ Some (instance_name n step)
name_at n step u = slice_get-map (λ (i : Instance). i.name) n.instances step.instance ∙ ap (option_map (λ (i : Instance). i.name)) u.is ∙ ap Some (sym (ap name_of u.is))

-- two steps whose instances have one name
pub same_unit : (n : Netlist) (a b : Step) → IsNetlist n → IsUnit n a → IsUnit n b → instance_name n a ≡ instance_name n b → a ≡ b
same_unit n a b sound u v same =
    let all = map (λ (i : Instance). i.name) n.instances in
    let at = name_at n a u in
    let bt = name_at n b v in
    let one = sound.instance_names a.instance b.instance [] (slice_get_within all a.instance (instance_name n a) at) (slice_get_within all b.instance (instance_name n b) bt)
    (get_or_from_slice_get all a.instance (instance_name n a) [] at ∙ same ∙ sym (get_or_from_slice_get all b.instance (instance_name n b) [] bt))
    in
    step_same a b one (u.path ∙ sym v.path) (u.out ∙ sym v.out)
