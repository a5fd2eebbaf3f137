use Rattle.std.proofs.Common.{◌≡◌, ◌<◌, ℕ, List, Bor, length, get_or, ap, sym, subst, ◌∙◌, arith}
use Rattle.std.specs.Prelude.{Some, None}
use Rattle.std.specs.List.{slice_get}
use Rattle.std.proofs.lemmas.List.{get_or_default}
use Rattle.cell_table.specs.declared.paths.ScanPath.{ScanPath}
use Rattle.chain_trace.specs.declared.path.Sink.TheVariants as sinks
use Rattle.chain_trace.specs.declared.tally.Found.{Found}
use Rattle.chain_trace.specs.declared.tally.Found.TheVariants.{Absent}
use Rattle.chain_trace.specs.declared.tally.Tally.{Tally}
use Rattle.chain_trace.specs.declared.tally.Tally.TheVariants.{Empty}
use Rattle.chain_trace.specs.Paths.{scan_path_at}
use Rattle.chain_trace.specs.Drivers.{Traced, HasEntries, whole, Says}
use Rattle.chain_trace.proofs.Ranges.{blank, pin_within, class_within, sink_is, sink_none}
use Rattle.chain_trace.proofs.Finding.{says_in, says_none}
use Rattle.chain_trace.proofs.tracer.Tracer.in_driver.Goals as goal

pub returns-in_default : goal.returns-in_default
returns-in_default c =
    let n = c.self.inside.netlist.now in
    let cells = c.self.inside.table.now in
    let i = c.args.instance in
    let p = c.args.path in
    let lt = subst (λ (t : Traced). i < length t.netlist.instances) (sym c.self.view_is) c.requires.instance in
    let here : HasEntries n cells i c.index.result.now.now = subst (λ (e : Bor (List ScanPath)). HasEntries n cells i e.now) (sym c.index.ensures) (c.self.invariant.entries_are.each i c.index.result.now lt) in
    let none : scan_path_at n cells i p ≡ None = sym (here p) ∙ sym c.in_default.ensures.value in
    record {
      says = subst (λ (t : Traced). Says t.netlist t.cells (sinks.In i p) Absent) c.self.view_is (says_none n cells (sinks.In i p) (sink_none n cells i p none));
    }

pub returns-in_default-net_of : goal.returns-in_default-net_of
returns-in_default-net_of c =
    let n = c.self.inside.netlist.now in
    let cells = c.self.inside.table.now in
    let i = c.args.instance in
    let p = c.args.path in
    let lt = subst (λ (t : Traced). i < length t.netlist.instances) (sym c.self.view_is) c.requires.instance in
    let here : HasEntries n cells i c.index.result.now.now = subst (λ (e : Bor (List ScanPath)). HasEntries n cells i e.now) (sym c.index.ensures) (c.self.invariant.entries_are.each i c.index.result.now lt) in
    let entry : scan_path_at n cells i p ≡ Some c.in-Some.entry.now = sym (here p) ∙ sym c.in-Some.ensures.value in
    record {
      says = subst (λ (t : Traced). Says t.netlist t.cells (sinks.In i p) Absent) c.self.view_is
          (says_none n cells (sinks.In i p) (sink_is n cells i p c.in-Some.entry.now None blank entry lt c.in_default-net_of.ensures.value));
    }

pub class_of-requires : goal.class_of-requires
class_of-requires c =
    let n = c.self.inside.netlist.now in
    let lt = subst (λ (t : Traced). c.args.instance < length t.netlist.instances) (sym c.self.view_is) c.requires.instance in
    let within = pin_within n c.args.instance c.in-Some.entry.now.input (Some c.in-Some-net_of.net) blank c.self.invariant.netlist lt c.in-Some-net_of.ensures.value in
    record { within = omega (arith, within, c.self.invariant.classes_are.count) }

pub index-requires-2 : goal.index-requires-2
index-requires-2 c =
    let n = c.self.inside.netlist.now in
    let lt = subst (λ (t : Traced). c.args.instance < length t.netlist.instances) (sym c.self.view_is) c.requires.instance in
    let within = pin_within n c.args.instance c.in-Some.entry.now.input (Some c.in-Some-net_of.net) blank c.self.invariant.netlist lt c.in-Some-net_of.ensures.value in
    let class = class_within n c.self.inside.classes.now c.in-Some-net_of.net.0 c.self.invariant.classes_are within in
    omega (arith, class, c.class_of.ensures.value, c.self.invariant.drivers_are.count, c.self.inside.drivers.ok)

pub returns : goal.returns
returns c =
    let n = c.self.inside.netlist.now in
    let cells = c.self.inside.table.now in
    let cs = c.self.inside.classes.now in
    let ds = c.self.inside.drivers.items in
    let i = c.args.instance in
    let p = c.args.path in
    let net = c.in-Some-net_of.net in
    let lt = subst (λ (t : Traced). i < length t.netlist.instances) (sym c.self.view_is) c.requires.instance in
    let here : HasEntries n cells i c.index.result.now.now = subst (λ (e : Bor (List ScanPath)). HasEntries n cells i e.now) (sym c.index.ensures) (c.self.invariant.entries_are.each i c.index.result.now lt) in
    let entry : scan_path_at n cells i p ≡ Some c.in-Some.entry.now = sym (here p) ∙ sym c.in-Some.ensures.value in
    let within = pin_within n i c.in-Some.entry.now.input (Some net) blank c.self.invariant.netlist lt c.in-Some-net_of.ensures.value in
    let class = class_within n cs net.0 c.self.invariant.classes_are within in
    let below : c.class_of.result.0 < length ds = omega (arith, class, c.class_of.ensures.value, c.self.invariant.drivers_are.count) in
    let tally : c.index-2.result.now ≡ get_or ds (get_or cs net.0 0) Empty =
    c.index-2.ensures ∙ get_or_default ds c.class_of.result.0 c.index-2.result.now Empty below ∙ ap (λ (k : ℕ). get_or ds k Empty) c.class_of.ensures.value in
    let found : c.whole.result ≡ whole (get_or ds (get_or cs net.0 0) Empty) = c.whole.ensures.value ∙ ap whole tally in
    record {
      says = subst (λ (t : Traced). Says t.netlist t.cells (sinks.In i p) c.whole.result) c.self.view_is
          (subst (λ (f : Found). Says n cells (sinks.In i p) f) (sym found)
          (says_in n cells cs ds c.self.invariant.netlist c.self.invariant.classes_are c.self.invariant.drivers_are i p net
          (sink_is n cells i p c.in-Some.entry.now (Some net) blank entry lt c.in-Some-net_of.ensures.value) class));
    }
