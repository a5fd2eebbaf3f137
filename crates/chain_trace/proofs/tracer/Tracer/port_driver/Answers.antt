use Rattle.std.proofs.Common.{◌≡◌, ◌<◌, ℕ, Bool, true, cond, List, length, get_or, ap, sym, subst, ◌∙◌, arith}
use Rattle.std.specs.Prelude.{Some, None}
use Rattle.std.proofs.lemmas.List.{get_or_default}
use Rattle.chain_trace.specs.declared.path.Sink.TheVariants as sinks
use Rattle.chain_trace.specs.declared.tally.Tally.{Tally}
use Rattle.chain_trace.specs.declared.tally.Tally.TheVariants.{Empty}
use Rattle.chain_trace.specs.Paths.{is_driven, has_port, sink_net}
use Rattle.chain_trace.specs.Drivers.{Traced, IsWithout, Says}
use Rattle.chain_trace.proofs.Ranges.{port_within, class_within}
use Rattle.chain_trace.proofs.Finding.{says_port}
use Rattle.chain_trace.proofs.tracer.Tracer.port_driver.Goals as goal

pub class_of-requires : goal.class_of-requires
class_of-requires c =
    let n = c.self.inside.netlist.now in
    let driven = subst (λ (t : Traced). has_port is_driven t.netlist c.args.output ≡ true) (sym c.self.view_is) c.requires.output in
    let within = port_within n is_driven c.args.output c.self.invariant.netlist driven in
    record { within = omega (arith, within, c.self.invariant.classes_are.count) }

pub index-requires : goal.index-requires
index-requires c =
    let n = c.self.inside.netlist.now in
    let driven = subst (λ (t : Traced). has_port is_driven t.netlist c.args.output ≡ true) (sym c.self.view_is) c.requires.output in
    let within = port_within n is_driven c.args.output c.self.invariant.netlist driven in
    let class = class_within n c.self.inside.classes.now c.args.output.0 c.self.invariant.classes_are within in
    omega (arith, class, c.class_of.ensures.value, c.self.invariant.drivers_are.count, c.self.inside.drivers.ok)

pub returns : goal.returns
returns c =
    let n = c.self.inside.netlist.now in
    let cells = c.self.inside.table.now in
    let cs = c.self.inside.classes.now in
    let ds = c.self.inside.drivers.items in
    let out = c.args.output in
    let driven = subst (λ (t : Traced). has_port is_driven t.netlist out ≡ true) (sym c.self.view_is) c.requires.output in
    let within = port_within n is_driven out c.self.invariant.netlist driven in
    let class = class_within n cs out.0 c.self.invariant.classes_are within in
    let lt : c.class_of.result.0 < length ds = omega (arith, class, c.class_of.ensures.value, c.self.invariant.drivers_are.count) in
    let tally : c.index.result.now ≡ get_or ds (get_or cs out.0 0) Empty =
    c.index.ensures ∙ get_or_default ds c.class_of.result.0 c.index.result.now Empty lt ∙ ap (λ (k : ℕ). get_or ds k Empty) c.class_of.ensures.value in
    let sink : sink_net n cells (sinks.Port out) ≡ Some out = ap (λ (b : Bool). cond b (Some out) None) driven in
    record {
      says = subst (λ (t : Traced). Says t.netlist t.cells (sinks.Port out) c.without.result) c.self.view_is
          (says_port n cells cs ds c.self.invariant.netlist c.self.invariant.classes_are c.self.invariant.drivers_are out c.without.result sink class
          (subst (λ (t : Tally). IsWithout out t c.without.result) tally c.without.ensures.value));
    }
