use Rattle.std.proofs.Common.{◌≡◌, ◌++◌, ◌∷◌, [], true, false, List, inr, ap, sym, subst, ◌∙◌}
use Rattle.std.specs.List.{slice_get}
use Rattle.std.proofs.lemmas.Bool.{false≢true}
use Rattle.base_types.specs.Faults.{at_line}
use Rattle.base_types.specs.declared.fault.FileKind.TheVariants.{Verilog}
use Rattle.base_types.proofs.TruthValues.{was_there, was_new}
use Rattle.base_types.specs.declared.kind.Kind.TheVariants as kinds
use Rattle.chain_trace.specs.declared.path.Step.{Step}
use Rattle.chain_trace.specs.declared.path.Source.{Source}
use Rattle.chain_trace.specs.declared.path.Source.TheVariants as sources
use Rattle.chain_trace.specs.declared.path.Sink.TheVariants as sinks
use Rattle.chain_trace.specs.declared.tally.Found.TheVariants.{Only}
use Rattle.chain_trace.specs.Paths.{IsScanPath}
use Rattle.chain_trace.specs.Faults.{IsMet, IsAmong, line_of_instance}
use Rattle.chain_trace.specs.Drivers.{Traced, AreMarks}
use Rattle.chain_trace.proofs.Ranges.{instance_within}
use Rattle.chain_trace.proofs.Marked.{marks_more, marked_among, among_marked}
use Rattle.chain_trace.proofs.Meeting.{met_more, met_port, source_of}
use Rattle.chain_trace.proofs.tracer.Tracer.walk.Goals as goal

pub returns-in-Only-Port-clause-path : goal.returns-in-Only-Port-clause-path
returns-in-Only-Port-clause-path c =
    let n = c.args.self.now.netlist in
    let t = c.args.self.now.cells in
    let source : c.in-Only-Port.field-0 ≡ sources.Port c.in-Only-Port.input = rw c.in-Only-Port.is at c.in-Only-Port.field-0-is in
    let only = source_of n t c.back.sink c.back.found (sources.Port c.in-Only-Port.input) (c.in-Only-Port.is ∙ ap (λ (x : Source). Only x) source) c.back.invariant.says in
    subst (λ (ss : List Step). IsScanPath n t c.args.output (record { input = c.in-Only-Port.input; output = c.args.output; steps = ss }))
    (sym (c.of.ensures.value ∙ c.reverse.ensures.items)) (met_port n t c.args.output c.back.steps.items c.back.sink c.in-Only-Port.input c.back.invariant.met only)

pub returns-then-not-branch-clause-fault : goal.returns-then-not-branch-clause-fault
returns-then-not-branch-clause-fault c =
    let n = c.args.self.now.netlist in
    let t = c.args.self.now.cells in
    let step = c.in-Only-Out.step in
    let source : c.in-Only-Out.field-0 ≡ sources.Out step = rw c.in-Only-Out.is at c.in-Only-Out.field-0-is in
    let only = source_of n t c.back.sink c.back.found (sources.Out step) (c.in-Only-Out.is ∙ ap (λ (x : Source). Only x) source) c.back.invariant.says in
    let marked = sym (c.back.invariant.marks (step.instance, step.path)) ∙ was_there c.in_ok-insert-in-Only-Out.field-0 _ c.in_ok-insert-in-Only-Out.ensures.added c.if-not-branch.true in
    rw c.loop_fault.ensures.value
    (inr (inr (record {
      steps = c.back.steps.items;
      sink = c.back.sink;
      met = c.back.invariant.met;
      step = step;
      only = only;
      again = marked_among c.back.steps.items step marked;
      is = ap (λ (t : Traced). at_line kinds.Loop Verilog (line_of_instance (slice_get t.netlist.instances step.instance))) c.self.view_is;
    })))

pub in_driver-found-requires : goal.in_driver-found-requires
in_driver-found-requires c =
    let source : c.in-Only-Out.field-0 ≡ sources.Out c.in-Only-Out.step = rw c.in-Only-Out.is at c.in-Only-Out.field-0-is in
    let only = source_of c.args.self.now.netlist c.args.self.now.cells c.back.sink c.back.found (sources.Out c.in-Only-Out.step) (c.in-Only-Out.is ∙ ap (λ (x : Source). Only x) source) c.back.invariant.says in
    record { instance = instance_within c.args.self.now.netlist c.args.self.now.cells c.in-Only-Out.step c.back.sink only }

pub back-preserved : goal.back-preserved
back-preserved c =
    let n = c.args.self.now.netlist in
    let t = c.args.self.now.cells in
    let step = c.in-Only-Out.step in
    let source : c.in-Only-Out.field-0 ≡ sources.Out step = rw c.in-Only-Out.is at c.in-Only-Out.field-0-is in
    let only = source_of n t c.back.sink c.back.found (sources.Out step) (c.in-Only-Out.is ∙ ap (λ (x : Source). Only x) source) c.back.invariant.says in
    let absent = sym (c.back.invariant.marks (step.instance, step.path)) ∙ was_new c.in_ok-insert-in-Only-Out.field-0 _ c.in_ok-insert-in-Only-Out.ensures.added c.if-not-branch.false in
    let none : IsAmong c.back.steps.items step → ⊥ = λ a. false≢true (sym absent ∙ among_marked c.back.steps.items step a) in
    let pushed : c.push.new.self.items ≡ c.back.steps.items ++ step ∷ [] = c.in_ok-push-in-Only-Out.ensures.items in
    record {
      met = subst (λ (ss : List Step). IsMet n t c.args.output ss (sinks.In step.instance step.path)) (sym pushed) (met_more n t c.args.output c.back.steps.items c.back.sink step c.back.invariant.met only none);
      says = c.in_driver-found.ensures.says;
      marks = subst (λ (ss : List Step). AreMarks ss c.insert.new.self) (sym pushed)
          (marks_more c.back.steps.items step c.back.marks c.insert.new.self c.back.invariant.marks (λ q. c.in_ok-insert-in-Only-Out.ensures.updates.0 q));
    }
