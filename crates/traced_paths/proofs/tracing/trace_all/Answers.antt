use Rattle.std.proofs.Common.{Option, take, subst}
use Rattle.std.specs.Prelude.{IsTrue}
use Rattle.std.proofs.lemmas.List.Elements.{All-get_or}
use Rattle.base_types.specs.declared.fault.Fault.{Fault}
use Rattle.netlist_core.specs.declared.netlist.NetId.{NetId}
use Rattle.chain_trace.specs.Paths.{is_driven, has_port}
use Rattle.traced_paths.specs.Steps.{AreTracedSoFar}
use Rattle.traced_paths.proofs.FirstMet.{none_traced, traced_next, traced_all}
use Rattle.traced_paths.proofs.tracing.trace_all.Goals as goal

pub loop-net-init : goal.loop-net-init
loop-net-init c = rw c.new-paths.ensures.items (none_traced c.args.tracer.now.netlist c.args.tracer.now.cells)

pub trace_one-requires : goal.trace_one-requires
trace_one-requires c = record {
  output = All-get_or (λ (net : NetId). IsTrue (has_port is_driven c.args.tracer.now.netlist net)) c.args.nets.now c.loop-net.net-index _ c.loop-net-test.true c.requires.outputs;
}

pub loop-net-preserved : goal.loop-net-preserved
loop-net-preserved c =
    traced_next c.args.tracer.now.netlist c.args.tracer.now.cells c.args.nets.now c.loop-net.net-index _ c.trace_one.new.paths.items c.in_ok-first.first c.loop-net-test.true
    (c.in_ok-first.ensures.more (take c.loop-net.net-index c.args.nets.now) c.loop-net.invariant)

pub returns-in-Some-clause-fault : goal.returns-in-Some-clause-fault
returns-in-Some-clause-fault c =
    subst (λ (first : Option Fault). AreTracedSoFar c.args.tracer.now.netlist c.args.tracer.now.cells c.args.nets.now c.loop-net.paths.items first) c.in-Some.is
    (traced_all c.args.tracer.now.netlist c.args.tracer.now.cells c.args.nets.now c.loop-net.net-index c.loop-net.paths.items c.loop-net.first c.loop-net-test.false c.loop-net.invariant)

pub returns-in-None-clause-value : goal.returns-in-None-clause-value
returns-in-None-clause-value c =
    subst (λ (first : Option Fault). AreTracedSoFar c.args.tracer.now.netlist c.args.tracer.now.cells c.args.nets.now c.loop-net.paths.items first) c.in-None.is
    (traced_all c.args.tracer.now.netlist c.args.tracer.now.cells c.args.nets.now c.loop-net.net-index c.loop-net.paths.items c.loop-net.first c.loop-net-test.false c.loop-net.invariant)
