use Rattle.std.proofs.Common.{refl, map, Some, None, Vec, Global}
use Rattle.std.proofs.lemmas.Result.{err_from_is_err_and}
use Rattle.base_types.specs.FirstFault.{IsFirstFault}
use Rattle.netlist_core.specs.declared.netlist.NetId.{NetId}
use Rattle.chain_trace.specs.declared.path.Path.{Path}
use Rattle.traced_paths.specs.Traced.{HoldsInPaths}
use Rattle.traced_paths.specs.Asked.{told}
use Rattle.traced_paths.specs.Steps.{IsTooMany, IsMetFrom}
use Rattle.traced_paths.proofs.PathsFaults.{port_first, count_first, trace_first, cell_first, none_holds, are_paths, fault_across, lacks_here, outputs_here, traced_here, first_here, again_here, one_list}
use Rattle.traced_paths.proofs.paths.trace_asked.Goals as goal

pub returns-in-Some-clause-fault : goal.returns-in-Some-clause-fault
returns-in-Some-clause-fault c =
    let n = c.args.netlist.now in
    let asked = map told c.args.asks.now in
    rw c.refused.ensures.value
    (port_first n c.args.table.now c.args.file asked c.requires.netlist c.in-Some.line (lacks_here n c.in_ok-ports.ports asked (Some c.in-Some.line) (Some c.in-Some.line) c.in_ok-ports.ensures.value refl c.in-Some.ensures.value))

pub returns-in_err-nets-clause-fault : goal.returns-in_err-nets-clause-fault
returns-in_err-nets-clause-fault c =
    let n = c.args.netlist.now in
    let cells = c.args.table.now in
    let file = c.args.file in
    let asked = map told c.args.asks.now in
    let there = lacks_here n c.in_ok-ports.ports asked None None c.in_ok-ports.ensures.value refl c.in_default.ensures.value in
    let p = err_from_is_err_and c.from_residual-in_err-nets.result c.from_residual-in_err-nets.ensures.1 in
    rw (p.1, p.2)
    (fault_across (Vec NetId Global) (Vec Path Global) c.in_err-nets.field-0.0 (IsTooMany file asked) (IsFirstFault (HoldsInPaths n cells file asked))
    (λ f h. count_first n cells file asked c.requires.netlist there f h) c.in_err-nets.ensures.fault)

pub returns-in_err-paths-clause-fault : goal.returns-in_err-paths-clause-fault
returns-in_err-paths-clause-fault c =
    let n = c.args.netlist.now in
    let cells = c.args.table.now in
    let file = c.args.file in
    let asked = map told c.args.asks.now in
    let nets = c.in_ok-nets.nets.items in
    let t = c.in_ok-tracer.tracer in
    let there = lacks_here n c.in_ok-ports.ports asked None None c.in_ok-ports.ensures.value refl c.in_default.ensures.value in
    let outputs = outputs_here n c.in_ok-ports.ports asked nets c.in_ok-ports.ensures.value c.in_ok-nets.ensures.value in
    let p = err_from_is_err_and c.from_residual-in_err-paths.result c.from_residual-in_err-paths.ensures.1 in
    rw (p.1, p.2)
    (fault_across (Vec Path Global) (Vec Path Global) c.in_err-paths.field-0.0 (IsFirstFault (IsMetFrom t.netlist t.cells c.as_slice.result.now)) (IsFirstFault (HoldsInPaths n cells file asked))
    (λ f h. trace_first n cells file asked c.requires.netlist there nets outputs f (first_here n cells t c.as_slice.result.now nets f c.in_ok-tracer.ensures.value c.as_slice.ensures.value h)) c.in_err-paths.ensures.fault)

pub returns-in-Some-2-clause-fault : goal.returns-in-Some-2-clause-fault
returns-in-Some-2-clause-fault c =
    let n = c.args.netlist.now in
    let cells = c.args.table.now in
    let asked = map told c.args.asks.now in
    let nets = c.in_ok-nets.nets.items in
    let paths = c.in_ok-paths.paths.items in
    let there = lacks_here n c.in_ok-ports.ports asked None None c.in_ok-ports.ensures.value refl c.in_default.ensures.value in
    let outputs = outputs_here n c.in_ok-ports.ports asked nets c.in_ok-ports.ensures.value c.in_ok-nets.ensures.value in
    let traced = traced_here n cells c.in_ok-tracer.tracer c.as_slice.result.now nets paths c.in_ok-tracer.ensures.value c.as_slice.ensures.value c.in_ok-paths.ensures.value in
    rw c.refused-in-Some-2.ensures.value
    (cell_first n cells c.args.file asked c.requires.netlist there nets outputs paths traced c.in-Some-2.line
    (again_here n c.as_slice-2.result.now paths c.in_ok-line.field-0 (Some c.in-Some-2.line) c.as_slice-2.ensures.value c.in-Some-2.is c.in_ok-line.ensures.value))

pub returns-clause-paths : goal.returns-clause-paths
returns-clause-paths c =
    let n = c.args.netlist.now in
    let cells = c.args.table.now in
    let asked = map told c.args.asks.now in
    let nets = c.in_ok-nets.nets.items in
    let paths = c.in_ok-paths.paths.items in
    let there = lacks_here n c.in_ok-ports.ports asked None None c.in_ok-ports.ensures.value refl c.in_default.ensures.value in
    let outputs = outputs_here n c.in_ok-ports.ports asked nets c.in_ok-ports.ensures.value c.in_ok-nets.ensures.value in
    let traced = traced_here n cells c.in_ok-tracer.tracer c.as_slice.result.now nets paths c.in_ok-tracer.ensures.value c.as_slice.ensures.value c.in_ok-paths.ensures.value in
    are_paths n cells c.args.file asked c.requires.netlist there nets outputs paths traced
    (again_here n c.as_slice-2.result.now paths c.in_ok-line.field-0 None c.as_slice-2.ensures.value c.in_default-2.is c.in_ok-line.ensures.value)

pub returns-clause-only : goal.returns-clause-only
returns-clause-only c = λ other o. one_list c.args.netlist.now c.args.table.now (map told c.args.asks.now) c.requires.netlist other c.in_ok-paths.paths.items o (returns-clause-paths c)

pub returns-clause-no_fault : goal.returns-clause-no_fault
returns-clause-no_fault c =
    let n = c.args.netlist.now in
    let cells = c.args.table.now in
    let asked = map told c.args.asks.now in
    let nets = c.in_ok-nets.nets.items in
    let paths = c.in_ok-paths.paths.items in
    let there = lacks_here n c.in_ok-ports.ports asked None None c.in_ok-ports.ensures.value refl c.in_default.ensures.value in
    let outputs = outputs_here n c.in_ok-ports.ports asked nets c.in_ok-ports.ensures.value c.in_ok-nets.ensures.value in
    let traced = traced_here n cells c.in_ok-tracer.tracer c.as_slice.result.now nets paths c.in_ok-tracer.ensures.value c.as_slice.ensures.value c.in_ok-paths.ensures.value in
    none_holds n cells c.args.file asked c.requires.netlist there nets outputs paths traced
    (again_here n c.as_slice-2.result.now paths c.in_ok-line.field-0 None c.as_slice-2.ensures.value c.in_default-2.is c.in_ok-line.ensures.value)
