use Rattle.std.proofs.Common.{Err, List, ◌++◌, ◌∷◌, [], sym, subst}
use Rattle.base_types.specs.declared.fault.ReadFault.{ReadFault}
use Rattle.base_types.specs.FirstFault.{IfFault}
use Rattle.chain_trace.specs.declared.path.Path.{Path}
use Rattle.chain_trace.specs.Faults.{IsTraceFault}
use Rattle.traced_paths.specs.Steps.{AreTracedSoFar}
use Rattle.traced_paths.proofs.FirstMet.{more_path, more_fault}
use Rattle.traced_paths.proofs.tracing.trace_one.Goals as goal

pub returns-in_ok-push-in-Ok : goal.returns-in_ok-push-in-Ok
returns-in_ok-push-in-Ok c = record {
  more = λ before so.
      subst (λ (l : List Path). AreTracedSoFar c.args.tracer.now.netlist c.args.tracer.now.cells (before ++ c.args.net ∷ []) l c.args.first) (sym c.in_ok-push-in-Ok.ensures.items)
      (more_path c.args.tracer.now.netlist c.args.tracer.now.cells before c.args.net c.args.paths.now.items c.args.first c.in-Ok.path so c.in-Ok.ensures.path c.in-Ok.ensures.entries);
}

pub returns-in-Err-Fault : goal.returns-in-Err-Fault
returns-in-Err-Fault c =
    let met = subst (λ (e : ReadFault). IfFault {X = Path} (Err e) (IsTraceFault c.args.tracer.now.netlist c.args.tracer.now.cells c.args.net)) c.in-Err-Fault.field-0-is c.in-Err-Fault.ensures.fault in
    record {
      more = λ before so.
          rw c.earlier.ensures.value
          (more_fault c.args.tracer.now.netlist c.args.tracer.now.cells before c.args.net c.args.paths.now.items c.args.first c.in-Err-Fault.fault so met);
    }
