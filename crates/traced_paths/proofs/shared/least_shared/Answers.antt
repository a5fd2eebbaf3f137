use Rattle.std.proofs.Common.{take, ap, subst, List}
use Rattle.std.specs.List.{list_any}
use Rattle.chain_trace.specs.declared.path.Step.{Step}
use Rattle.chain_trace.specs.Drivers.{same_place}
use Rattle.list_laws.specs.Leasts.{IsLeast}
use Rattle.traced_paths.specs.Traced.{steps_of}
use Rattle.traced_paths.specs.Steps.{IsMarked}
use Rattle.traced_paths.proofs.SharedLines.{again_none, again_next, again_all, path_marked}
use Rattle.traced_paths.proofs.shared.least_shared.Goals as goal

pub loop-path-init : goal.loop-path-init
loop-path-init c = record { marked = λ q. ap (list_any (λ k. same_place q k)) c.new-marks.ensures.empty; least = again_none c.args.netlist.now }

pub loop-path-preserved : goal.loop-path-preserved
loop-path-preserved c =
    let paths = c.args.paths.now in
    let i = c.loop-path.path-index in
    let path = c.path-item.result in
    record {
      marked = path_marked paths i path c.as_slice-steps.result.now c.mark_all.new.marks c.as_slice-steps.ensures.value c.loop-path-test.true c.path-item.is
          (c.in_ok-mark_all.ensures.value (steps_of (take i paths)) c.loop-path.invariant.marked);
      least = rw c.lesser-least.ensures.value
          (again_next c.args.netlist.now c.loop-path.marks paths i path c.loop-path.least c.least_marked.result c.loop-path-test.true c.path-item.is c.loop-path.invariant.marked c.loop-path.invariant.least
          (subst (λ (l : List Step). IsLeast (IsMarked c.args.netlist.now c.loop-path.marks l) c.least_marked.result) c.as_slice-steps.ensures.value c.least_marked.ensures.value));
    }

pub returns : goal.returns
returns c = record { value = again_all c.args.netlist.now c.args.paths.now c.loop-path.path-index c.loop-path.least c.loop-path-test.false c.loop-path.invariant.least }
