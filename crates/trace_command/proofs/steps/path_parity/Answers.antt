use Rattle.std.proofs.Common.{◌+◌, drop, sym, ap, ◌∙◌}
use Rattle.std.specs.Prelude.{Bool}
use Rattle.std.specs.List.{flat_map}
use Rattle.chain_trace.specs.Parities.{plus, odd, step_inversions}
use Rattle.trace_command.proofs.Sums.{flat_turn}
use Rattle.trace_command.proofs.steps.path_parity.Goals as goal

pub loop-step-preserved : goal.loop-step-preserved
loop-step-preserved c =
    let f = step_inversions c.args.netlist.now c.args.table.now in
    let i = c.loop-step.step-index in
    let turn = flat_turn f c.args.steps.now i _ c.loop-step.parity c.loop-step-test.true in
    let sum = c.plus-parity.ensures.value ∙ ap (plus c.loop-step.parity) c.step_parity.ensures.value in
    ap (λ (b : Bool). plus b (odd (flat_map f (drop (i + 1) c.args.steps.now)))) sum ∙ sym turn ∙ c.loop-step.invariant
