use Rattle.std.proofs.Common.{◌≤◌, arith}
use Rattle.lane_kernels.specs.Kernels.{is_allowed}
use Rattle.lane_kernels.proofs.Allowed.{run_passes, run_stops, run_short}
use Rattle.lane_kernels.proofs.bytes.any_byte_outside.Goals as goal

pub returns-then-before-lt32-clause-found : goal.returns-then-before-lt32-clause-found
returns-then-before-lt32-clause-found c = run_stops (is_allowed c.args.allowed.now) c.args.bytes.now c.loop-at.at c.allowed_in-before.result c.allowed_in-before.ensures (omega arith) c.if-before-lt32.true

pub returns-then-before-lt32-clause-least : goal.returns-then-before-lt32-clause-least
returns-then-before-lt32-clause-least c = run_passes (is_allowed c.args.allowed.now) c.args.bytes.now c.loop-at.at c.allowed_in-before.result c.allowed_in-before.ensures c.loop-at.invariant.passed (omega arith)

pub loop-at-preserved : goal.loop-at-preserved
loop-at-preserved c =
    let s : c.allowed_in-before.result ≤ 32 = run_short (is_allowed c.args.allowed.now) c.args.bytes.now c.loop-at.at c.allowed_in-before.result c.allowed_in-before.ensures (omega arith) in
    record {
      within = omega arith;
      passed = λ j l. run_passes (is_allowed c.args.allowed.now) c.args.bytes.now c.loop-at.at c.allowed_in-before.result c.allowed_in-before.ensures c.loop-at.invariant.passed s j (omega arith);
    }
