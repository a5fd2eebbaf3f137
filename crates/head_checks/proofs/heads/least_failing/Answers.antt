use Rattle.std.proofs.Common.{arith}
use Rattle.std.specs.List.{zip}
use Rattle.std.proofs.lemmas.Slice.Zip.{length-zip}
use Rattle.head_checks.specs.Heads.{line_of}
use Rattle.head_checks.proofs.Leasts.{zip_turn, fails_none, fails_all}
use Rattle.head_checks.proofs.heads.least_failing.Goals as goal

pub loop-k-init : goal.loop-k-init
loop-k-init g c = fails_none (g.T.Test.fails c.args.test.now) line_of

pub loop-k-preserved : goal.loop-k-preserved
loop-k-preserved g c =
    zip_turn (g.T.Test.fails c.args.test.now) c.args.chains.now c.args.paths.now c.loop-k.k c.index-chains-k.result c.index-chains-k-in-loop-k.result c.index-paths-k.result c.in_ok-fails.fails c.loop-k.least
    c.line_if.result c.lesser-least.result (omega (arith, c.loop-k-test.true, c.min-k-end.ensures)) (omega (arith, c.loop-k-test.true, c.min-k-end.ensures)) c.index-chains-k.is c.index-paths-k.is c.in_ok-fails.ensures.value c.line_if.ensures.value c.lesser-least.ensures.value c.loop-k.invariant

pub returns : goal.returns
returns g c =
    let len = length-zip c.args.chains.now c.args.paths.now in
    record { value = fails_all (g.T.Test.fails c.args.test.now) line_of (zip c.args.chains.now c.args.paths.now) c.loop-k.k c.loop-k.least (omega (arith, len, c.loop-k-test.false, c.min-k-end.ensures)) c.loop-k.invariant }
