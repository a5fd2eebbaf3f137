use Rattle.std.proofs.Common.{arith, false, sym, ap, ◌∙◌, get_or}
use Rattle.stil_tester.specs.Symbols.{differ}
use Rattle.retarget.proofs.Parities.{parity_of-more}
use Rattle.retarget.proofs.exits.sum_of.Goals as goal

pub loop-parity-preserved : goal.loop-parity-preserved
loop-parity-preserved c =
    ap (λ q. differ q (get_or c.args.parities.now c.loop-parity.parity-index false)) c.loop-parity.invariant
    ∙ sym (parity_of-more c.args.parities.now c.loop-parity.parity-index false (omega arith))
