use Rattle.std.proofs.Common.{arith}
use Rattle.net_edit.proofs.TailTexts.{front_is, no_front}
use Rattle.net_edit.proofs.names.vector_of.Goals as goal

pub returns-then-text-end-eq91 : goal.returns-then-text-end-eq91
returns-then-text-end-eq91 c = record {
  value = λ name free. front_is c.args.text.now name c.loop-end.end c.loop-end-test.true c.loop-end.invariant c.if-text-end-eq91.true free;
}

pub returns : goal.returns
returns c = record { value = λ name. no_front c.args.text.now name (λ k lt. c.loop-end.invariant k (omega arith)) }
