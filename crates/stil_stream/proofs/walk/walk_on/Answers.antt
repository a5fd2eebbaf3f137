use Rattle.std.proofs.Common.{refl}
use Rattle.std.proofs.lemmas.List.{take_rest}
use Rattle.stil_stream.proofs.Walking.{walk-begin, rest-passes, rest-here, rest-last, rest-open, done-last, done-open}
use Rattle.stil_stream.proofs.walk.walk_on.Goals as goal

pub loop-now-init : goal.loop-now-init
loop-now-init c = record {
  passed = walk-begin c.args.bytes.now c.args.walk c.requires.walked;
  resumes = c.requires.walked.resumes;
}

pub loop-now-preserved : goal.loop-now-preserved
loop-now-preserved c =
    let x = c.args.bytes.now in
    let now = c.loop-now.now in
    let next = rest-passes x now.passed now.comment c.loop-now.invariant.passed _ c.in-Passed.len c.in-Passed.comment c.walk_at-now.result (take_rest x now.passed) c.in-Passed.ensures.value c.walk_at-now.ensures in
    record { passed = next.0; resumes = next.1 }

pub returns-in-Here : goal.returns-in-Here
returns-in-Here c =
    let x = c.args.bytes.now in
    let now = c.loop-now.now in
    record { value = rest-here x now.passed now.comment c.loop-now.invariant.passed c.args.last _ (take_rest x now.passed) c.loop-now-test.true c.in-Here.ensures.value }

pub returns-in-Open : goal.returns-in-Open
returns-in-Open c =
    let x = c.args.bytes.now in
    let now = c.loop-now.now in
    record { value = rest-last x now.passed now.comment c.loop-now.invariant.passed c.args.last _ (take_rest x now.passed) c.if-last.true c.in-Open.ensures.value.0 }

pub returns-in-Open-2 : goal.returns-in-Open-2
returns-in-Open-2 c =
    let x = c.args.bytes.now in
    let now = c.loop-now.now in
    record {
      value = rest-open x now.passed now.comment c.loop-now.invariant.passed c.args.last _ c.in-Open._scan (take_rest x now.passed) c.if-last.false c.in-Open.ensures.value.0 c.in-Open.ensures.value.1;
    }

pub returns-then-last-2 : goal.returns-then-last-2
returns-then-last-2 c = record { value = done-last c.args.bytes.now c.loop-now.now.passed c.loop-now.now.comment c.loop-now.invariant.passed c.args.last c.if-last-2.true c.loop-now-test.false }

pub returns-else-last-2 : goal.returns-else-last-2
returns-else-last-2 c = record {
  value = done-open c.args.bytes.now c.loop-now.now.passed c.loop-now.now.comment c.loop-now.invariant.passed c.args.last c.loop-now.now c.if-last-2.false c.loop-now-test.false refl refl c.loop-now.invariant.resumes;
}
