use Rattle.std.proofs.Common.{ℕ, ◌≤◌, ◌<◌, ◌+◌, ◌≡◌, eqb, Bool, false, length, sym, arith, subst}
use Rattle.std.proofs.lemmas.Bool.{eqb-false, eqb-true}
use Rattle.stil_parts.specs.Coming.{most}
use Rattle.stil_parts.specs.Resuming.{CanResume}
use Rattle.stil_parts.proofs.Choices.{decided-empty, open-large, open-wants, ended-total, ended-open}
use Rattle.stil_parts.proofs.choice.stay_open.Goals as goal

some-bytes : (n : ℕ) → false ≡ eqb n 0 → 0 < n
some-bytes n e = let ne = eqb-false n 0 (sym e) in omega (arith, ne)

pub returns-then-bytes-gt-LARGEST : goal.returns-then-bytes-gt-LARGEST
returns-then-bytes-gt-LARGEST c =
    record { value = λ judge. rw c.stop.ensures (open-large judge c.args.last c.args.point c.args.bytes.now c.requires.no_gap c.requires.is c.if-bytes-gt-LARGEST.true) }

pub returns-then-not-last : goal.returns-then-not-last
returns-then-not-last c =
    let resumes = subst (λ (b : Bool). CanResume b c.args.point.place c.args.bytes.now c.args.now) c.if-not-last.true c.requires.resumes in
    record { value = λ judge. (open-wants judge c.args.last c.args.point c.args.bytes.now c.requires.no_gap c.requires.is c.if-not-last.true c.if-bytes-gt-LARGEST.false, resumes) }

pub returns-then-bytes-point : goal.returns-then-bytes-point
returns-then-bytes-point c =
    let over : most < c.args.point.given + length c.args.bytes.now = omega (arith, c.if-bytes-point.true) in
    record { value = λ judge. rw c.stop-then-bytes-point.ensures (ended-total judge c.args.last c.args.point c.args.bytes.now c.requires.no_gap c.requires.is c.if-not-last.false c.if-bytes-gt-LARGEST.false (some-bytes (length c.args.bytes.now) c.if-is_empty.ensures) over) }

pub returns : goal.returns
returns c =
    let fits : c.args.point.given + length c.args.bytes.now ≤ most = omega (arith, c.if-bytes-point.false, c.requires.early.given) in
    record { value = λ judge. rw c.stop-2.ensures (ended-open judge c.args.last c.args.point c.args.bytes.now c.requires.no_gap c.requires.is c.if-not-last.false c.if-bytes-gt-LARGEST.false (some-bytes (length c.args.bytes.now) c.if-is_empty.ensures) fits) }

pub returns-then-is_empty : goal.returns-then-is_empty
returns-then-is_empty c =
    let none = eqb-true (length c.args.bytes.now) 0 (sym c.if-is_empty.ensures) in
    record { value = decided-empty c.args.last c.args.point c.args.bytes.now c.finish.result c.if-not-last.false none c.finish.ensures.value }
