use Rattle.std.proofs.Common.{◌∙◌, sym, refl, arith, ◌+◌, ◌≡◌, Bool, true, false, ◌&&◌}
use Rattle.stil_parts.specs.Scanner.{at_brace, HasReached}
use Rattle.stil_parts.proofs.Scans.{step_depth, turn_goes, turn_run, turn_ends, turn_opens, stop_opens, reached}
use Rattle.stil_parts.proofs.CalmRuns.{IsJump, jumped-end, jumped-run}
use Rattle.stil_parts.proofs.scan.scan_on.Goals.{else-last-via-then-last+else-at_brace, else-last-via-else-last}
use Rattle.stil_parts.proofs.scan.scan_on.Goals as goal

pub loop-at-preserved : goal.loop-at-preserved
loop-at-preserved c =
    let goes = c.in-Goes.ensures in
    let jump : IsJump c.args.bytes.now (c.loop-at.at + 1) c.calm_on-jump.result.len c.in-Goes.next c.calm_on-jump.result.scan = record { depth = c.calm_on-jump.ensures.depth; ends = c.calm_on-jump.ensures.ends; ran = c.calm_on-jump.ensures.ran } in
    record {
      within = omega (arith, c.calm_on-jump.ensures.within);
      some = omega (arith, c.loop-at.invariant.some);
      shallow = omega (arith, step_depth c.loop-at.now c.in-Goes.next _ goes, c.loop-at.invariant.shallow, c.calm_on-jump.ensures.depth);
      same = c.loop-at.invariant.same ∙ turn_goes c.args.last c.loop-at.now c.in-Goes.next c.args.bytes.now c.loop-at.at c.loop-at-test.true goes ∙ jumped-end c.args.last c.args.bytes.now c.loop-at.at c.calm_on-jump.result.len c.in-Goes.next c.calm_on-jump.result.scan jump;
      ran = c.loop-at.invariant.ran ∙ turn_run c.args.last c.loop-at.now c.in-Goes.next c.args.bytes.now c.loop-at.at c.loop-at-test.true goes ∙ jumped-run c.args.last c.args.bytes.now c.loop-at.at c.calm_on-jump.result.len c.in-Goes.next c.calm_on-jump.result.scan jump;
    }

pub returns-in-Ends : goal.returns-in-Ends
returns-in-Ends c = record {
  value = record {
    same = c.loop-at.invariant.same ∙ turn_ends c.args.last c.loop-at.now c.loop-at.now c.args.bytes.now c.loop-at.at c.loop-at-test.true c.in-Ends.ensures;
    within = omega arith;
    some = omega (arith, c.loop-at.invariant.some);
  };
}

pub returns-in-Opens : goal.returns-in-Opens
returns-in-Opens c = record {
  value = record {
    same = c.loop-at.invariant.same ∙ turn_opens c.args.last c.loop-at.now c.loop-at.now c.args.bytes.now c.loop-at.at c.loop-at-test.true c.in-Opens.ensures;
    within = omega arith;
    some = omega (arith, c.loop-at.invariant.some);
  };
}

pub returns-then-at_brace : goal.returns-then-at_brace
returns-then-at_brace c = record {
  value = record {
    same = c.loop-at.invariant.same ∙ stop_opens c.args.last c.loop-at.now c.args.bytes.now c.loop-at.at c.loop-at-test.false c.if-last.true (sym c.if-at_brace.ensures);
    within = omega arith;
    some = omega (arith, c.loop-at.invariant.some);
  };
}

pub returns : goal.returns
returns c =
    let none : (last : Bool) → last ≡ c.args.last → (last && at_brace c.loop-at.now) ≡ false → HasReached c.args.last c.args.bytes.now c.args.from c.args.scan c.loop-at.now =
    λ last e closed. reached c.args.last c.args.scan c.loop-at.now c.args.bytes.now c.args.from c.loop-at.at c.loop-at-test.false c.loop-at.invariant.within c.loop-at.invariant.shallow (rw e at closed) c.loop-at.invariant.same c.loop-at.invariant.ran in
    record {
      value = elim c.else-last.branch [
        | else-last-via-then-last+else-at_brace w ↦ none true (sym w.if-last.true) (sym w.if-at_brace.ensures)
        | else-last-via-else-last w ↦ none false (sym w.if-last.false) refl
      ];
    }
