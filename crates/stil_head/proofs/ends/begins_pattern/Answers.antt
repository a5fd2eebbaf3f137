use Rattle.std.proofs.Common.{◌≡◌, ◌∙◌, sym, ap, arith, true}
use Rattle.stil_parts.specs.declared.scan.Scan.{Scan}
use Rattle.stil_parts.specs.Heads.{word_of}
use Rattle.stil_parts.proofs.Scans.{step_depth}
use Rattle.stil_head.proofs.HeadWalk.{word_goes, word_ended, word_opened, word_known, word_last}
use Rattle.stil_head.proofs.ends.begins_pattern.Goals as goal

pub loop-at-init : goal.loop-at-init
loop-at-init c =
    let none : c.begin_at-scan.result.depth ≡ 0 = ap (λ (s : Scan). s.depth) c.begin_at-scan.ensures.value in
    record { within = omega arith; shallow = omega arith; same = ap (λ (s : Scan). word_of true s c.args.bytes.now) c.begin_at-scan.ensures.value }

pub returns-in-Some : goal.returns-in-Some
returns-in-Some c = record {
  value = sym c.loop-at.invariant.same ∙ word_known c.args.bytes.now c.loop-at.at c.loop-at.scan c.in-Some.known c.loop-at-test.true (sym c.in-Some.ensures.value);
}

pub returns-in-Ends : goal.returns-in-Ends
returns-in-Ends c = record {
  value = sym c.loop-at.invariant.same ∙ word_ended c.args.bytes.now c.loop-at.at c.loop-at.scan c.loop-at-test.true (sym c.in_default.ensures.value) c.in-Ends.ensures.value ∙ c.is_pattern.ensures.settled;
}

pub returns-in-Opens : goal.returns-in-Opens
returns-in-Opens c = record {
  value = sym c.loop-at.invariant.same ∙ word_opened c.args.bytes.now c.loop-at.at c.loop-at.scan c.loop-at-test.true (sym c.in_default.ensures.value) c.in-Opens.ensures.value;
}

pub loop-at-preserved : goal.loop-at-preserved
loop-at-preserved c =
    let deeper = step_depth c.loop-at.scan c.in-Goes.next _ c.in-Goes.ensures.value in
    record {
      within = omega (arith, c.loop-at-test.true);
      shallow = omega (arith, deeper, c.loop-at.invariant.shallow);
      same = sym (word_goes c.args.bytes.now c.loop-at.at c.loop-at.scan c.in-Goes.next c.loop-at-test.true (sym c.in_default.ensures.value) c.in-Goes.ensures.value) ∙ c.loop-at.invariant.same;
    }

pub returns : goal.returns
returns c = record {
  value = sym c.loop-at.invariant.same ∙ word_last c.args.bytes.now c.loop-at.at c.loop-at.scan c.loop-at-test.false ∙ c.is_pattern-2.ensures.shown;
}
