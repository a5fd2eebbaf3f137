use Rattle.std.proofs.Common.{arith}
use Rattle.std.proofs.lemmas.Bool.{ltb-true, lt-ltb}
use Rattle.chain_rules.proofs.Overlaps.{one_meets, meets_one}
use Rattle.chain_rules.proofs.spans.Spans.meet.Goals as goal

pub returns-then-span : goal.returns-then-span
returns-then-span c = record {
  value = (
    λ yes. let some = ltb-true 0 c.meeting.result yes in one_meets c.args.span c.args.self.now (omega (arith, c.meeting.ensures.value)),
    λ found. let some = meets_one c.args.span c.args.self.now found in lt-ltb 0 c.meeting.result (omega (arith, c.meeting.ensures.value)),
  );
}
