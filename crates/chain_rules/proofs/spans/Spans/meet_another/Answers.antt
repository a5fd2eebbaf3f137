use Rattle.std.proofs.Common.{ap, arith}
use Rattle.std.specs.Prelude.{count_by}
use Rattle.std.proofs.lemmas.Bool.{ltb-true, lt-ltb}
use Rattle.chain_rules.specs.declared.spans.Span.{Span}
use Rattle.chain_rules.specs.Spans.{overlap}
use Rattle.chain_rules.proofs.Overlaps.{another_meets, meets_another}
use Rattle.chain_rules.proofs.spans.Spans.meet_another.Goals as goal

pub returns : goal.returns
returns c =
    let seen = ap (λ (s : Span). count_by (overlap s) c.args.self.now) c.at.ensures.value in
    record {
      value = (
        λ yes. let some = ltb-true 1 c.meeting.result yes in another_meets c.args.self.now c.args.number c.requires.number (omega (arith, c.meeting.ensures.value, seen)),
        λ found. let some = meets_another c.args.self.now c.args.number c.requires.number c.requires.some found in lt-ltb 1 c.meeting.result (omega (arith, c.meeting.ensures.value, seen)),
      );
    }
