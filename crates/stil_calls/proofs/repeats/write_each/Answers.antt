use Rattle.stil_calls.specs.Repeats.{repeats_from, repeats_of, written}
use Rattle.stil_calls.proofs.Plain.{written_step}
use Rattle.stil_calls.proofs.repeats.write_each.Goals as goal

pub loop-repeat-preserved : goal.loop-repeat-preserved
loop-repeat-preserved c =
    written_step c.loop-repeat.text.items c.put.new.text.items c.extend_from_slice-in-Some.new.self.items c.plain-in-Some.result.now c.in-Some.repeat
    (repeats_from c.loop-repeat.repeats.escape c.loop-repeat.repeats.bytes.now) (repeats_from c.next.new.self.escape c.next.new.self.bytes.now) (repeats_from c.plain-in-Some.new.self.escape c.plain-in-Some.new.self.bytes.now)
    (written (repeats_of c.args.bytes.now)) c.loop-repeat.invariant c.in-Some.ensures.value c.plain-in-Some.ensures.value c.in_ok-put.ensures.value c.in_ok-extend_from_slice-2.ensures.items
