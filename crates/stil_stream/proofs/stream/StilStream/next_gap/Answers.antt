use Rattle.std.proofs.Common.{ap}
use Rattle.stil_calls.specs.Parts.{judge_of}
use Rattle.stil_stream.specs.Streams.{Streaming}
use Rattle.stil_stream.proofs.Answering.{gap-out, slice-is}
use Rattle.stil_stream.proofs.stream.StilStream.next_gap.Goals as goal

pub returns : goal.returns
returns c =
    let s = c.self.inside in
    let old = c.args.self.now in
    let is = slice-is old s.buffer.items c.deref.result.now c.in_ok-text.text s.at c.args.len (ap (λ (o : Streaming). o.kept) c.self.view_is) c.deref.ensures.value c.in_ok-text.ensures.value in
    record {
      answers = λ head. (gap-out head old c.hand_out.new.self c.requires.sound c.requires.behind_head c.args.len c.args.point c.in_ok-text.text c.hand_out.ensures.value is (c.requires.is.takes (judge_of head)), tt);
    }
