use Rattle.stil_stream.proofs.Held.{held-off}
use Rattle.stil_stream.proofs.stream.StilStream.hand_out.Goals as goal

pub invariant_of-self : goal.invariant_of-self
invariant_of-self c =
    let s = c.self.inside in
    let within = rw (← c.self.view_is) at c.requires.within in
    held-off s.buffer.items s.at s.hungry s.in_head s.point s.walk s.done s.scan c.self.invariant c.args.len c.args.point c.begin_at-self-inside.result within c.requires.early c.begin_at-self-inside.ensures.value
