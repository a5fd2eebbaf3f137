use Rattle.std.proofs.Common.{drop, ap, ◌∙◌}
use Rattle.stil_stream.proofs.Held.{held-fed}
use Rattle.stil_stream.proofs.stream.StilStream.feed.Goals as goal

pub invariant_of-self-2 : goal.invariant_of-self-2
invariant_of-self-2 c =
    let s = c.self.inside in
    let hungry = rw (← c.self.view_is) at c.requires.hungry in
    held-fed s.buffer.items s.at s.hungry s.in_head s.point s.walk s.done s.scan c.self.invariant c.drop_front.new.buffer.items c.args.piece.now hungry c.requires.small
    (c.drop_front.ensures ∙ ap (drop s.at) c.in_ok-extend_from_slice.ensures.items)
