use Rattle.stil_stream.proofs.Held.{held-fresh}
use Rattle.stil_stream.proofs.stream.StilStream.new.Goals as goal

pub invariant_of-result : goal.invariant_of-result
invariant_of-result c = held-fresh c.new.result.items c.walk_at.result c.begin_at.result c.new.ensures.items c.walk_at.ensures c.begin_at.ensures.value
