use Rattle.std.proofs.Common.{arith}
use Rattle.stil_syntax.proofs.NameTexts.{pieces_then, pieces_else}
use Rattle.stil_syntax.proofs.name.is_joined.Goals as goal

pub returns-then-eq : goal.returns-then-eq
returns-then-eq c = record {
  value = pieces_then c.args.front.now c.args.back.now c.args.bytes.now _ _ c.eq.result c.eq-then-eq.result (omega arith) c.split_at.ensures.front c.split_at.ensures.back c.eq.ensures c.eq-then-eq.ensures c.if-eq.true;
}

pub returns-else-eq : goal.returns-else-eq
returns-else-eq c = record {
  value = pieces_else c.args.front.now c.args.back.now c.args.bytes.now _ c.eq.result (omega arith) c.split_at.ensures.front c.eq.ensures c.if-eq.false;
}
