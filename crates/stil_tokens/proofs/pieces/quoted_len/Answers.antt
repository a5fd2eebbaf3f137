use Rattle.stil_tokens.proofs.StilPieces.{found_at, found_nowhere}
use Rattle.stil_tokens.proofs.pieces.quoted_len.Goals as goal

pub returns-in-Some-clause-value : goal.returns-in-Some-clause-value
returns-in-Some-clause-value c = found_at c.args.quote c.args.bytes.now c.in-Some.before c.in-Some.ensures.0.high c.in-Some.ensures.1 c.in-Some.ensures.0.before

pub returns-in-None-clause-value : goal.returns-in-None-clause-value
returns-in-None-clause-value c = found_nowhere c.args.quote c.args.bytes.now c.in-None.ensures
