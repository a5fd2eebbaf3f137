use Rattle.std.proofs.Common.{option_copied, arith}
use Rattle.stil_calls.proofs.Tables.{not_beyond}
use Rattle.stil_calls.proofs.scan.is_beyond_of.Goals as goal

pub returns-else-from-most : goal.returns-else-from-most
returns-else-from-most c = record {
  value = not_beyond c.from.result c.args.chain.now.length c.args.most (option_copied c.args.given) c.from.ensures (omega arith) c.requires.most c.if-from-most.false;
}
