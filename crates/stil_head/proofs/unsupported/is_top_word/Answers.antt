use Rattle.std.proofs.Common.{sym}
use Rattle.stil_head.proofs.TopSplit.{top_split}
use Rattle.stil_head.proofs.unsupported.is_top_word.Goals as goal

pub returns : goal.returns
returns c = record {
  value = rw (c.either.ensures.value, c.is_first_word.ensures.value, c.is_further_word.ensures.value) (sym (top_split c.args.word.now));
}
