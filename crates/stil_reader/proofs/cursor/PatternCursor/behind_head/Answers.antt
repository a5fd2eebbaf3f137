use Rattle.stil_reader.proofs.Heads.{head_within}
use Rattle.stil_reader.proofs.cursor.PatternCursor.behind_head.Goals as goal

pub split_at-requires : goal.split_at-requires
split_at-requires c = head_within c.args.bytes.now c.args.head.now c.requires.denoted
