use Rattle.base_types.proofs.LineLemmas.{line_at-from}
use Rattle.base_types.proofs.lines.line_from.Goals as goal

pub returns : goal.returns
returns c = rw (c.line_feeds.ensures.value, c.requires.known) (line_at-from c.args.text.now c.args.from c.args.at c.if-at-from.false)
