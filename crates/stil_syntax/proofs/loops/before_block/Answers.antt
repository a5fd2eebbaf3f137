use Rattle.std.proofs.Common.{◌∙◌}
use Rattle.stil_syntax.proofs.Stretches.{before-take}
use Rattle.stil_syntax.proofs.loops.before_block.Goals as goal

pub returns : goal.returns
returns c = record { value = c.front.ensures.value ∙ rw (c.before_len.ensures.value) (before-take c.args.tokens.now) }
