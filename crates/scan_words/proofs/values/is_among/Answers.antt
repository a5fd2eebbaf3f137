use Rattle.std.proofs.Common.{sym, ◌∙◌}
use Rattle.scan_words.proofs.Rules.{any_map}
use Rattle.scan_words.proofs.values.is_among.Goals as goal

pub returns : goal.returns
returns c = c.contains.ensures.value ∙ sym (any_map c.args.value.now c.args.values.now)
