use Rattle.std.proofs.Common.{subst, sym, ◌∙◌}
use Rattle.stil_tokens.specs.StilSplit.{IsTokenSplit}
use Rattle.stil_tokens.proofs.StilSplitLaw.{stil_split}
use Rattle.stil_tokens.proofs.lexer.stil_tokens.Goals as goal

pub returns-clause-split : goal.returns-clause-split
returns-clause-split c =
    subst (IsTokenSplit c.args.bytes.now) (sym (c.shrink_to_fit.ensures.items ∙ c.in_ok-spans.ensures.value)) (stil_split c.args.bytes.now)
