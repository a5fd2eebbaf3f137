use Rattle.std.proofs.Common.{subst, sym, ◌∙◌}
use Rattle.def_tokens.specs.DefSplit.{IsTokenSplit}
use Rattle.def_tokens.proofs.DefSplitLaw.{def_split}
use Rattle.def_tokens.proofs.lexer.def_tokens.Goals as goal

pub returns-clause-split : goal.returns-clause-split
returns-clause-split c =
    subst (IsTokenSplit c.args.text.now) (sym (c.shrink_to_fit.ensures.items ∙ c.in_ok-spans.ensures.value)) (def_split c.args.text.now)
