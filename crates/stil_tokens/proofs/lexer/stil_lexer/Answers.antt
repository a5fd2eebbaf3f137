use Rattle.std.proofs.Common.{subst, sym}
use Rattle.token_forms.specs.Tokens.{Tokenized}
use Rattle.stil_tokens.specs.StilSplit.{IsTokenSplit}
use Rattle.stil_tokens.proofs.StilSplitLaw.{stil_split}
use Rattle.stil_tokens.proofs.lexer.stil_lexer.Goals as goal

pub returns-clause-split : goal.returns-clause-split
returns-clause-split c = subst (λ (t : Tokenized). IsTokenSplit c.args.text.now t.spans) (sym c.of.ensures.value) (stil_split c.args.text.now)
