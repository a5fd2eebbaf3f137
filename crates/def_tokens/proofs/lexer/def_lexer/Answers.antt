use Rattle.std.proofs.Common.{subst, sym}
use Rattle.token_forms.specs.Tokens.{Tokenized}
use Rattle.def_tokens.specs.DefSplit.{IsTokenSplit}
use Rattle.def_tokens.proofs.DefSplitLaw.{def_split}
use Rattle.def_tokens.proofs.lexer.def_lexer.Goals as goal

pub returns-clause-split : goal.returns-clause-split
returns-clause-split c = subst (λ (t : Tokenized). IsTokenSplit c.args.text.now t.spans) (sym c.of.ensures.value) (def_split c.args.text.now)
