use Rattle.std.proofs.Common.{subst, sym}
use Rattle.token_forms.specs.Tokens.{Tokenized}
use Rattle.verilog_syntax.specs.VerilogSplit.{IsTokenSplit}
use Rattle.verilog_syntax.proofs.VerilogSplitLaw.{verilog_split}
use Rattle.verilog_syntax.proofs.lexer.verilog_lexer.Goals as goal

pub returns-clause-split : goal.returns-clause-split
returns-clause-split c = subst (λ (t : Tokenized). IsTokenSplit c.args.text.now t.spans) (sym c.of.ensures.value) (verilog_split c.args.text.now)
