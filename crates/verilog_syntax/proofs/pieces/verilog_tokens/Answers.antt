use Rattle.std.proofs.Common.{subst, sym}
use Rattle.std.proofs.lemmas.Result.{IfOk-weaker}
use Rattle.verilog_syntax.specs.VerilogSplit.{IsTokenSplit}
use Rattle.verilog_syntax.proofs.VerilogSplitLaw.{verilog_split}
use Rattle.verilog_syntax.proofs.pieces.verilog_tokens.Goals as goal

pub returns-clause-split : goal.returns-clause-split
returns-clause-split c =
    IfOk-weaker c.token_spans.result _ _ (λ spans is. subst (IsTokenSplit c.args.bytes.now) (sym is) (verilog_split c.args.bytes.now)) c.token_spans.ensures.value
