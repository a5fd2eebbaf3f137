use Rattle.std.proofs.Common.{sym, ◌∙◌}
use Rattle.std.proofs.lemmas.Result.{IfOk-weaker}
use Rattle.token_forms.specs.Tokens.{tokens_left}
use Rattle.verilog_syntax.proofs.ChunkLemmas.{chunk_same}
use Rattle.verilog_syntax.proofs.source.take_statement.Goals as goal

pub returns-clause-value : goal.returns-clause-value
returns-clause-value c = IfOk-weaker c.statement.result _ _ (λ ended is. sym (chunk_same _ (tokens_left c.args.source.now)) ∙ is) c.statement.ensures.value
