use Rattle.std.proofs.Common.{ℕ, List, [], sym, ap, ◌∙◌}
use Rattle.base_types.specs.declared.span.Span.{Span}
use Rattle.token_forms.specs.Tokens.{tokens_of}
use Rattle.verilog_syntax.specs.Laws.{tokens_in}
use Rattle.verilog_writer.proofs.LastStart.{last_or, last_is}
use Rattle.verilog_writer.proofs.line_places.last_start.Goals as goal

pub returns : goal.returns
returns c = record {
  value = sym (ap (λ (ss : List Span). last_or c.loop-token.last (tokens_of c.loop-token.tokens.source ss)) c.in_default.ensures.value.0)
      ∙ c.loop-token.invariant.same ∙ sym (last_is (tokens_in c.args.text.now));
}
