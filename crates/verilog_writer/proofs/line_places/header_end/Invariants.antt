use Rattle.std.proofs.Common.{◌≡◌, length}
use Rattle.token_forms.specs.Tokens.{tokens_left}
use Rattle.verilog_syntax.specs.Laws.{tokens_in}
use Rattle.verilog_writer.specs.Inserted.{header_end}
use Rattle.verilog_writer.proofs.line_places.header_end.Given as goal

abbrev pub invariant-loop-token : goal.invariant-loop-token
invariant-loop-token l = record {
  source : l.tokens.source ≡ l.text;
  same : header_end (tokens_left l.tokens) ≡ header_end (tokens_in l.text);
}

abbrev pub decreases-loop-token : goal.decreases-loop-token
decreases-loop-token l = length l.tokens.spans
