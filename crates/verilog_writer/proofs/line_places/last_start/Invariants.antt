use Rattle.std.proofs.Common.{◌≡◌, length}
use Rattle.token_forms.specs.Tokens.{tokens_left}
use Rattle.verilog_syntax.specs.Laws.{tokens_in}
use Rattle.verilog_writer.proofs.LastStart.{last_or}
use Rattle.verilog_writer.proofs.line_places.last_start.Given as goal

abbrev pub invariant-loop-token : goal.invariant-loop-token
invariant-loop-token l = record {
  source : l.tokens.source ≡ l.text;
  same : last_or l.last (tokens_left l.tokens) ≡ last_or 0 (tokens_in l.text);
}

abbrev pub decreases-loop-token : goal.decreases-loop-token
decreases-loop-token l = length l.tokens.spans
