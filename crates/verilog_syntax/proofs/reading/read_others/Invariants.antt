use Rattle.std.proofs.Common.{◌≡◌}
use Rattle.token_forms.specs.Tokens.{tokens_left}
use Rattle.verilog_syntax.specs.Chunks.{is_closed_behind, read_behind, with_front}
use Rattle.verilog_syntax.proofs.ChunkReads.{turns_left}
use Rattle.verilog_syntax.proofs.reading.read_others.Given as goal

abbrev pub invariant-loop-ended : goal.invariant-loop-ended
invariant-loop-ended l = record {
  source : l.source.source ≡ l.fn.source.source;
  closed : is_closed_behind l.ended (tokens_left l.source) ≡ is_closed_behind l.fn.ended (tokens_left l.fn.source);
  same : with_front l.statements (read_behind l.fn.source.source l.ended (tokens_left l.source)) ≡ with_front l.fn.statements (read_behind l.fn.source.source l.fn.ended (tokens_left l.fn.source));
}

abbrev pub decreases-loop-ended : goal.decreases-loop-ended
decreases-loop-ended l = turns_left l.ended (tokens_left l.source)
