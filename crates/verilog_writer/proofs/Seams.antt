-- Verilog's tokens at the places where a writer puts new texts.
use Rattle.std.proofs.Common.{◌≡◌, ℕ, List}
use Rattle.verilog_syntax.specs.VerilogTokens.{is_word, piece_at}
use Rattle.verilog_syntax.specs.Seams.{is_mark, Starts, IsReady}
use Rattle.verilog_syntax.proofs.VerilogLaws.{starts_more}
use Rattle.verilog_syntax.proofs.VerilogMarks.{marks, mark_stop, blank_stop}
use Rattle.verilog_syntax.proofs.VerilogSeams.{Hard, verilog_seams}
use Rattle.splice.proofs.Seams.{Seams}
use Rattle.splice.proofs.Seams as seams

abbrev pub verilog : Seams
verilog = record {
  piece_at = piece_at;
  Starts = Starts;
  Hard = Hard;
  form = verilog_seams;
  more = starts_more;
  marks = is_mark;
  goes_on = is_word;
  mark = λ m is. (marks m is).mark;
  mark_stops = λ m is. mark_stop m (marks m is);
  blank_stops = blank_stop;
}

pub ready : (new : List ℕ) → IsReady new → seams.IsReady verilog new
ready new r = record { starts = r.starts; goes = r.goes }
