use Rattle.verilog_writer.proofs.WrittenLaw.{written_law}
use Rattle.verilog_writer.proofs.laws.written_law.Goals as goal

pub returns : goal.returns
returns c = record { written = written_law }
