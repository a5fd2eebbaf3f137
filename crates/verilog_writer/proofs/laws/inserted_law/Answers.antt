use Rattle.verilog_writer.proofs.InsertedLaw.{inserted_law}
use Rattle.verilog_writer.proofs.laws.inserted_law.Goals as goal

pub returns : goal.returns
returns c = record { inserted = inserted_law }
