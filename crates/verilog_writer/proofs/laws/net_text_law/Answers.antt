use Rattle.verilog_writer.proofs.Names.{bit_law}
use Rattle.verilog_writer.proofs.Nets.{nets_law}
use Rattle.verilog_writer.proofs.laws.net_text_law.Goals as goal

pub returns-clause-nets : goal.returns-clause-nets
returns-clause-nets c = nets_law

pub returns-clause-bit : goal.returns-clause-bit
returns-clause-bit c = bit_law
