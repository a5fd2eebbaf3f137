use Rattle.verilog_syntax.proofs.VerilogUnique.{only_law}
use Rattle.verilog_syntax.proofs.token_laws.split_law.Goals as goal

pub returns : goal.returns
returns c = record { only = only_law }
