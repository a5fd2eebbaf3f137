use Rattle.made_law.proofs.verilog.Denoting.{denotes, no_verilog_fault}
use Rattle.made_law.proofs.verilog.made_verilog_law.Goals as goal

pub returns : goal.returns
returns c = record { netlist = denotes; no_fault = no_verilog_fault }
