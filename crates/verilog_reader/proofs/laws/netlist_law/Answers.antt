use Rattle.verilog_reader.proofs.OneNetlist.{one_netlist, one_declared}
use Rattle.verilog_reader.proofs.laws.netlist_law.Goals as goal

pub returns : goal.returns
returns c = record { one = one_netlist; declared = one_declared }
