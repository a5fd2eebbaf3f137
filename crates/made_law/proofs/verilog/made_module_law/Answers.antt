use Rattle.made_law.proofs.verilog.Modules.{module_is}
use Rattle.made_law.proofs.verilog.made_module_law.Goals as goal

pub returns : goal.returns
returns c = record { law = module_is }
