use Rattle.std.proofs.Common.{length}
use Rattle.verilog_checks.proofs.few.+has_pin.Given as goal

abbrev pub decreases-has_pin : goal.decreases-has_pin
decreases-has_pin l = length l.connections.now
