use Rattle.std.proofs.Common.{length}
use Rattle.verilog_checks.proofs.few.+has_pin_twice.Given as goal

abbrev pub decreases-has_pin_twice : goal.decreases-has_pin_twice
decreases-has_pin_twice l = length l.connections.now
