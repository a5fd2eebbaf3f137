use Rattle.std.proofs.Common.{refl}
use Rattle.scan_job.proofs.patterns.ready_of.Goals as goal

pub returns : goal.returns
returns c = record { ready = record { verilog = refl; def = refl; figures = refl; plan = c.in-Some.is; input = refl } }
