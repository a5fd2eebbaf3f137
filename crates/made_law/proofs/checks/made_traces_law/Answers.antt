use Rattle.made_law.proofs.checks.Traces.{asked_are, traced_right, bits_right}
use Rattle.made_law.proofs.checks.made_traces_law.Goals as goal

pub returns : goal.returns
returns c = record { asked = asked_are; traced = traced_right; bits = bits_right }
