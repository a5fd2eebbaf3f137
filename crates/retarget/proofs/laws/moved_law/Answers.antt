use Rattle.retarget.proofs.MovedCalls.{stands_for}
use Rattle.retarget.proofs.laws.moved_law.Goals as goal

pub returns : goal.returns
returns c = record { law = stands_for }
