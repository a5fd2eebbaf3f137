use Rattle.play_command.proofs.Sayings.{progress}
use Rattle.play_command.proofs.laws.progress_law.Goals as goal

pub returns : goal.returns
returns c = record { law = progress }
