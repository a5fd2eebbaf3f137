use Rattle.made_law.proofs.checks.Placing.{places_right}
use Rattle.made_law.proofs.checks.NetPins.{nets_right}
use Rattle.made_law.proofs.checks.made_places_law.Goals as goal

pub returns : goal.returns
returns c = record { nets = nets_right; places = places_right }
