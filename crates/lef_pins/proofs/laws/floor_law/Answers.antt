use Rattle.lef_pins.proofs.Floors.{floor_law}
use Rattle.lef_pins.proofs.laws.floor_law.Goals as goal

pub returns : goal.returns
returns c = record { floor = floor_law }
