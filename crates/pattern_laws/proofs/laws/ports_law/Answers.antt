use Rattle.pattern_laws.proofs.Ports.{ports_law, same_ports_law}
use Rattle.pattern_laws.proofs.laws.ports_law.Goals as goal

pub returns : goal.returns
returns c = record { law = ports_law; same = same_ports_law }
