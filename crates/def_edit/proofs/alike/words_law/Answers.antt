use Rattle.def_edit.proofs.alike.SameGrammar.{units_by, component_by, chain_by}
use Rattle.def_edit.proofs.alike.SameNets.{same_net}
use Rattle.def_edit.proofs.alike.SamePins.{same_pin}
use Rattle.def_edit.proofs.alike.words_law.Goals as goal

pub returns : goal.returns
returns c = record { same = record { units = units_by; components = component_by; chains = chain_by; pins = same_pin; nets = same_net } }
