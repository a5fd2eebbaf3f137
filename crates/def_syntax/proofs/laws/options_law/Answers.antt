use Rattle.def_syntax.proofs.OptionWords.{component_law, pin_law, net_options_law}
use Rattle.def_syntax.proofs.laws.options_law.Goals as goal

pub returns-clause-components : goal.returns-clause-components
returns-clause-components c = component_law

pub returns-clause-pins : goal.returns-clause-pins
returns-clause-pins c = pin_law

pub returns-clause-nets : goal.returns-clause-nets
returns-clause-nets c = net_options_law
