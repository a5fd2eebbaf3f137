use Rattle.lef_pins.proofs.OuterLaws.{outer_law, open_law}
use Rattle.lef_pins.proofs.Trees.{lef_law, one_lef_law, only_lef_law}
use Rattle.lef_pins.proofs.laws.lef_law.Goals as goal

pub returns-clause-one : goal.returns-clause-one
returns-clause-one c = one_lef_law

pub returns-clause-lef : goal.returns-clause-lef
returns-clause-lef c = lef_law

pub returns-clause-only : goal.returns-clause-only
returns-clause-only c = only_lef_law

pub returns-clause-outer : goal.returns-clause-outer
returns-clause-outer c = outer_law

pub returns-clause-rest : goal.returns-clause-rest
returns-clause-rest c = open_law
