use Rattle.lef_pins.proofs.FormLaws.{size_law, origin_law, rect_law}
use Rattle.lef_pins.proofs.laws.form_law.Goals as goal

pub returns-clause-size : goal.returns-clause-size
returns-clause-size c = size_law

pub returns-clause-origin : goal.returns-clause-origin
returns-clause-origin c = origin_law

pub returns-clause-rect : goal.returns-clause-rect
returns-clause-rect c = rect_law
