use Rattle.std.proofs.Common.{sym, ◌∙◌, Ok}
use Rattle.def_syntax.proofs.ExactDesigns.{exact_design, at_once_is}
use Rattle.def_syntax.proofs.reading.read_design_text.Goals as goal

pub returns-in-Some-clause-exactly : goal.returns-in-Some-clause-exactly
returns-in-Some-clause-exactly c = exact_design c.args.text.now (Ok c.in-Some.design) (at_once_is c.args.text.now c.in-Some.design (sym c.in_ok-design.ensures.value ∙ c.in-Some.is))

pub returns-in-Some-clause-value : goal.returns-in-Some-clause-value
returns-in-Some-clause-value c = at_once_is c.args.text.now c.in-Some.design (sym c.in_ok-design.ensures.value ∙ c.in-Some.is)

pub returns-in-None-clause-exactly : goal.returns-in-None-clause-exactly
returns-in-None-clause-exactly c = exact_design c.args.text.now c.read_outlined.result c.read_outlined.ensures.value
