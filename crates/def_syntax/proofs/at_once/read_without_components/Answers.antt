use Rattle.std.proofs.Common.{sym, ◌∙◌}
use Rattle.std.proofs.lemmas.Option.{same_Some}
use Rattle.def_syntax.proofs.ExactDesigns.{without_is}
use Rattle.def_syntax.proofs.at_once.read_without_components.Goals as goal

pub returns-in-Some : goal.returns-in-Some
returns-in-Some c = record { value = λ t h. same_Some _ _ (sym (sym c.in_ok-design.ensures.value ∙ c.in-Some.is) ∙ without_is c.args.text.now t h) }
