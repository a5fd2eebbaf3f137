use Rattle.std.proofs.Common.{◌∙◌}
use Rattle.net_edit.proofs.applied.put_at.Goals as goal

pub returns-in-Some : goal.returns-in-Some
returns-in-Some c = record { value = λ at has. c.in-Some.ensures.value ∙ has (c.args.instance, c.args.pin) }

pub returns-in-None : goal.returns-in-None
returns-in-None c = record { value = λ at has. c.in-None.ensures.value ∙ has (c.args.instance, c.args.pin) }
