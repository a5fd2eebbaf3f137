use Rattle.stil_parts.proofs.Choices.{pattern-open-end}
use Rattle.stil_parts.proofs.choice.finish.Goals as goal

pub returns-in-Pattern : goal.returns-in-Pattern
returns-in-Pattern c = record { value = λ judge. rw c.stop.ensures (pattern-open-end judge c.args.point c.in-Pattern.line c.in-Pattern.is) }
