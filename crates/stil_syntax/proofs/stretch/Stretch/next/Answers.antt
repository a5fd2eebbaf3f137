use Rattle.stil_syntax.proofs.Stretches.{spans-rest}
use Rattle.stil_syntax.proofs.stretch.Stretch.next.Goals as goal

pub invariant_of-self : goal.invariant_of-self
invariant_of-self c = spans-rest c.self.inside.text.now c.self.inside.spans.now c.in_ok-span.span.now c.in_ok-span.rest.now c.in_ok-span.ensures.cases.0 c.self.invariant
