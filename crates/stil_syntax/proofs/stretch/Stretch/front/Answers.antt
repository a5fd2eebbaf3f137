use Rattle.stil_syntax.proofs.Stretches.{take_spans}
use Rattle.stil_syntax.proofs.stretch.Stretch.front.Goals as goal

pub returns : goal.returns
returns c = record { value = rw (← c.self.view_is) (take_spans c.self.inside.text.now c.args.count c.self.inside.spans.now) }
