use Rattle.stil_syntax.proofs.Stretches.{drop_spans}
use Rattle.stil_syntax.proofs.stretch.Stretch.behind.Goals as goal

pub returns : goal.returns
returns c = record { value = rw (← c.self.view_is, c.split_at.ensures.back) (drop_spans c.self.inside.text.now c.args.count c.self.inside.spans.now) }
