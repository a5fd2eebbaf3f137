use Rattle.traced_paths.proofs.LacksLines.{lacks_none, lacks_at, lacks_all}
use Rattle.traced_paths.proofs.ports.least_lacking.Goals as goal

pub loop-ask-init : goal.loop-ask-init
loop-ask-init c = lacks_none c.args.ports.now

pub loop-ask-preserved : goal.loop-ask-preserved
loop-ask-preserved c =
    rw (c.lesser-least.ensures.value, c.line_if.ensures.value)
    (lacks_at c.args.ports.now c.args.asks.now c.loop-ask.ask-index _ c.lacks.result c.loop-ask.least c.lacks.ensures.exact c.loop-ask-test.true c.loop-ask.invariant)

pub returns : goal.returns
returns c = record { value = lacks_all c.args.ports.now c.args.asks.now c.loop-ask.ask-index c.loop-ask.least c.loop-ask-test.false c.loop-ask.invariant }
