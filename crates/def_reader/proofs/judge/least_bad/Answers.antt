use Rattle.def_reader.proofs.LeastLines.{fails_more, fails_none, fails_all}
use Rattle.def_reader.proofs.judge.least_bad.Goals as goal

pub loop-row-init : goal.loop-row-init
loop-row-init g c = fails_none g.T.Judged.bad

pub loop-row-preserved : goal.loop-row-preserved
loop-row-preserved g c =
    rw (c.lesser-least.ensures.value, c.line_if.ensures.value, c.is_bad.ensures.value)
    (fails_more g.T.Judged.bad c.args.rows.now c.loop-row.row-index c.row-item.result c.loop-row.least c.loop-row-test.true c.row-item.is c.loop-row.invariant)

pub returns : goal.returns
returns g c = record { value = fails_all g.T.Judged.bad c.args.rows.now c.loop-row.row-index c.loop-row.least c.loop-row-test.false c.loop-row.invariant }
