use Rattle.std.proofs.Common.{sym}
use Rattle.scan_words.proofs.PartsLoop.{goes_on, stops, ends}
use Rattle.scan_words.specs.Table.{texts}
use Rattle.scan_words.proofs.form.have_parts.Goals as goal

pub returns-in-None : goal.returns-in-None
returns-in-None c = sym (stops (texts c.args.table.now) c.args.takes_further c.loop-word.waits c.args.words.now c.loop-word.word-index c.word-item.result c.as_str.result.now
    c.loop-word-test.true c.word-item.is c.as_str.ensures.value _ c.in-None.ensures c.loop-word.invariant)

pub loop-word-preserved : goal.loop-word-preserved
loop-word-preserved c = goes_on (texts c.args.table.now) c.args.takes_further c.loop-word.waits c.args.words.now c.loop-word.word-index c.word-item.result c.as_str.result.now
    c.loop-word-test.true c.word-item.is c.as_str.ensures.value c.in-Some.next _ c.in-Some.ensures c.loop-word.invariant

pub returns : goal.returns
returns c = sym (ends (texts c.args.table.now) c.args.takes_further c.loop-word.waits c.args.words.now c.loop-word.word-index _ c.loop-word-test.false c.loop-word.invariant)
