use Rattle.fail_map.proofs.Orders.{numbered_none, numbered_more, sorted_lines}
use Rattle.fail_map.proofs.numbered.lines_of.Goals as goal

pub loop-number-init : goal.loop-number-init
loop-number-init c = rw c.in_ok-lines.ensures.items (numbered_none c.args.log.now)

pub loop-number-preserved : goal.loop-number-preserved
loop-number-preserved c = numbered_more c.args.log.now c.loop-number.lines.items c.push.new.self.items c.loop-number.number c.loop-number.invariant c.loop-number-test.true c.in_ok-push.ensures.items

pub returns : goal.returns
returns c = record {
  value = sorted_lines c.args.log.now c.loop-number.lines.items c.sort_unstable.new.self.items c.loop-number.number c.loop-number-test.false c.loop-number.auto.number-end c.loop-number.invariant
      c.sort_unstable.ensures.permutation c.sort_unstable.ensures.sorted;
}
