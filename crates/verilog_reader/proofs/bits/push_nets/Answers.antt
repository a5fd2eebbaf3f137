use Rattle.verilog_reader.proofs.NumberedLists.{bit_more, bit_end}
use Rattle.verilog_reader.proofs.bits.push_nets.Goals as goal

pub loop-number-preserved : goal.loop-number-preserved
loop-number-preserved c = bit_more c.loop-number.number c.args.end c.loop-number.bits.items _ _ c.loop-number-test.true c.in_ok-push.ensures.items c.loop-number.invariant

pub returns : goal.returns
returns c = record { ok = bit_end c.loop-number.number c.args.end c.loop-number.bits.items _ c.loop-number-test.false c.loop-number.invariant }
