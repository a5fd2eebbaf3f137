use Rattle.std.proofs.Common.{length, ap, arith}
use Rattle.chain_trace.proofs.Marks.{item_more, bits_all}
use Rattle.chain_trace.proofs.bits.bits_of.Goals as goal

pub loop-step-preserved : goal.loop-step-preserved
loop-step-preserved c =
    item_more c.args.netlist.now c.args.table.now c.new-all.result c.loop-step.all c.put_step.new.self c.args.path.now.steps c.as_slice-step-items.result.now c.loop-step.step-index _
    c.as_slice-step-items.ensures.value c.loop-step-test.true c.loop-step.invariant c.in_ok-put_step.ensures.on

pub returns : goal.returns
returns c =
    let len = ap length c.as_slice-step-items.ensures.value in
    record {
      value = bits_all c.args.netlist.now c.args.table.now c.new-all.result c.loop-step.all c.args.path.now.steps c.loop-step.step-index
          c.new-all.ensures.bits c.new-all.ensures.parity c.new-all.ensures.out_parity (omega arith) c.loop-step.invariant;
    }
