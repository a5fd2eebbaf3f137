use Rattle.std.proofs.Common.{◌∙◌, arith}
use Rattle.verilog_reader.proofs.LastBits.{bit_pushed, no_bits, all_bits}
use Rattle.verilog_reader.proofs.constant.bits_of.Goals as goal

pub loop-place-init : goal.loop-place-init
loop-place-init c = record { within = omega arith; pushed = c.new-bits.ensures.items ∙ no_bits c.args.size _ _ }

pub loop-place-preserved : goal.loop-place-preserved
loop-place-preserved c = record {
  within = omega arith;
  pushed = bit_pushed c.args.size c.loop-place.place c.args.last.ones c.args.last.unknown c.loop-place.bits.items c.push.new.self.items c.bit_at.result
      c.loop-place-test.true c.loop-place.invariant.within c.loop-place.invariant.pushed c.bit_at.ensures.value c.in_ok-push.ensures.items;
}

pub returns : goal.returns
returns c = record {
  value = c.of.ensures.value ∙ c.loop-place.invariant.pushed ∙ all_bits c.args.size c.loop-place.place c.args.last.ones c.args.last.unknown (omega arith);
}
