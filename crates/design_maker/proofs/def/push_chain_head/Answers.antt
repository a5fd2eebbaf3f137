use Rattle.design_maker.specs.MadeDef.{chain_head}
use Rattle.design_maker.proofs.def.push_chain_head.Goals as goal

pub returns : goal.returns
unfolding chain_head
returns c = record { value = cc (c.in_ok-write.ensures.bytes, c.max_bits-bits.ensures.value) }
