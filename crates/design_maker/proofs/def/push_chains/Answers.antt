use Rattle.std.proofs.Common.{append_assoc}
use Rattle.design_maker.specs.MadeDef.{chains_text}
use Rattle.design_maker.proofs.def.push_chains.Goals as goal

pub returns : goal.returns
unfolding chains_text
returns c = record { value = rw (c.in_ok-push_text-2.ensures.value, c.in_ok-push_pieces.ensures.value, c.in_ok-push_text.ensures.value) (simp append_assoc) }
