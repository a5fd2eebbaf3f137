use Rattle.std.proofs.Common.{append_assoc}
use Rattle.design_maker.specs.MadeDef.{components_text}
use Rattle.design_maker.proofs.def.push_components.Goals as goal

pub returns : goal.returns
unfolding components_text
returns c = record { value = rw (c.in_ok-push_text.ensures.value, c.in_ok-push_placed.ensures.value, c.in_ok-write.ensures.bytes) (simp append_assoc) }
