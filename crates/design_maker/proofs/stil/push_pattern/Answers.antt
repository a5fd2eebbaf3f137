use Rattle.std.proofs.Common.{append_assoc}
use Rattle.design_maker.specs.MadeStil.{pattern_text}
use Rattle.design_maker.proofs.stil.push_pattern.Goals as goal

pub returns : goal.returns
unfolding pattern_text
returns c = record { value = rw (c.in_ok-push_text-2.ensures.value, c.in_ok-push_pieces.ensures.value, c.in_ok-push_first_call.ensures.value, c.in_ok-push_text.ensures.value) (simp append_assoc) }
