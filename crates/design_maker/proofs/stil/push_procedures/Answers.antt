use Rattle.design_maker.specs.MadeStil.{procedures_text}
use Rattle.design_maker.proofs.PieceLaws.{three_parts}
use Rattle.design_maker.proofs.stil.push_procedures.Goals as goal

pub returns : goal.returns
unfolding procedures_text
returns c = record { value = three_parts _ _ _ _ _ _ _ c.in_ok-push_text.ensures.value c.in_ok-push_pieces.ensures.value c.in_ok-push_text-2.ensures.value }
