use Rattle.std.proofs.Common.{refl}
use Rattle.chain_picture.proofs.sheet.sheet_by.Goals as goal

pub returns-clause-value : goal.returns-clause-value
returns-clause-value c =
    rw (c.width_of.ensures.value, c.height_of.ensures.value, c.stroke_of.ensures.value, c.mark_of.ensures.value, c.letter_of.ensures.value, c.microns_of.ensures.value) refl
