use Rattle.pattern_laws.proofs.Loops.{loop_law, rising_law, still_loop_law}
use Rattle.pattern_laws.proofs.Shifts.{shift_law}
use Rattle.pattern_laws.proofs.laws.loop_law.Goals as goal

pub returns : goal.returns
returns c = record { shift = shift_law; rising = rising_law; law = loop_law; still = still_loop_law }
