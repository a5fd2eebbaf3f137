use Rattle.std.proofs.Common.{length}
use Rattle.verify_command.proofs.pair_notes.tokens_note.Given as goal

abbrev pub decreases-loop-token : goal.decreases-loop-token
decreases-loop-token l = length l.a.spans
