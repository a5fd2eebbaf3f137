use Rattle.std.proofs.Common.{length}
use Rattle.verify_command.proofs.head_notes.head_note.Given as goal

abbrev pub decreases-loop-token : goal.decreases-loop-token
decreases-loop-token l = length l.old
