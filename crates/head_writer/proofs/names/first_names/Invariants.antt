use Rattle.std.proofs.Common.{take}
use Rattle.head_writer.specs.Noted.{AreFirst}
use Rattle.head_writer.proofs.names.first_names.Given as goal

abbrev pub invariant-loop-one : goal.invariant-loop-one
invariant-loop-one l = AreFirst (take l.one-index l.named) l.names
