use Rattle.std.proofs.Common.{◌≡◌, drop}
use Rattle.rewire_command.specs.Names.{now_of, have_all}
use Rattle.rewire_command.proofs.names.have_all.Given as goal

abbrev pub invariant-loop-other : goal.invariant-loop-other
invariant-loop-other l = have_all (now_of l.names) (now_of (drop l.other-index l.others)) ≡ have_all (now_of l.names) (now_of l.others)
