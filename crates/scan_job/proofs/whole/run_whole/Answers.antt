use Rattle.std.proofs.Common.{sym, subst}
use Rattle.scan_job.specs.Requests.{IsAsked}
use Rattle.scan_job.proofs.Asked.{sound_of}
use Rattle.scan_job.proofs.whole.run_whole.Goals as goal

pub run_named-requires-clause-sound : goal.run_named-requires-clause-sound
run_named-requires-clause-sound g c = sound_of (g.C.Command.request c.in-Ok.command) (subst IsAsked (sym c.in-Ok.ensures.value) c.requires.asked)

pub run_named-requires-clause-allowed : goal.run_named-requires-clause-allowed
run_named-requires-clause-allowed g c = c.requires.allowed (g.C.Command.request c.in-Ok.command) c.in-Ok.ensures.value
