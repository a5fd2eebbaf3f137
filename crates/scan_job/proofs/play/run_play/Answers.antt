use Rattle.scan_job.specs.Requests.{Play}
use Rattle.scan_job.proofs.Phases.{no_memory}
use Rattle.scan_job.proofs.play.run_play.Goals as goal

pub play_named-requires-clause-allowed : goal.play_named-requires-clause-allowed
play_named-requires-clause-allowed g c = c.requires.allowed (Play c.in-Ok.play) c.in-Ok.ensures.value

pub returns-in_default : goal.returns-in_default
returns-in_default g c = record { ended = no_memory (Play c.requires.made.0) c.args.order.now (g.D.Desk.state c.args.desk.now) c.requires.made.1 }

pub returns-in_default-names : goal.returns-in_default-names
returns-in_default-names g c = record { ended = no_memory (Play c.requires.made.0) c.args.order.now (g.D.Desk.state c.args.desk.now) c.requires.made.1 }

pub returns-in_default-first_names : goal.returns-in_default-first_names
returns-in_default-first_names g c = record { ended = no_memory (Play c.requires.made.0) c.args.order.now (g.D.Desk.state c.args.desk.now) c.requires.made.1 }
