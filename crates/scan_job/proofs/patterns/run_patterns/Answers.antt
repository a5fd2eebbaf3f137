use Rattle.scan_job.specs.Requests.{ReorderPatterns}
use Rattle.scan_job.proofs.Phases.{no_memory}
use Rattle.scan_job.proofs.patterns.run_patterns.Goals as goal

pub patterns_named-requires-clause-allowed : goal.patterns_named-requires-clause-allowed
patterns_named-requires-clause-allowed g c = c.requires.allowed (ReorderPatterns c.in-Ok.request) c.in-Ok.ensures.value

pub returns-in_default : goal.returns-in_default
returns-in_default g c = record { ended = no_memory (ReorderPatterns c.requires.made.0) c.args.order.now (g.D.Desk.state c.args.desk.now) c.requires.made.1 }

pub returns-in_default-names : goal.returns-in_default-names
returns-in_default-names g c = record { ended = no_memory (ReorderPatterns c.requires.made.0) c.args.order.now (g.D.Desk.state c.args.desk.now) c.requires.made.1 }

pub returns-in_default-first_names : goal.returns-in_default-first_names
returns-in_default-first_names g c = record { ended = no_memory (ReorderPatterns c.requires.made.0) c.args.order.now (g.D.Desk.state c.args.desk.now) c.requires.made.1 }

pub returns-in_default-last_names : goal.returns-in_default-last_names
returns-in_default-last_names g c = record { ended = no_memory (ReorderPatterns c.requires.made.0) c.args.order.now (g.D.Desk.state c.args.desk.now) c.requires.made.1 }

pub returns : goal.returns
returns g c = record { ended = record { request = ReorderPatterns c.in-Ok.request; is = c.in-Ok.ensures.value; ended = c.patterns_named.ensures.ended } }
