use Rattle.scan_words.specs.declared.verb.Verb.TheVariants as verbs
use Rattle.scan_job.proofs.Asked.{made_as}
use Rattle.scan_job.proofs.command.run_order.Goals as goal

pub run_whole-requires-clause-made : goal.run_whole-requires-clause-made
run_whole-requires-clause-made g c = made_as verbs.Rewire c.args.order.now c.in-Rewire.is c.requires.asked

pub run_whole-requires-in-Trace-clause-made : goal.run_whole-requires-in-Trace-clause-made
run_whole-requires-in-Trace-clause-made g c = made_as verbs.Trace c.args.order.now c.in-Trace.is c.requires.asked

pub run_whole-requires-in-Check-clause-made : goal.run_whole-requires-in-Check-clause-made
run_whole-requires-in-Check-clause-made g c = made_as verbs.Check c.args.order.now c.in-Check.is c.requires.asked

pub run_design-requires-clause-made : goal.run_design-requires-clause-made
run_design-requires-clause-made g c = made_as verbs.Reorder c.args.order.now c.in-Reorder.is c.requires.asked

pub run_play-requires-clause-made : goal.run_play-requires-clause-made
run_play-requires-clause-made g c = made_as verbs.Play c.args.order.now c.in-Play.is c.requires.asked

pub run_whole-requires-in-Bound-clause-made : goal.run_whole-requires-in-Bound-clause-made
run_whole-requires-in-Bound-clause-made g c = made_as verbs.Bound c.args.order.now c.in-Bound.is c.requires.asked

pub run_whole-requires-in-Verify-clause-made : goal.run_whole-requires-in-Verify-clause-made
run_whole-requires-in-Verify-clause-made g c = made_as verbs.Verify c.args.order.now c.in-Verify.is c.requires.asked

pub run_whole-requires-in-Failmap-clause-made : goal.run_whole-requires-in-Failmap-clause-made
run_whole-requires-in-Failmap-clause-made g c = made_as verbs.Failmap c.args.order.now c.in-Failmap.is c.requires.asked

pub run_whole-requires-in-Bench-clause-made : goal.run_whole-requires-in-Bench-clause-made
run_whole-requires-in-Bench-clause-made g c = made_as verbs.Bench c.args.order.now c.in-Bench.is c.requires.asked

pub run_whole-requires-in-Draw-clause-made : goal.run_whole-requires-in-Draw-clause-made
run_whole-requires-in-Draw-clause-made g c = made_as verbs.Draw c.args.order.now c.in-Draw.is c.requires.asked

pub run_design-requires-in-Balance-clause-made : goal.run_design-requires-in-Balance-clause-made
run_design-requires-in-Balance-clause-made g c = made_as verbs.Balance c.args.order.now c.in-Balance.is c.requires.asked
