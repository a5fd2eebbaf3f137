use Rattle.std.proofs.Common.{rules, length, ◌≤◌}
use Rattle.scan_job.proofs.ReorderLaws.{made_design, made_patterns}
use Rattle.scan_job.proofs.command.run_design.Goals as goal

pub run_whole-requires-clause-made : goal.run_whole-requires-clause-made
run_whole-requires-clause-made g c =
    let few : length c.args.order.now.values ≤ 7 = search rules in
    made_design c.args.order.now c.requires.made few

pub run_patterns-requires-clause-made : goal.run_patterns-requires-clause-made
run_patterns-requires-clause-made g c =
    let many : length c.args.order.now.values ≤ 7 → ⊥ = search rules in
    made_patterns c.args.order.now c.requires.made many
