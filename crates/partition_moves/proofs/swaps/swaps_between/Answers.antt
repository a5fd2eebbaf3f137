use Rattle.std.proofs.Common.{refl}
use Rattle.std.proofs.lemmas.Bool.{iff_false}
use Rattle.partition_moves.proofs.Exchanged.{no_swap_across, no_swap_with_itself}
use Rattle.partition_moves.proofs.swaps.swaps_between.Goals as goal
use Rattle.partition_moves.proofs.swaps.swaps_between.Goals.{then-c-d-via-then-c-d, then-c-d-via-else-c-d+then-not-are_together}

pub returns-then-c-d-clause-quiet : goal.returns-then-c-d-clause-quiet
returns-then-c-d-clause-quiet c y = elim c.then-c-d.branch [
  | then-c-d-via-then-c-d w ↦ (refl, no_swap_with_itself c.args.rules.now c.args.ends.now c.args.plan.now.plan c.args.c c.args.d w.if-c-d.true)
  | then-c-d-via-else-c-d+then-not-are_together w ↦ (refl, no_swap_across c.args.rules.now c.args.ends.now c.args.plan.now.plan c.args.c c.args.d c.requires.legal c.requires.chain c.requires.other (iff_false w.are_together.ensures.value w.if-not-are_together.true))
]
