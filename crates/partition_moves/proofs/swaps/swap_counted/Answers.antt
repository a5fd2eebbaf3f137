use Rattle.partition_moves.proofs.Refused.{as_long, legal_by, counts_kept, kept_anew, swapped_others}
use Rattle.partition_moves.proofs.swaps.swap_counted.Goals as goal

pub recount-requires-clause-counts : goal.recount-requires-clause-counts
recount-requires-clause-counts c = counts_kept c.args.rules.now c.args.plan.now c.swap_units.new.plan c.requires.kept c.swap_units.ensures.bits (as_long c.args.rules.now c.args.plan.now.plan c.swap_units.new.plan.plan _ c.swap_units.ensures.value c.requires.after c.requires.legal)

pub returns-clause-kept : goal.returns-clause-kept
returns-clause-kept c =
    kept_anew c.args.rules.now c.args.plan.now c.swap_units.new.plan c.recount.new.self c.recount-2.new.self c.args.c c.args.d c.requires.kept c.swap_units.ensures.rooms c.swap_units.ensures.bits c.swap_units.ensures.least
    c.recount.ensures.plan c.recount.ensures.rooms c.recount.ensures.bits c.recount.ensures.least c.recount-2.ensures.plan c.recount-2.ensures.rooms c.recount-2.ensures.bits c.recount-2.ensures.least
    (as_long c.args.rules.now c.args.plan.now.plan c.swap_units.new.plan.plan _ c.swap_units.ensures.value c.requires.after c.requires.legal) c.requires.chain c.requires.other
    (legal_by c.args.rules.now c.swap_units.new.plan.plan _ c.swap_units.ensures.value c.requires.after) c.requires.legal
    (swapped_others c.args.plan.now.plan c.swap_units.new.plan.plan c.args.c c.args.i c.args.d c.args.j c.swap_units.ensures.value)
