use Rattle.partition_moves.proofs.Fitting.{room_to_land}
use Rattle.partition_moves.proofs.Refused.{as_long, legal_by, counts_kept, kept_anew, moved_others}
use Rattle.partition_moves.proofs.moves.move_counted.Goals as goal

pub move_unit-requires-clause-room : goal.move_unit-requires-clause-room
move_unit-requires-clause-room c = room_to_land c.args.rules.now c.args.plan.now.plan c.args.plan.now.rooms c.args.c c.args.i c.args.d c.args.j c.requires.kept.rooms c.requires.legal c.requires.after c.requires.other c.requires.open

pub recount-requires-clause-counts : goal.recount-requires-clause-counts
recount-requires-clause-counts c = counts_kept c.args.rules.now c.args.plan.now c.move_unit.new.self c.requires.kept c.move_unit.ensures.bits (as_long c.args.rules.now c.args.plan.now.plan c.move_unit.new.self.plan _ c.move_unit.ensures.value c.requires.after c.requires.legal)

pub returns-clause-kept : goal.returns-clause-kept
returns-clause-kept c =
    kept_anew c.args.rules.now c.args.plan.now c.move_unit.new.self c.recount.new.self c.recount-2.new.self c.args.c c.args.d c.requires.kept c.move_unit.ensures.rooms c.move_unit.ensures.bits c.move_unit.ensures.least
    c.recount.ensures.plan c.recount.ensures.rooms c.recount.ensures.bits c.recount.ensures.least c.recount-2.ensures.plan c.recount-2.ensures.rooms c.recount-2.ensures.bits c.recount-2.ensures.least
    (as_long c.args.rules.now c.args.plan.now.plan c.move_unit.new.self.plan _ c.move_unit.ensures.value c.requires.after c.requires.legal) c.requires.chain c.requires.other
    (legal_by c.args.rules.now c.move_unit.new.self.plan _ c.move_unit.ensures.value c.requires.after) c.requires.legal
    (moved_others c.args.plan.now.plan c.move_unit.new.self.plan c.args.c c.args.i c.args.d c.args.j c.move_unit.ensures.value)
