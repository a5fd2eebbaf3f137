use Rattle.std.proofs.Common.{◌<◌, arith, ap, refl, length}
use Rattle.chain_balance.specs.Rooms.{best_at, group_of}
use Rattle.chain_balance.proofs.Roomy.{may_go_best, no_gain}
use Rattle.chain_balance.proofs.gains.first_gain.Goals as goal

pub returns-in-Some-clause-value : goal.returns-in-Some-clause-value
returns-in-Some-clause-value c =
    let l : c.loop-giver.giver < length c.args.rules.now.chains = omega (arith, ap length c.as_slice-giver-end.ensures.value) in
    may_go_best c.args.rules.now c.args.work.now.plan c.args.work.now.paths.items c.args.work.now.chains.items c.args.groups.now c.note_rooms.new.best c.args.most c.loop-giver.giver
    (best_at c.note_rooms.new.best (group_of c.args.groups.now c.loop-giver.giver)) c.in-Some.gain c.requires.is.level.legal c.requires.is.held c.requires.groups c.note_rooms.ensures.value l refl c.in-Some.ensures.value

pub returns-clause-value : goal.returns-clause-value
returns-clause-value c =
    no_gain c.args.rules.now c.args.work.now.plan c.args.work.now.paths.items c.args.work.now.chains.items c.args.groups.now c.note_rooms.new.best c.args.most c.requires.is.level.legal c.requires.is.held c.requires.groups c.note_rooms.ensures.value
    (λ giver l. c.loop-giver.invariant giver (omega (arith, l, ap length c.as_slice-giver-end.ensures.value)))
