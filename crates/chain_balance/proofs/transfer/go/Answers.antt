use Rattle.chain_balance.proofs.Loads.{work_went, fewer_went}
use Rattle.chain_balance.proofs.transfer.go.Goals as goal

pub returns-clause-is : goal.returns-clause-is
returns-clause-is c =
    work_went c.args.rules.now c.args.fixed.now c.args.work.now c.move_unit.new.work c.args.most c.args.gain.giver c.args.gain.place c.args.gain.taker c.requires.is c.requires.paths c.requires.may
    c.in_ok-move_unit.ensures.plan c.in_ok-move_unit.ensures.loads c.in_ok-move_unit.ensures.held

pub returns-clause-fewer : goal.returns-clause-fewer
returns-clause-fewer c =
    fewer_went c.args.rules.now c.args.fixed.now c.args.work.now c.move_unit.new.work.paths.items c.args.most c.args.gain.giver c.args.gain.place c.args.gain.taker c.requires.is c.requires.paths c.requires.may c.in_ok-move_unit.ensures.loads
