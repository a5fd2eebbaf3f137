use Rattle.std.proofs.Common.{rules}
use Rattle.retarget.specs.Judging.{IsAccepted}
use Rattle.retarget.proofs.Accepted.{accepted_loads, accepted_compares}
use Rattle.retarget.proofs.judge.judge_call.Goals as goal

pub returns-clause-loads : goal.returns-clause-loads
returns-clause-loads c some =
    let accepted : IsAccepted c.args.chains.now c.args.call.now = search rules in
    accepted_loads c.args.chains.now c.args.call.now c.requires.chains c.requires.call accepted some

pub returns-clause-compares : goal.returns-clause-compares
returns-clause-compares c some =
    let accepted : IsAccepted c.args.chains.now c.args.call.now = search rules in
    accepted_compares c.args.chains.now c.args.call.now c.requires.chains c.requires.call accepted some
