use Rattle.std.proofs.Common.{◌≡◌, true, arith}
use Rattle.stil_parts.specs.Calm.{is_between}
use Rattle.stil_parts.proofs.CalmRuns.{jump_in}
use Rattle.stil_parts.proofs.scan.calm_on.Goals as goal

pub returns-clause-ends : goal.returns-clause-ends
returns-clause-ends c =
    let between : is_between c.args.scan ≡ true = grind arith in
    (jump_in c.args.bytes.now c.args.at c.calm_len-len.result c.args.scan c.mode_behind-mode.result between (λ z. absurd (omega arith)) c.calm_len-len.ensures.within c.calm_len-len.ensures.calm c.mode_behind-mode.ensures).ends

pub returns-clause-ran : goal.returns-clause-ran
returns-clause-ran c =
    let between : is_between c.args.scan ≡ true = grind arith in
    (jump_in c.args.bytes.now c.args.at c.calm_len-len.result c.args.scan c.mode_behind-mode.result between (λ z. absurd (omega arith)) c.calm_len-len.ensures.within c.calm_len-len.ensures.calm c.mode_behind-mode.ensures).ran
