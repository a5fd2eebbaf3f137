use Rattle.std.proofs.Common.{◌-◌, arith}
use Rattle.wire_cost.specs.Lengths.{chain_ends}
use Rattle.order_search.proofs.Lanes.{somewhere_behind}
use Rattle.order_search.proofs.gains.lane_end.Goals as goal

pub returns-in-Some-clause-somewhere : goal.returns-in-Some-clause-somewhere
returns-in-Some-clause-somewhere c =
    somewhere_behind (chain_ends c.args.ends.now c.args.chain) c.args.units.now c.args.limit c.args.limit c.requires.chain.entry c.requires.within (omega arith) (λ e n. cc)

pub returns-in-None-clause-somewhere : goal.returns-in-None-clause-somewhere
returns-in-None-clause-somewhere c =
    somewhere_behind (chain_ends c.args.ends.now c.args.chain) c.args.units.now c.args.limit (c.args.limit - 1) c.requires.chain.entry c.requires.within (omega arith) (λ e. absurd (omega arith))
