use Rattle.std.proofs.Common.{◌≡◌, ◌<◌, arith, ap, length}
use Rattle.chain_rules.specs.Legality.{bits_of, chain_at}
use Rattle.chain_balance.proofs.Totals.{path_small}
use Rattle.chain_balance.proofs.work.held_of.Goals as goal

pub total_bits-requires : goal.total_bits-requires
total_bits-requires c =
    let l : c.loop-chain.chain < length c.args.rules.now.chains = omega (arith, c.requires.legal.chains) in
    let e : bits_of c.args.rules.now c.chain.result.now ≡ bits_of c.args.rules.now (chain_at c.args.plan.now c.loop-chain.chain) = ap (bits_of c.args.rules.now) c.chain.ensures.value in
    record { bound = omega (arith, e, path_small c.args.rules.now c.args.plan.now 0 c.loop-chain.chain c.requires.legal l, c.requires.small) }
