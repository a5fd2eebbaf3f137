use Rattle.std.proofs.Common.{◌≡◌, ◌==◌, ◌+◌, ℕ, List, arith, ap, sym, subst, length, slice_index_or}
use Rattle.std.specs.HashMap.{get}
use Rattle.chain_rules.specs.declared.unit.ChainRule.{ChainRule}
use Rattle.chain_rules.specs.Legality.{no_rule}
use Rattle.chain_balance.proofs.Grouping.{AreKnown, known_more, known_all}
use Rattle.chain_balance.proofs.groups.groups_of.Goals as goal

pub loop-chain-preserved : goal.loop-chain-preserved
loop-chain-preserved c =
    subst (λ (gs : List ℕ). AreKnown c.args.rules.now (get ◌==◌ c.group_of.new.numbers) gs (c.loop-chain.chain + 1)) (sym c.in_ok-push.ensures.items)
    (known_more c.args.rules.now (get ◌==◌ c.loop-chain.numbers) (get ◌==◌ c.group_of.new.numbers) c.loop-chain.groups.items (slice_index_or c.as_slice-chains.result.now c.loop-chain.chain no_rule).partition c.loop-chain.chain c.in_ok-group.group
    c.loop-chain.invariant (ap (λ (rs : List ChainRule). (slice_index_or rs c.loop-chain.chain no_rule).partition) c.as_slice-chains.ensures.value) c.in_ok-group.ensures.numbers c.in_ok-group.ensures.value)

pub returns : goal.returns
returns c =
    let all : c.loop-chain.chain ≡ length c.args.rules.now.chains = omega (arith, ap length c.as_slice-chains.ensures.value) in
    record { value = known_all c.args.rules.now (get ◌==◌ c.loop-chain.numbers) c.loop-chain.groups.items (subst (λ (n : ℕ). AreKnown c.args.rules.now (get ◌==◌ c.loop-chain.numbers) c.loop-chain.groups.items n) all c.loop-chain.invariant) }
