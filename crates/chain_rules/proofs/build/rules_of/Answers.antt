use Rattle.std.proofs.Common.{◌≡◌, ℕ, ◌+◌, List, [], ◌∷◌, ◌++◌, length, arith, subst, sym, ap, ◌∙◌}
use Rattle.std.specs.List.{range_with_len}
use Rattle.std.proofs.lemmas.List.{map_push}
use Rattle.std.proofs.lemmas.List.Sums.{sum_by_more_le}
use Rattle.chain_rules.specs.declared.spec.ChainSpec.{ChainSpec}
use Rattle.chain_rules.specs.declared.unit.Unit.{Unit as MovedUnit}
use Rattle.chain_rules.specs.declared.unit.ChainRule.{ChainRule}
use Rattle.chain_rules.specs.Stretches.{no_chain, groups_of}
use Rattle.chain_rules.specs.Plans.{lists_of}
use Rattle.chain_rules.proofs.Assembled.{AreFirstRules, first_rules_more, few_groups}
use Rattle.chain_rules.proofs.build.rules_of.Goals as goal

pub built_chain-requires-clause-whole : goal.built_chain-requires-clause-whole
built_chain-requires-clause-whole c = c.requires.whole c.loop-chain.chain c.loop-chain-test.true

pub numbers-requires : goal.numbers-requires
numbers-requires c =
    let units : c.len.result ≡ length c.loop-chain.units.items = c.len.ensures ∙ c.loop-chain.units.ok.0 in
    let more : c.len-in-loop-chain.result ≡ length c.in_ok-built.built.units.items = c.len-in-loop-chain.ensures ∙ c.in_ok-built.built.units.ok.0 in
    let so_far = c.loop-chain.invariant.few in
    let here = c.in_ok-built.ensures.value.2 in
    let all = sum_by_more_le (λ (x : ChainSpec). length (groups_of x)) c.args.chains.now c.loop-chain.chain no_chain c.loop-chain-test.true in
    let groups = few_groups c.args.chains.now c.requires.chains.elements in
    let few = c.requires.chains.few_elements in
    record { small = omega arith }

pub loop-chain-preserved : goal.loop-chain-preserved
loop-chain-preserved c =
    let units : c.len.result ≡ length c.loop-chain.units.items = c.len.ensures ∙ c.loop-chain.units.ok.0 in
    let more : c.len-in-loop-chain.result ≡ length c.in_ok-built.built.units.items = c.len-in-loop-chain.ensures ∙ c.in_ok-built.built.units.ok.0 in
    let order : c.in_ok-order.order.items ≡ range_with_len (length c.loop-chain.units.items) (length c.in_ok-built.built.units.items) =
    c.in_ok-order.ensures.value ∙ (ap (λ (n : ℕ). range_with_len n c.len-in-loop-chain.result) units ∙ ap (λ (n : ℕ). range_with_len (length c.loop-chain.units.items) n) more) in
    let read : lists_of c.push-in-loop-chain.new.self.items ≡ lists_of c.loop-chain.read.items ++ range_with_len (length c.loop-chain.units.items) (length c.in_ok-built.built.units.items) ∷ [] =
    ap lists_of c.in_ok-push-2.ensures.items ∙ (map_push (λ v. v.items) c.loop-chain.read.items c.in_ok-order.order ∙ ap (λ (ns : List ℕ). lists_of c.loop-chain.read.items ++ ns ∷ []) order) in
    let joined = c.in_ok-extend_from_slice.ensures.items ∙ ap (λ (us : List MovedUnit). c.loop-chain.units.items ++ us) c.as_slice.ensures.value in
    let next = first_rules_more c.args.index.now c.args.chains.now c.loop-chain.units.items c.loop-chain.rules.items (lists_of c.loop-chain.read.items) c.loop-chain.chain c.loop-chain-test.true c.loop-chain.invariant c.in_ok-built.built.rule c.in_ok-built.built.units.items c.in_ok-built.ensures.value.0 c.in_ok-built.ensures.value.2 in
    subst (λ (us : List MovedUnit). AreFirstRules c.args.index.now c.args.chains.now us c.push.new.self.items (lists_of c.push-in-loop-chain.new.self.items) (c.loop-chain.chain + 1)) (sym joined)
    (subst (λ (rs : List ChainRule). AreFirstRules c.args.index.now c.args.chains.now (c.loop-chain.units.items ++ c.in_ok-built.built.units.items) rs (lists_of c.push-in-loop-chain.new.self.items) (c.loop-chain.chain + 1)) (sym c.in_ok-push.ensures.items)
    (subst (λ (ns : List (List ℕ)). AreFirstRules c.args.index.now c.args.chains.now (c.loop-chain.units.items ++ c.in_ok-built.built.units.items) (c.loop-chain.rules.items ++ c.in_ok-built.built.rule ∷ []) ns (c.loop-chain.chain + 1)) (sym read) next))
