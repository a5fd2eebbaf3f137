use Rattle.std.proofs.Common.{ℕ, ◌∷◌, [], List, length, sym, subst, ap, ◌∙◌, arith}
use Rattle.std.proofs.lemmas.List.{length-append}
use Rattle.chain_rules.specs.Legality.{chain_at}
use Rattle.wire_cost.specs.Lengths.{IsChainAt, chain_ends}
use Rattle.wire_cost.proofs.Plans.{chain_of_plan}
use Rattle.bound_command.specs.Bounds.{IsChainBound}
use Rattle.bound_command.proofs.Pushed.{bound_pushed}
use Rattle.bound_command.proofs.chains.bounds_of.Goals as goal

pub bound_of-requires-clause-chain : goal.bound_of-requires-clause-chain
bound_of-requires-clause-chain c =
    subst (λ (us : List ℕ). IsChainAt c.args.ends.now c.loop-number.number us) (sym c.chain-units.ensures.value) (chain_of_plan c.args.ends.now c.args.rules.now.read c.loop-number.number (omega arith) c.requires.plan)

pub loop-number-preserved : goal.loop-number-preserved
loop-number-preserved c =
    let ends = c.args.ends.now in
    let read = c.args.rules.now.read in
    let k = c.loop-number.number in
    let old = c.loop-number.bounds.items in
    let b = c.in_ok-bound_of.field-0 in
    let items = c.in_ok-push.ensures.items in
    let here = subst (λ (us : List ℕ). IsChainBound (chain_ends ends k) us b) c.chain-units.ensures.value c.in_ok-bound_of.ensures.value in
    let count = c.loop-number.invariant.count in
    record {
      count = ap length items ∙ length-append old (b ∷ []) ∙ omega arith;
      each = bound_pushed (λ i x. IsChainBound (chain_ends ends i) (chain_at read i) x) old c.push.new.self.items k b count items c.loop-number.invariant.each here;
    }
