use Rattle.std.proofs.Common.{◌≡◌, ℕ, ◌+◌, ◌<◌, false, nat_eq, get_or, take, length, refl, sym, ap, ◌∙◌, arith}
use Rattle.std.specs.List.{concat, list_any}
use Rattle.std.proofs.lemmas.List.{get_or-replicate, get_or-take, take_all, length-take-le}
use Rattle.chain_rules.proofs.Members.{any_from_contains, contains_from_any, list_any-concat}
use Rattle.chain_rules.proofs.standing.stand_from.Goals as goal

pub loop-chain-init : goal.loop-chain-init
loop-chain-init c = (refl, λ k h. get_or-replicate 16384 k false false h)

pub returns : goal.returns
returns c =
    let css = c.args.plan.now.chains in
    let low : ℕ = c.args.low in
    let count : ℕ = c.args.count in
    let marks = c.loop-chain.marks in
    let long : length (take count marks) ≡ count = length-take-le count marks (omega (arith, c.loop-chain.invariant.0)) in
    let at : (k : ℕ) → k < count → get_or (take count marks) k false ≡ list_any (λ v. nat_eq v (low + k)) (concat css) =
    λ k h. get_or-take count marks k false h ∙ c.loop-chain.invariant.1 k (omega arith) ∙ ap (list_any (list_any (λ v. nat_eq v (low + k)))) (take_all c.loop-chain.chain css (omega arith)) ∙ sym (list_any-concat (λ v. nat_eq v (low + k)) css) in
    record {
      value = (
        λ yes k h. contains_from_any (concat css) (low + k) (sym (at k h) ∙ c.are_set.ensures.value.0 yes k (omega (arith, long))),
        λ all. c.are_set.ensures.value.1 (λ k h. (let l : k < count = omega (arith, long) in at k l ∙ any_from_contains (concat css) (low + k) (all k l))),
      );
    }
