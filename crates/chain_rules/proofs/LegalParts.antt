-- A legal plan by its chains.
use Rattle.std.proofs.Common.{◌≡◌, ℕ, ◌<◌, length, Contains}
use Rattle.std.specs.List.{concat}
use Rattle.chain_rules.specs.declared.plan.Plan.{Plan}
use Rattle.chain_rules.specs.declared.unit.Rules.{Rules}
use Rattle.chain_rules.specs.Legality.{chain_at, IsLegal, IsLegalChain}
use Rattle.chain_rules.proofs.Members.{permutation_from_members, members_from_permutation, length_from_permutation}

pub legal_from_chains : (rules : Rules) (plan : Plan) → length plan.chains ≡ length rules.chains → length (concat plan.chains) ≡ length rules.units → ((u : ℕ) → u < length rules.units → Contains (concat plan.chains) u) → ((c : ℕ) → c < length plan.chains → IsLegalChain rules c (chain_at plan c)) → IsLegal rules plan
legal_from_chains rules plan same long all each =
    record {
      chains = same;
      once = permutation_from_members (length rules.units) (concat plan.chains) long all;
      own_partition = λ c h. (each c h).own_partition;
      pinned_last = λ c h. (each c h).pinned_last;
      not_empty = λ c h. (each c h).not_empty;
      keeps_bit = λ c h. (each c h).keeps_bit;
      bounded = λ c h. (each c h).bounded;
    }

pub chain_of_legal : (rules : Rules) (plan : Plan) → IsLegal rules plan → (c : ℕ) → c < length plan.chains → IsLegalChain rules c (chain_at plan c)
chain_of_legal rules plan legal c h =
    record {
      own_partition = legal.own_partition c h;
      pinned_last = legal.pinned_last c h;
      not_empty = legal.not_empty c h;
      keeps_bit = legal.keeps_bit c h;
      bounded = legal.bounded c h;
    }

pub members_of_legal : (rules : Rules) (plan : Plan) → IsLegal rules plan → (u : ℕ) → u < length rules.units → Contains (concat plan.chains) u
members_of_legal rules plan legal = members_from_permutation (length rules.units) (concat plan.chains) legal.once

pub length_of_legal : (rules : Rules) (plan : Plan) → IsLegal rules plan → length (concat plan.chains) ≡ length rules.units
length_of_legal rules plan legal = length_from_permutation (length rules.units) (concat plan.chains) legal.once
