-- The bits of a path are some of the bits of all units.
use Rattle.std.proofs.Common.{◌≡◌, ℕ, ◌+◌, ◌<◌, ◌≤◌, length, Bool, true, false, cond, sym, ap, ◌∙◌, arith, suc, eqb}
use Rattle.std.specs.Prelude.{slice_index_or}
use Rattle.std.specs.List.{concat}
use Rattle.chain_rules.specs.declared.plan.Plan.{Plan}
use Rattle.chain_rules.specs.declared.unit.Rules.{Rules}
use Rattle.chain_rules.specs.Legality.{unit_at, rule_at, chain_at, bits_of, IsLegal}
use Rattle.chain_balance.specs.Balance.{sum_below, bits_on, path_bits, TotalLaw}
use Rattle.chain_balance.proofs.Sums.{sum_below-le, sum_below-add, sum_below-paths, sum_below-concat, sum_below-list, sum_below-fewer}

on_le : (b : Bool) (x : ℕ) → cond b x 0 ≤ x
on_le true x = omega arith
on_le false x = omega arith

-- the bits of the chains before one that are on a path, and those of that chain
pub path_small : (rules : Rules) (plan : Plan) (path k : ℕ) → IsLegal rules plan → k < length rules.chains
    → sum_below k (bits_on rules plan path) + bits_of rules (chain_at plan k) ≤ bits_of rules (concat plan.chains)
path_small rules plan path k legal l =
    let all : ℕ → ℕ = λ c. bits_of rules (chain_at plan c) in
    let some : sum_below k (bits_on rules plan path) ≤ sum_below k all = sum_below-le k (bits_on rules plan path) all (λ c m. on_le (eqb (rule_at rules c).path path) (bits_of rules (chain_at plan c))) in
    let more : sum_below (suc k) all ≤ sum_below (length plan.chains) all = sum_below-fewer (suc k) (length plan.chains) all (omega (arith, legal.chains, l)) in
    let whole : sum_below (length plan.chains) all ≡ bits_of rules (concat plan.chains) = sum_below-concat (λ u. (unit_at rules u).bits) plan.chains in
    omega (arith, some, more, whole)

-- the bits of all paths together
pub total : TotalLaw
total rules fixed plan on legal =
    let held : ℕ → ℕ = λ c. bits_of rules (chain_at plan c) in
    let parts : sum_below (length fixed) (path_bits rules fixed plan) ≡ sum_below (length fixed) (λ x. slice_index_or fixed x 0) + sum_below (length fixed) (λ x. sum_below (length rules.chains) (bits_on rules plan x))
    = sum_below-add (length fixed) (λ x. slice_index_or fixed x 0) (λ x. sum_below (length rules.chains) (bits_on rules plan x)) in
    let units : sum_below (length fixed) (λ x. sum_below (length rules.chains) (bits_on rules plan x)) ≡ sum_below (length rules.chains) held
    = sum_below-paths (length fixed) (length rules.chains) (λ x. true) (λ c. (rule_at rules c).path) held on in
    let chains : sum_below (length rules.chains) held ≡ bits_of rules (concat plan.chains) = ap (λ k. sum_below k held) (sym legal.chains) ∙ sum_below-concat (λ u. (unit_at rules u).bits) plan.chains in
    omega (arith, parts, sum_below-list fixed, units, chains)
