-- The plan as read can be measured: its chains and units are in range, and few.
use Rattle.std.proofs.Common.{◌≡◌, ℕ, zero, suc, ◌+◌, ◌<◌, ◌≤◌, List, [], ◌∷◌, length, get_or, map, refl, sym, ap, ◌∙◌, arith, length-append}
use Rattle.std.specs.Prelude.{Contains, sum_by, Some}
use Rattle.std.specs.List.{concat, range_with_len}
use Rattle.std.proofs.lemmas.List.{length-map}
use Rattle.std.proofs.lemmas.List.Elements.{Contains-get_or}
use Rattle.std.proofs.lemmas.List.Sums.{sum_by-cons}
use Rattle.chain_rules.specs.declared.spec.PathSpec.{PathSpec}
use Rattle.chain_rules.specs.declared.spec.ChainSpec.{ChainSpec}
use Rattle.chain_rules.specs.declared.unit.Rules.{Rules}
use Rattle.chain_rules.specs.Stretches.{path_at, spec_at, elements_of, no_chain, AreChainSpecs}
use Rattle.chain_rules.specs.Legality.{unit_at, chain_at}
use Rattle.chain_rules.specs.Rules.{IsReadChain, AreRulesOf}
use Rattle.chain_rules.proofs.Distinct.{Contains-concat}
use Rattle.chain_rules.proofs.Members.{length_from_permutation}
use Rattle.chain_rules.proofs.Stretched.{stretch_within}
use Rattle.wire_cost.specs.declared.ends.Ends.{Ends}
use Rattle.wire_cost.specs.Lengths.{AreWithin, IsPlanAt}
use Rattle.design_files.proofs.FewUnits.{few}

-- lists side by side, each no longer than the elements of the chain beside it
concat_few : (xss : List (List ℕ)) (chains : List ChainSpec) → length xss ≡ length chains
    → ((c : ℕ) → c < length chains → length (get_or xss c []) ≤ length (elements_of (spec_at chains c))) → length (concat xss) ≤ sum_by (λ chain. length (elements_of chain)) chains
concat_few [] chains same each = omega arith
concat_few (xs ∷ xss) [] same each = absurd (omega arith)
concat_few (xs ∷ xss) (chain ∷ chains) same each =
    let first : length xs ≤ length (elements_of chain) = each zero (omega arith) in
    let rest = concat_few xss chains (omega arith) (λ c lt. each (suc c) (omega arith)) in
    let both : length (concat (xs ∷ xss)) ≡ length xs + length (concat xss) = length-append xs (concat xss) in
    let sum : sum_by (λ (c : ChainSpec). length (elements_of c)) (chain ∷ chains) ≡ length (elements_of chain) + sum_by (λ (c : ChainSpec). length (elements_of c)) chains =
    sum_by-cons (λ (c : ChainSpec). length (elements_of c)) chain chains in
    omega arith

module _ (paths : List PathSpec) (chains : List ChainSpec) (rules : Rules) (are : AreRulesOf paths chains rules) where
  chain_few : (c : ℕ) → c < length chains → length (chain_at rules.read c) ≤ length (elements_of (spec_at chains c))
  chain_few c lt =
      let read = are.of_each.each c lt in
      let s = read.stretch in
      let last = read.last.high in
      let within = stretch_within paths (spec_at chains c) s read.is_stretch in
      let at_most = few paths (spec_at chains c) s.path are.steps_once read.is_stretch.path (map (unit_at rules) (chain_at rules.read c)) read.units _ _ (omega arith) read.cover in
      let same = length-map (chain_at rules.read c) (unit_at rules) in
      omega arith

  pub units_few : length (concat rules.read.chains) ≤ sum_by (λ chain. length (elements_of chain)) chains
  units_few = concat_few rules.read.chains chains are.of_each.read_count chain_few
