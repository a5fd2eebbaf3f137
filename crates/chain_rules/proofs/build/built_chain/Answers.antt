use Rattle.std.proofs.Common.{ℕ, ◌≤◌, List, All, subst, sym, ◌∙◌}
use Rattle.std.specs.List.{AllZip}
use Rattle.chain_rules.specs.declared.cuts.Cut.{Cut}
use Rattle.chain_rules.specs.declared.listing.Listing.{Listing}
use Rattle.chain_rules.specs.declared.spec.ChainSpec.{ChainSpec}
use Rattle.chain_rules.specs.Stretches.{path_at, spec_at, no_chain}
use Rattle.chain_rules.specs.Runs.{stretch, IsListingOf, IsUnitOfCut, IsRuleOfRun, end_of_cuts}
use Rattle.chain_rules.proofs.Meeting.{spec_read}
use Rattle.chain_rules.proofs.Together.{are_together}
use Rattle.chain_rules.proofs.Built.{cut_bounds, first_cut, last_cut, some_mark, read_chain, built_count}
use Rattle.chain_rules.proofs.build.built_chain.Goals as goal

pub cuts_of-requires-clause-together : goal.cuts_of-requires-clause-together
cuts_of-requires-clause-together c =
    let is = subst (λ (l : Listing). IsListingOf c.args.index.now (spec_at c.args.chains.now c.args.chain) l) (sym c.index-listings-chain.is) (c.requires.listings.each c.args.chain c.index-listings-chain.result c.requires.chain) in
    are_together c.args.index.now c.args.chains.now c.requires.chains.steps_once c.requires.chains.named_once c.args.chain c.requires.chain (stretch c.index-listings-chain.result.run) is.is_stretch c.requires.whole c.index-listings-chain.result.marks.items is.are_marks

pub cuts_of-requires-clause-some : goal.cuts_of-requires-clause-some
cuts_of-requires-clause-some c =
    let is = subst (λ (l : Listing). IsListingOf c.args.index.now (spec_at c.args.chains.now c.args.chain) l) (sym c.index-listings-chain.is) (c.requires.listings.each c.args.chain c.index-listings-chain.result c.requires.chain) in
    some_mark c.args.index.now (spec_at c.args.chains.now c.args.chain) (c.requires.chains.elements c.args.chain no_chain c.requires.chain) c.index-listings-chain.result is

pub units_of_cuts-requires-clause-order : goal.units_of_cuts-requires-clause-order
units_of_cuts-requires-clause-order c =
    let w = c.in_ok-cuts.ensures.value in
    let e_last = last_cut c.in_ok-cuts.cuts.items c.len.result c.index-2.result.now (c.len.ensures ∙ c.in_ok-cuts.cuts.ok.0) w.1.some c.index-2.ensures in
    subst (λ (cs : List Cut). All (λ k. (k.first ≤ k.last) × (k.last ≤ c.index-2.result.now.last)) cs) (sym c.as_slice.ensures.value)
    (subst (λ (n : ℕ). All (λ (k : Cut). (k.first ≤ k.last) × (k.last ≤ n)) c.in_ok-cuts.cuts.items) (sym e_last)
    (cut_bounds (stretch c.index-listings-chain.result.run) c.index-listings-chain.result.marks.items c.in_ok-cuts.cuts.items w.0 (end_of_cuts c.in_ok-cuts.cuts.items) w.1))

pub returns : goal.returns
returns c =
    let is = subst (λ (l : Listing). IsListingOf c.args.index.now (spec_at c.args.chains.now c.args.chain) l) (sym c.index-listings-chain.is) (c.requires.listings.each c.args.chain c.index-listings-chain.result c.requires.chain) in
    let there = spec_read c.args.chains.now c.args.chain c.index-chains-chain.result c.requires.chain c.index-chains-chain.is in
    let w = c.in_ok-cuts.ensures.value in
    let e_first = first_cut c.in_ok-cuts.cuts.items w.0 _ w.1.cover w.1.some c.index.result.now c.index.ensures in
    let e_last = last_cut c.in_ok-cuts.cuts.items c.len.result c.index-2.result.now (c.len.ensures ∙ c.in_ok-cuts.cuts.ok.0) w.1.some c.index-2.ensures in
    let rule = subst (λ (n : ℕ). IsRuleOfRun (path_at c.args.index.now c.index-listings-chain.result.run.path) (spec_at c.args.chains.now c.args.chain) c.index-listings-chain.result.run w.0 n c.rule_of-rule.result) e_last
    (subst (λ (m : ℕ). IsRuleOfRun (path_at c.args.index.now c.index-listings-chain.result.run.path) (spec_at c.args.chains.now c.args.chain) c.index-listings-chain.result.run m c.index-2.result.now.last c.rule_of-rule.result) e_first
    (subst (λ (x : ChainSpec). IsRuleOfRun (path_at c.args.index.now c.index-listings-chain.result.run.path) x c.index-listings-chain.result.run c.index.result.now.first c.index-2.result.now.last c.rule_of-rule.result) there c.rule_of-rule.ensures.value)) in
    let zip = subst (λ (n : ℕ). AllZip (λ k u. IsUnitOfCut (path_at c.args.index.now c.index-listings-chain.result.run.path) (spec_at c.args.chains.now c.args.chain) c.index-listings-chain.result.run k n u) c.in_ok-cuts.cuts.items c.in_ok-units.units.items) e_last
    (subst (λ (cs : List Cut). AllZip (λ k u. IsUnitOfCut (path_at c.args.index.now c.index-listings-chain.result.run.path) (spec_at c.args.chains.now c.args.chain) c.index-listings-chain.result.run k c.index-2.result.now.last u) cs c.in_ok-units.units.items) c.as_slice.ensures.value
    (subst (λ (x : ChainSpec). AllZip (λ k u. IsUnitOfCut (path_at c.args.index.now c.index-listings-chain.result.run.path) x c.index-listings-chain.result.run k c.index-2.result.now.last u) c.as_slice.result.now c.in_ok-units.units.items) there c.in_ok-units.ensures.value)) in
    let count = built_count c.args.index.now (spec_at c.args.chains.now c.args.chain) c.index-listings-chain.result is c.in_ok-cuts.cuts.items w.0 (end_of_cuts c.in_ok-cuts.cuts.items) w.1 c.in_ok-units.units.items zip in
    record { value = (read_chain c.args.index.now c.args.chains.now c.requires.chains.named_once c.args.chain c.requires.chain c.index-listings-chain.result is c.in_ok-cuts.cuts.items w.0 (end_of_cuts c.in_ok-cuts.cuts.items) w.1 c.in_ok-units.units.items zip c.rule_of-rule.result rule, count.0, count.1) }
