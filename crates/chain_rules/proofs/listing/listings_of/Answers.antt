use Rattle.std.proofs.Common.{◌≡◌, ℕ, List, subst, sym, inl, length, get_or, ◌<◌, ◌+◌}
use Rattle.chain_rules.specs.declared.listing.Listing.{Listing}
use Rattle.chain_rules.specs.declared.spec.ChainSpec.{ChainSpec}
use Rattle.chain_rules.specs.Stretches.{path_at, spec_at, groups_of}
use Rattle.chain_rules.specs.Runs.{stretch, run_at, AreMarks, IsListingOf}
use Rattle.chain_rules.proofs.Meeting.{no_stretch_of_run, stretch_of_run, spec_read}
use Rattle.chain_rules.proofs.Listed.{listings_more}
use Rattle.chain_rules.proofs.listing.listings_of.Goals as goal

pub unreachable-requires : goal.unreachable-requires
unreachable-requires c =
    c.requires.stretches c.loop-chain.chain c.loop-chain-test.true
    (inl (no_stretch_of_run c.args.index.now (spec_at c.args.chains.now c.loop-chain.chain) (run_at c.args.runs.now c.loop-chain.chain) c.in_default.not-Some (c.requires.runs.each c.loop-chain.chain c.loop-chain-test.true)))

pub loop-chain-preserved : goal.loop-chain-preserved
loop-chain-preserved c =
    let is = stretch_of_run c.args.index.now (spec_at c.args.chains.now c.loop-chain.chain) (run_at c.args.runs.now c.loop-chain.chain) c.in-Some.run' c.in-Some.is (c.requires.runs.each c.loop-chain.chain c.loop-chain-test.true) in
    let there = spec_read c.args.chains.now c.loop-chain.chain c.index-chains-chain.result c.loop-chain-test.true c.index-chains-chain.is in
    let are = subst (λ (x : ChainSpec). AreMarks (path_at c.args.index.now c.in-Some.run'.path) (stretch c.in-Some.run') (groups_of x) c.in_ok-marks.marks.items) there c.in_ok-marks.ensures.value in
    subst (λ (ls : List Listing). (length ls ≡ c.loop-chain.chain + 1) × ((k : ℕ) (d : Listing) → k < c.loop-chain.chain + 1 → IsListingOf c.args.index.now (spec_at c.args.chains.now k) (get_or ls k d))) (sym c.in_ok-push.ensures.items)
    (listings_more c.args.index.now c.args.chains.now c.loop-chain.listings.items c.loop-chain.chain (record { run = c.in-Some.run'; marks = c.in_ok-marks.marks }) c.loop-chain.invariant.0 c.loop-chain.invariant.1 (record { is_stretch = is; are_marks = are }))
