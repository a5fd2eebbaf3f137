use Rattle.std.proofs.Common.{ℕ, ◌<◌, inr, ⊎_elim, length, arith}
use Rattle.std.proofs.lemmas.Bool.{iff_false}
use borrow.Author.Count.{below_more}
use Rattle.chain_rules.specs.Stretches.{spec_at, HasStretch, IsStretch}
use Rattle.chain_rules.specs.ChainFaults.{Meet, IsNotAStretch}
use Rattle.chain_rules.specs.Runs.{run_at, stretch}
use Rattle.chain_rules.proofs.Meeting.{stretch_of_run}
use Rattle.chain_rules.proofs.Spread.{IsSet, clash_of_met, met_of_clash, own_some}
use Rattle.chain_rules.proofs.meets.first_not_a_stretch.Goals as goal

pub loop-chain-preserved : goal.loop-chain-preserved
loop-chain-preserved c =
    let paths = c.args.index.now in
    let chains = c.args.chains.now in
    let runs = c.args.runs.now in
    let i = c.loop-chain.chain in
    let is : IsStretch paths (spec_at chains i) (stretch c.in-Some._run) = stretch_of_run paths (spec_at chains i) (run_at runs i) c.in-Some._run c.in-Some.is (c.requires.runs.each i c.loop-chain-test.true) in
    let set : IsSet paths chains runs c.in_ok-spread.spread i (stretch c.in-Some._run) = record { good = c.requires.chains; runs_are = c.requires.runs; spread_is = c.in_ok-spread.ensures.value; within = c.loop-chain-test.true; stretch_is = is } in
    below_more (λ d. ¬ IsNotAStretch paths chains d) i c.loop-chain.invariant
    (λ fault. ⊎_elim
    (λ (none : ¬ HasStretch paths (spec_at chains i)). none (stretch c.in-Some._run, is))
    (λ (m : (d : ℕ) × (d < length chains) × Meet paths chains i d). iff_false c.is_met.ensures.value c.if-is_met.false (met_of_clash paths chains runs c.in_ok-spread.spread i (stretch c.in-Some._run) set m))
    fault)

pub is_met-requires-clause-some : goal.is_met-requires-clause-some
is_met-requires-clause-some c =
    let paths = c.args.index.now in
    let chains = c.args.chains.now in
    let runs = c.args.runs.now in
    let i = c.loop-chain.chain in
    let is : IsStretch paths (spec_at chains i) (stretch c.in-Some._run) = stretch_of_run paths (spec_at chains i) (run_at runs i) c.in-Some._run c.in-Some.is (c.requires.runs.each i c.loop-chain-test.true) in
    own_some paths chains runs c.in_ok-spread.spread i (stretch c.in-Some._run) (record { good = c.requires.chains; runs_are = c.requires.runs; spread_is = c.in_ok-spread.ensures.value; within = c.loop-chain-test.true; stretch_is = is })

pub returns-then-is_met-clause-found : goal.returns-then-is_met-clause-found
returns-then-is_met-clause-found c =
    let paths = c.args.index.now in
    let chains = c.args.chains.now in
    let runs = c.args.runs.now in
    let i = c.loop-chain.chain in
    let is : IsStretch paths (spec_at chains i) (stretch c.in-Some._run) = stretch_of_run paths (spec_at chains i) (run_at runs i) c.in-Some._run c.in-Some.is (c.requires.runs.each i c.loop-chain-test.true) in
    let set : IsSet paths chains runs c.in_ok-spread.spread i (stretch c.in-Some._run) = record { good = c.requires.chains; runs_are = c.requires.runs; spread_is = c.in_ok-spread.ensures.value; within = c.loop-chain-test.true; stretch_is = is } in
    let fault : IsNotAStretch paths chains i = inr (clash_of_met paths chains runs c.in_ok-spread.spread i (stretch c.in-Some._run) set (c.is_met.ensures.value.0 c.if-is_met.true)) in
    (c.loop-chain-test.true, fault, c.loop-chain.invariant)

pub returns-clause-none : goal.returns-clause-none
returns-clause-none c = λ d h. c.loop-chain.invariant d (omega arith)
