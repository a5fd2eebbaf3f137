use Rattle.std.proofs.Common.{◌+◌, List, Option, subst, sym, arith}
use Rattle.chain_rules.specs.declared.stretch.Run.{Run}
use Rattle.chain_rules.specs.declared.spec.ChainSpec.{ChainSpec}
use Rattle.chain_rules.specs.Runs.{IsRunOf}
use Rattle.chain_rules.proofs.Meeting.{spec_read}
use Rattle.chain_rules.proofs.Refused.{AreFirstRuns, first_runs_more, run_of_answer}
use Rattle.chain_rules.proofs.units.runs_of.Goals as goal

pub loop-chain-preserved : goal.loop-chain-preserved
loop-chain-preserved c =
    let there = spec_read c.args.chains.now c.loop-chain.chain c.index-chains-chain.result c.loop-chain-test.true c.index-chains-chain.is in
    let run = run_of_answer c.args.index.now c.index-chains-chain.result c.stretch_of.result c.stretch_of.ensures.found c.stretch_of.ensures.none in
    subst (λ (rs : List (Option Run)). AreFirstRuns c.args.index.now c.args.chains.now rs (c.loop-chain.chain + 1)) (sym c.in_ok-push.ensures.items)
    (first_runs_more c.args.index.now c.args.chains.now c.loop-chain.runs.items c.loop-chain.chain c.stretch_of.result c.loop-chain.invariant (subst (λ (x : ChainSpec). IsRunOf c.args.index.now x c.stretch_of.result) there run))

pub returns : goal.returns
returns c =
    record { value = record { long = let h = c.loop-chain.invariant.long in omega arith; each = λ k h. c.loop-chain.invariant.each k (omega arith) } }
