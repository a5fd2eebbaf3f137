use Rattle.std.proofs.Common.{◌≡◌, ℕ, ◌+◌, List, length, sym, subst, arith}
use Rattle.std.proofs.lemmas.List.{get_or_default}
use Rattle.chain_rules.specs.declared.spans.Span.{Span}
use Rattle.chain_rules.specs.declared.spec.ChainSpec.{ChainSpec}
use Rattle.chain_rules.specs.Stretches.{spec_at, no_chain}
use Rattle.chain_rules.specs.Runs.{run_at}
use Rattle.chain_rules.specs.Spreading.{AreSpansOf, IsSpanOfRun, IsSpanOfEnd}
use Rattle.chain_rules.proofs.Spread.{run_on_path, spans_more, spans_ordered, run_ordered, end_ordered}
use Rattle.chain_rules.proofs.meets.spread_of.Goals as goal

pub span_of_run-requires-clause-on : goal.span_of_run-requires-clause-on
span_of_run-requires-clause-on c =
    let chains = c.args.chains.now in
    let i = c.loop-chain.chain in
    run_on_path c.args.index.now (spec_at chains i) (run_at c.args.runs.now i) (c.requires.chains.elements i no_chain c.loop-chain-test.true) (c.requires.runs.each i c.loop-chain-test.true)

pub loop-chain-preserved : goal.loop-chain-preserved
loop-chain-preserved c =
    let paths = c.args.index.now in
    let chains = c.args.chains.now in
    let runs = c.args.runs.now in
    let i = c.loop-chain.chain in
    let l = c.loop-chain in
    let first = get_or_default chains i c.index-chains-chain.result no_chain c.loop-chain-test.true in
    let second = get_or_default chains i c.index-chains-chain-in-loop-chain.result no_chain c.loop-chain-test.true in
    let start = subst (λ (x : ChainSpec). IsSpanOfEnd paths x.start c.span_of_end.result) first c.span_of_end.ensures.value in
    let stop = subst (λ (x : ChainSpec). IsSpanOfEnd paths x.stop c.span_of_end-in-loop-chain.result) second c.span_of_end-in-loop-chain.ensures.value in
    record {
      stretches = subst (λ (xs : List Span). AreSpansOf (λ k. IsSpanOfRun paths (run_at runs k)) (i + 1) xs) (sym c.in_ok-push.ensures.items) (spans_more (λ k. IsSpanOfRun paths (run_at runs k)) i l.stretches.items c.span_of_run.result l.invariant.stretches c.span_of_run.ensures.value);
      starts = subst (λ (xs : List Span). AreSpansOf (λ k. IsSpanOfEnd paths (spec_at chains k).start) (i + 1) xs) (sym c.in_ok-push-2.ensures.items) (spans_more (λ k. IsSpanOfEnd paths (spec_at chains k).start) i l.starts.items c.span_of_end.result l.invariant.starts start);
      stops = subst (λ (xs : List Span). AreSpansOf (λ k. IsSpanOfEnd paths (spec_at chains k).stop) (i + 1) xs) (sym c.in_ok-push-3.ensures.items) (spans_more (λ k. IsSpanOfEnd paths (spec_at chains k).stop) i l.stops.items c.span_of_end-in-loop-chain.result l.invariant.stops stop);
    }

pub of-requires : goal.of-requires
of-requires c =
    let paths = c.args.index.now in
    let chains = c.args.chains.now in
    let runs = c.args.runs.now in
    record { ordered = spans_ordered (λ k. IsSpanOfRun paths (run_at runs k)) c.loop-chain.chain c.loop-chain.stretches.items (λ k x h e. run_ordered paths (spec_at chains k) (run_at runs k) x (c.requires.runs.each k (omega arith)) e) c.loop-chain.invariant.stretches }

pub of-requires-2 : goal.of-requires-2
of-requires-2 c =
    let paths = c.args.index.now in
    let chains = c.args.chains.now in
    record { ordered = spans_ordered (λ k. IsSpanOfEnd paths (spec_at chains k).start) c.loop-chain.chain c.loop-chain.starts.items (λ k x h e. end_ordered paths (spec_at chains k).start x e) c.loop-chain.invariant.starts }

pub of-requires-3 : goal.of-requires-3
of-requires-3 c =
    let paths = c.args.index.now in
    let chains = c.args.chains.now in
    record { ordered = spans_ordered (λ k. IsSpanOfEnd paths (spec_at chains k).stop) c.loop-chain.chain c.loop-chain.stops.items (λ k x h e. end_ordered paths (spec_at chains k).stop x e) c.loop-chain.invariant.stops }

pub returns : goal.returns
returns c =
    let paths = c.args.index.now in
    let chains = c.args.chains.now in
    let runs = c.args.runs.now in
    let whole : length chains ≡ c.loop-chain.chain = omega arith in
    record {
      value = record {
        stretches = subst (λ (n : ℕ). AreSpansOf (λ k. IsSpanOfRun paths (run_at runs k)) n c.in_ok-of.field-0) (sym whole) (subst (λ (xs : List Span). AreSpansOf (λ k. IsSpanOfRun paths (run_at runs k)) c.loop-chain.chain xs) (sym c.in_ok-of.ensures.value) c.loop-chain.invariant.stretches);
        starts = subst (λ (n : ℕ). AreSpansOf (λ k. IsSpanOfEnd paths (spec_at chains k).start) n c.in_ok-of-2.field-0) (sym whole) (subst (λ (xs : List Span). AreSpansOf (λ k. IsSpanOfEnd paths (spec_at chains k).start) c.loop-chain.chain xs) (sym c.in_ok-of-2.ensures.value) c.loop-chain.invariant.starts);
        stops = subst (λ (n : ℕ). AreSpansOf (λ k. IsSpanOfEnd paths (spec_at chains k).stop) n c.in_ok-of-3.field-0) (sym whole) (subst (λ (xs : List Span). AreSpansOf (λ k. IsSpanOfEnd paths (spec_at chains k).stop) c.loop-chain.chain xs) (sym c.in_ok-of-3.ensures.value) c.loop-chain.invariant.stops);
      };
    }
