use Rattle.std.proofs.Common.{get_or, arith, ap, ◌∙◌}
use Rattle.def_syntax.specs.declared.design.Located.{Located}
use Rattle.def_syntax.specs.declared.chain.Chain.{Chain}
use Rattle.def_edit.specs.declared.chains.NewChain.{NewChain}
use Rattle.def_edit.specs.NewChains.{chain_layout}
use Rattle.def_edit.proofs.Steps.{next_chain, all_chains}
use Rattle.def_edit.proofs.layouts.chains_words.Goals as goal

pub loop-place-preserved : goal.loop-place-preserved
loop-place-preserved c =
    let components = c.args.components.now in
    let new = c.index-news-place.result in
    next_chain components c.args.chains.now c.args.news.now c.loop-place.place c.index-chains-place.result new c.loop-place.words.items c.push.new.self.items c.in_ok-chain_words.field-0 _ c.loop-place-test.true (omega (arith, c.requires.long, c.loop-place-test.true))
    (c.in_ok-chain_words.ensures.value ∙ ap (λ (n : NewChain). chain_layout components c.index-chains-place.result.statement n) c.index-news-place.is ∙ ap (λ (x : Located Chain). chain_layout components x.statement (get_or c.args.news.now c.loop-place.place new)) c.index-chains-place.is)
    c.in_ok-push.ensures.items c.loop-place.invariant

pub returns : goal.returns
returns c = record { value = all_chains c.args.components.now c.args.chains.now c.args.news.now c.loop-place.place c.loop-place.words.items _ c.loop-place-test.false c.loop-place.invariant }
