use Rattle.std.proofs.Common.{◌∙◌, ◌+◌, refl, drop}
use Rattle.std.proofs.lemmas.List.{drop_all}
use Rattle.stil_blocks.specs.declared.chain.ReadChain.{ReadChain}
use Rattle.list_laws.specs.Leasts.{place_if}
use Rattle.list_laws.proofs.Leasts.{more_if, no_more}
use Rattle.stil_head.proofs.Rows.{cut_at}
use Rattle.stil_head.proofs.unsupported.out_length_place.Goals as goal

pub loop-chain-preserved : goal.loop-chain-preserved
loop-chain-preserved c =
    let chains = c.args.chains.now in
    let i = c.loop-chain.chain-index in
    let x = c.chain-item.result in
    more_if (λ (r : ReadChain). r.out_length) (λ (r : ReadChain). r.place) c.loop-chain.least c.lesser_place-least.result c.found_if.result x.out_length x.place x (drop (i + 1) chains) (drop i chains)
    (cut_at chains i x c.loop-chain-test.true c.chain-item.is) refl refl c.found_if.ensures.value c.lesser_place-least.ensures.value ∙ c.loop-chain.invariant

pub returns : goal.returns
returns c = record {
  value = no_more (λ (r : ReadChain). place_if r.out_length r.place) c.loop-chain.least _ (drop c.loop-chain.chain-index c.args.chains.now) (drop_all c.loop-chain.chain-index c.args.chains.now c.loop-chain-test.false) c.loop-chain.invariant;
}
