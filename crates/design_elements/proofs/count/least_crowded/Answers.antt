use Rattle.std.proofs.Common.{List, ◌++◌, ◌∷◌, [], nat_lt, length, min, ◌+◌, refl, ap, ◌∙◌}
use Rattle.std.specs.List.{flat_map}
use Rattle.def_reader.specs.declared.design.ElementList.{ElementList}
use Rattle.def_reader.specs.declared.design.ScanChainText.{ScanChainText}
use Rattle.def_reader.specs.Sound.{elements_in}
use Rattle.design_elements.specs.Faults.{element_count}
use Rattle.design_elements.proofs.BadChains.{bad_next, bad_none, bad_all}
use Rattle.design_elements.proofs.Counts.{chains_next, crowded}
use Rattle.design_elements.proofs.count.least_crowded.Goals as goal

pub loop-chain-init : goal.loop-chain-init
loop-chain-init c = record { count = refl; least = bad_none (λ (front : List ScanChainText) chain. nat_lt 65536 (element_count (front ++ chain ∷ []))) }

pub loop-chain-preserved : goal.loop-chain-preserved
loop-chain-preserved c =
    let chains = c.args.chains.now in
    let i = c.loop-chain.chain-index in
    let chain = c.chain-item.result in
    let more = c.counted-count.ensures.value ∙ ap (λ (l : List ElementList). min (c.loop-chain.count + length (flat_map elements_in l)) 65537) c.as_slice.ensures.value in
    record {
      count = chains_next chains i chain c.loop-chain.count c.counted-count.result c.loop-chain-test.true c.chain-item.is c.loop-chain.invariant.count more;
      least = rw (c.lesser-least.ensures.value, c.line_if.ensures.value)
          (bad_next (λ (front : List ScanChainText) x. nat_lt 65536 (element_count (front ++ x ∷ []))) chains i chain c.loop-chain.least _ c.loop-chain-test.true c.chain-item.is
          (crowded chains i chain c.loop-chain.count c.counted-count.result c.loop-chain.invariant.count more) c.loop-chain.invariant.least);
    }

pub returns : goal.returns
returns c = record {
  value = bad_all (λ (front : List ScanChainText) chain. nat_lt 65536 (element_count (front ++ chain ∷ []))) c.args.chains.now c.loop-chain.chain-index c.loop-chain.least c.loop-chain-test.false c.loop-chain.invariant.least;
}
