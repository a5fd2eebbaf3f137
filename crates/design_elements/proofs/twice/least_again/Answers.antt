use Rattle.std.proofs.Common.{List, ℕ, ◌++◌, take, sym, ap, ◌∙◌, subst}
use Rattle.std.specs.List.{filter_map, flat_map}
use Rattle.std.proofs.lemmas.List.{take_all}
use Rattle.def_reader.specs.declared.design.ElementList.{ElementList}
use Rattle.def_reader.specs.declared.design.ScanChainText.{ScanChainText}
use Rattle.def_reader.specs.Faults.{StandsAgain}
use Rattle.def_reader.specs.Sound.{elements_in}
use Rattle.list_laws.specs.Leasts.{IsLeast}
use Rattle.list_laws.proofs.RowsMore.{flat_next}
use Rattle.design_elements.specs.Faults.{element_rows, all_rows}
use Rattle.design_elements.specs.Seen.{IsSeenElements, row_of}
use Rattle.design_elements.proofs.twice.least_again.Goals as goal

pub loop-chain-init : goal.loop-chain-init
loop-chain-init c = c.new-seen.ensures.value

pub loop-chain-preserved : goal.loop-chain-preserved
loop-chain-preserved c =
    let f = row_of c.args.cells.now.0 c.args.cells.now.1 c.chain-item.result.line in
    let before = all_rows c.args.cells.now.0 c.args.cells.now.1 (take c.loop-chain.chain-index c.args.chains.now) in
    subst (λ (l : List ((List ℕ × ℕ) × ℕ)). IsSeenElements c.add_lists.new.self l)
    (ap (λ (l : List ElementList). before ++ filter_map f (flat_map elements_in l)) c.as_slice.ensures.value
    ∙ sym (flat_next (element_rows c.args.cells.now.0 c.args.cells.now.1) c.args.chains.now c.loop-chain.chain-index c.chain-item.result c.loop-chain-test.true c.chain-item.is))
    (c.in_ok-add_lists.ensures.value _ c.loop-chain.invariant)

pub returns : goal.returns
returns c = record {
  value = subst (λ (l : List ScanChainText). IsLeast (StandsAgain (all_rows c.args.cells.now.0 c.args.cells.now.1 l)) c.loop-chain.seen.least) (take_all c.loop-chain.chain-index c.args.chains.now c.loop-chain-test.false)
      c.loop-chain.invariant.least;
}
