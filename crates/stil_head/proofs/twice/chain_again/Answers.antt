use Rattle.std.proofs.Common.{◌∙◌, ◌||◌, ap, map, List, ℕ}
use Rattle.std.specs.Str.{bytes_eq}
use Rattle.list_laws.specs.Leasts.{least_of}
use Rattle.stil_head.specs.Twice.{chain_row}
use Rattle.stil_head.specs.Unsupported.{is_name_of}
use Rattle.stil_head.proofs.Rows.{first_names, map_more, map_last}
use Rattle.stil_head.proofs.twice.chain_again.Goals as goal

pub loop-chain-init : goal.loop-chain-init
loop-chain-init c = ap least_of (first_names c.new-names.result c.new-names.ensures.value (map chain_row c.args.chains.now))

pub loop-chain-preserved : goal.loop-chain-preserved
loop-chain-preserved c =
    map_more chain_row c.args.chains.now c.loop-chain.chain-index c.chain-item.result (is_name_of c.loop-chain.names) (is_name_of c.add.new.self) c.loop-chain.least c.lesser_place-least.result c.found_if.result c.in_ok-again.again _
    c.loop-chain-test.true c.chain-item.is (λ q. c.in_ok-again.ensures.names q ∙ ap (λ (l : List ℕ). is_name_of c.loop-chain.names q || bytes_eq q l) c.bytes.ensures.value) (c.in_ok-again.ensures.known ∙ ap (is_name_of c.loop-chain.names) c.bytes.ensures.value) c.found_if.ensures.value c.lesser_place-least.ensures.value c.loop-chain.invariant

pub returns : goal.returns
returns c = record {
  value = map_last chain_row c.args.chains.now c.loop-chain.chain-index (is_name_of c.loop-chain.names) c.loop-chain.least (map chain_row c.args.chains.now) c.loop-chain-test.false c.loop-chain.invariant;
}
