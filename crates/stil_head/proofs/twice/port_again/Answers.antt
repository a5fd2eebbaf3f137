use Rattle.std.proofs.Common.{◌∙◌, ◌||◌, ap, refl, List, ℕ}
use Rattle.std.specs.Str.{bytes_eq}
use Rattle.std.specs.List.{flat_map}
use Rattle.list_laws.specs.Leasts.{least_of}
use Rattle.stil_head.specs.Twice.{port_rows}
use Rattle.stil_head.specs.Unsupported.{is_name_of}
use Rattle.stil_head.proofs.Rows.{first_names, both_more, both_last}
use Rattle.stil_head.proofs.twice.port_again.Goals as goal

pub loop-chain-init : goal.loop-chain-init
loop-chain-init c = ap least_of (first_names c.new-names.result c.new-names.ensures.value (flat_map port_rows c.args.chains.now))

pub loop-chain-preserved : goal.loop-chain-preserved
loop-chain-preserved c =
    both_more port_rows c.args.chains.now c.loop-chain.chain-index c.chain-item.result (c.chain-item.result.decl.scan_in, c.chain-item.result.place) (c.chain-item.result.decl.scan_out, c.chain-item.result.place)
    (is_name_of c.loop-chain.names) (is_name_of c.add.new.self) (is_name_of c.add-in-loop-chain.new.self) c.loop-chain.least c.lesser_place-least.result c.lesser_place-least-in-loop-chain.result c.found_if.result c.found_if-in-loop-chain.result c.in_ok-again.again c.in_ok-again-2.again _
    c.loop-chain-test.true c.chain-item.is refl (λ q. c.in_ok-again.ensures.names q ∙ ap (λ (l : List ℕ). is_name_of c.loop-chain.names q || bytes_eq q l) c.bytes.ensures.value) (c.in_ok-again.ensures.known ∙ ap (is_name_of c.loop-chain.names) c.bytes.ensures.value) c.found_if.ensures.value c.lesser_place-least.ensures.value
    (λ q. c.in_ok-again-2.ensures.names q ∙ ap (λ (l : List ℕ). is_name_of c.add.new.self q || bytes_eq q l) c.bytes-in-loop-chain.ensures.value) (c.in_ok-again-2.ensures.known ∙ ap (is_name_of c.add.new.self) c.bytes-in-loop-chain.ensures.value) c.found_if-in-loop-chain.ensures.value c.lesser_place-least-in-loop-chain.ensures.value c.loop-chain.invariant

pub returns : goal.returns
returns c = record {
  value = both_last port_rows c.args.chains.now c.loop-chain.chain-index (is_name_of c.loop-chain.names) c.loop-chain.least (flat_map port_rows c.args.chains.now) c.loop-chain-test.false c.loop-chain.invariant;
}
