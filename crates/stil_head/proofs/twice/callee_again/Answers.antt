use Rattle.std.proofs.Common.{◌∙◌, ◌||◌, ap, map, List, ℕ}
use Rattle.std.specs.Str.{bytes_eq}
use Rattle.list_laws.specs.Leasts.{least_of}
use Rattle.stil_head.specs.Twice.{callee_row}
use Rattle.stil_head.specs.Unsupported.{is_name_of}
use Rattle.stil_head.proofs.Rows.{first_names, map_more, map_last}
use Rattle.stil_head.proofs.twice.callee_again.Goals as goal

pub loop-callee-init : goal.loop-callee-init
loop-callee-init c = ap least_of (first_names c.new-names.result c.new-names.ensures.value (map callee_row c.args.callees.now))

pub loop-callee-preserved : goal.loop-callee-preserved
loop-callee-preserved c =
    map_more callee_row c.args.callees.now c.loop-callee.callee-index c.callee-item.result (is_name_of c.loop-callee.names) (is_name_of c.add.new.self) c.loop-callee.least c.lesser_place-least.result c.found_if.result c.in_ok-again.again _
    c.loop-callee-test.true c.callee-item.is (λ q. c.in_ok-again.ensures.names q ∙ ap (λ (l : List ℕ). is_name_of c.loop-callee.names q || bytes_eq q l) c.bytes.ensures.value) (c.in_ok-again.ensures.known ∙ ap (is_name_of c.loop-callee.names) c.bytes.ensures.value) c.found_if.ensures.value c.lesser_place-least.ensures.value c.loop-callee.invariant

pub returns : goal.returns
returns c = record {
  value = map_last callee_row c.args.callees.now c.loop-callee.callee-index (is_name_of c.loop-callee.names) c.loop-callee.least (map callee_row c.args.callees.now) c.loop-callee-test.false c.loop-callee.invariant;
}
