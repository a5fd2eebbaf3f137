use Rattle.std.proofs.Common.{◌||◌, ap, List, ℕ}
use Rattle.stil_head.specs.Unsupported.{is_name_of, scan_names}
use Rattle.stil_head.proofs.Rows.{scan_more, scan_last}
use Rattle.stil_head.proofs.unsupported.scan_names.Goals as goal

pub loop-callee-init : goal.loop-callee-init
loop-callee-init c q = ap (λ (ns : List (List ℕ)). is_name_of ns q || is_name_of (scan_names c.args.callees.now) q) c.new-names.ensures.value

pub loop-callee-preserved : goal.loop-callee-preserved
loop-callee-preserved c q =
    scan_more q c.args.callees.now c.loop-callee.callee-index c.callee-item.result (is_name_of c.loop-callee.names q) (is_name_of c.add_scan.new.names q) _ c.loop-callee-test.true c.callee-item.is (c.in_ok-add_scan.ensures.value q) (c.loop-callee.invariant q)

pub returns : goal.returns
returns c = record { value = λ q. scan_last q c.args.callees.now c.loop-callee.callee-index (is_name_of c.loop-callee.names q) _ c.loop-callee-test.false (c.loop-callee.invariant q) }
