use Rattle.std.proofs.Common.{◌≡◌, ◌<◌, List}
use Rattle.std.specs.Prelude.{IfOk}
use Rattle.std.proofs.lemmas.Result.{IfOk-weaker}
use Rattle.stil_types.specs.declared.statement.ScanCall.{ScanCall}
use Rattle.stil_tester.specs.declared.symbol.Symbol.{Symbol}
use Rattle.stil_tester.specs.Shifting.{HasCells, IsCallFor, scan_call}
use Rattle.retarget.specs.Places.{longest}
use Rattle.retarget.specs.Judging.{IsAccepted}
use Rattle.retarget.specs.Retargeting.{KeepsLoads, KeepsCompares, WritesLoads, WritesCompares, AreFull}
use Rattle.retarget.proofs.Retargeted.{IsRetargeted, still_if_ok}
use Rattle.retarget.proofs.MovedCalls.{retargeted_if_ok, value_if_ok, still_value}
use Rattle.retarget.proofs.call.retarget_call.Goals as goal

pub returns-then-call-eq0-clause-accepted : goal.returns-then-call-eq0-clause-accepted
returns-then-call-eq0-clause-accepted c =
    still_if_ok c.args.map.now.0 c.args.map.now.1 c.args.call.now c.copy_of_call.result c.requires.call c.if-call-eq0.true c.copy_of_call.ensures

pub returns-then-call-eq0-clause-value : goal.returns-then-call-eq0-clause-value
returns-then-call-eq0-clause-value c =
    still_value c.args.map.now.0 c.args.map.now.1 c.args.call.now c.copy_of_call.result c.if-call-eq0.true c.copy_of_call.ensures

pub returns-clause-value : goal.returns-clause-value
returns-clause-value c =
    value_if_ok c.map.inside.old c.map.inside.new c.args.call.now c.args.map.now c.moved_call.result c.map.view_is c.moved_call.ensures

-- what the clauses of a call that shifts say, in one
retargeted : (c : goal.After-moved_call) → IfOk c.moved_call.result (λ (w : ScanCall). IsRetargeted c.args.map.now.0 c.args.map.now.1 c.args.call.now w)
retargeted c =
    retargeted_if_ok c.map.inside.old c.map.inside.new c.map.inside.shifts c.map.inside.route c.args.call.now c.args.map.now c.moved_call.result c.map.view_is c.map.invariant.0 c.requires.call c.requires.accepted c.if-call-eq0.false
    c.moved_call.ensures

pub returns-clause-meaning : goal.returns-clause-meaning
returns-clause-meaning c =
    IfOk-weaker c.moved_call.result (λ (w : ScanCall). IsRetargeted c.args.map.now.0 c.args.map.now.1 c.args.call.now w)
    (λ (w : ScanCall). (cells : List Symbol) → HasCells c.args.map.now.0 cells → scan_call c.args.map.now.1 cells w ≡ scan_call c.args.map.now.0 cells c.args.call.now) (λ w is. is.meaning) (retargeted c)

pub returns-clause-well_formed : goal.returns-clause-well_formed
returns-clause-well_formed c =
    IfOk-weaker c.moved_call.result (λ (w : ScanCall). IsRetargeted c.args.map.now.0 c.args.map.now.1 c.args.call.now w)
    (λ (w : ScanCall). IsCallFor c.args.map.now.1 w) (λ w is. is.well_formed) (retargeted c)

pub returns-clause-loads : goal.returns-clause-loads
returns-clause-loads c =
    IfOk-weaker c.moved_call.result (λ (w : ScanCall). IsRetargeted c.args.map.now.0 c.args.map.now.1 c.args.call.now w)
    (λ (w : ScanCall). 0 < c.args.call.now.shifts → KeepsLoads c.args.map.now.0 c.args.map.now.1 c.args.call.now w) (λ w is some. is.loads) (retargeted c)

pub returns-clause-compares : goal.returns-clause-compares
returns-clause-compares c =
    IfOk-weaker c.moved_call.result (λ (w : ScanCall). IsRetargeted c.args.map.now.0 c.args.map.now.1 c.args.call.now w)
    (λ (w : ScanCall). 0 < c.args.call.now.shifts → KeepsCompares c.args.map.now.0 c.args.map.now.1 c.args.call.now w) (λ w is some. is.compares) (retargeted c)

pub returns-clause-full : goal.returns-clause-full
returns-clause-full c =
    IfOk-weaker c.moved_call.result (λ (w : ScanCall). IsRetargeted c.args.map.now.0 c.args.map.now.1 c.args.call.now w)
    (λ (w : ScanCall). 0 < c.args.call.now.shifts → AreFull w (longest c.args.map.now.1)) (λ w is some. is.full) (retargeted c)

pub returns-clause-accepted : goal.returns-clause-accepted
returns-clause-accepted c =
    IfOk-weaker c.moved_call.result (λ (w : ScanCall). IsRetargeted c.args.map.now.0 c.args.map.now.1 c.args.call.now w)
    (λ (w : ScanCall). IsAccepted c.args.map.now.1 w) (λ w is. is.accepted) (retargeted c)

pub returns-clause-shifts : goal.returns-clause-shifts
returns-clause-shifts c =
    IfOk-weaker c.moved_call.result (λ (w : ScanCall). IsRetargeted c.args.map.now.0 c.args.map.now.1 c.args.call.now w)
    (λ (w : ScanCall). 0 < c.args.call.now.shifts → w.shifts ≡ longest c.args.map.now.1) (λ w is some. is.shifts) (retargeted c)

pub returns-clause-writes_loads : goal.returns-clause-writes_loads
returns-clause-writes_loads c =
    IfOk-weaker c.moved_call.result (λ (w : ScanCall). IsRetargeted c.args.map.now.0 c.args.map.now.1 c.args.call.now w)
    (λ (w : ScanCall). 0 < c.args.call.now.shifts → WritesLoads c.args.map.now.1 c.args.call.now w) (λ w is some. is.writes_loads) (retargeted c)

pub returns-clause-writes_compares : goal.returns-clause-writes_compares
returns-clause-writes_compares c =
    IfOk-weaker c.moved_call.result (λ (w : ScanCall). IsRetargeted c.args.map.now.0 c.args.map.now.1 c.args.call.now w)
    (λ (w : ScanCall). 0 < c.args.call.now.shifts → WritesCompares c.args.map.now.1 c.args.call.now w) (λ w is some. is.writes_compares) (retargeted c)
