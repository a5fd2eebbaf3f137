use Rattle.std.proofs.Common.{ℕ, List, Err, subst}
use Rattle.std.proofs.lemmas.Result.{err_from_is_err_and}
use Rattle.base_types.specs.declared.fault.Fault.{Fault}
use Rattle.base_types.specs.FirstFault.{IsFirstFault, IfFault}
use Rattle.declared_chains.specs.Faults.{HoldsBeforePatterns}
use Rattle.play_command.specs.Progress.{Progress, IsSetUp}
use Rattle.scan_job.proofs.Played.{head_stopped, stopped_before, played_whole}
use Rattle.scan_job.proofs.playing.play_stil.Goals as goal

pub returns-in_err-head-clause-played : goal.returns-in_err-head-clause-played
returns-in_err-head-clause-played g c =
    let p = err_from_is_err_and c.from_residual-in_err-head.result c.from_residual-in_err-head.ensures.1 in
    rw (p.1, p.2)
    (head_stopped c.args.table.now c.args.verilog.now c.args.device c.in_ok-input.input c.next_head.new.self _ _ c.in_ok-input.ensures.value c.in_err-head.field-0.0 c.in_err-head.ensures.gives)

pub returns-in_err-playing-clause-played : goal.returns-in_err-playing-clause-played
returns-in_err-playing-clause-played g c =
    let p = err_from_is_err_and c.from_residual-in_err-playing.result c.from_residual-in_err-playing.ensures.1 in
    let t = c.args.table.now in
    let v = c.args.verilog.now in
    let fault = c.in_err-playing.field-0.0 in
    let first = subst (λ (text : List ℕ). IfFault {X = Progress} (Err fault) (IsFirstFault (HoldsBeforePatterns t v text))) c.bytes.ensures.value c.in_err-playing.ensures.fault in
    rw (p.1, p.2)
    (stopped_before t v c.in_ok-head.head c.in_ok-input.input c.next_head.new.self _ _ c.in_ok-input.ensures.value c.in_ok-head.ensures.gives.1 c.args.device fault first)

pub play_patterns-requires-clause-draws : goal.play_patterns-requires-clause-draws
play_patterns-requires-clause-draws g c = (c.in_ok-head.ensures.gives.1 c.in_ok-playing.playing.head).draws

pub play_patterns-requires-clause-behind_head : goal.play_patterns-requires-clause-behind_head
play_patterns-requires-clause-behind_head g c = (c.in_ok-head.ensures.gives.1 c.in_ok-playing.playing.head).behind

pub returns-clause-played : goal.returns-clause-played
returns-clause-played g c =
    let t = c.args.table.now in
    let v = c.args.verilog.now in
    let d = c.args.device in
    let p = c.in_ok-playing.playing in
    let set = subst (λ (text : List ℕ). IsSetUp t v text d p) c.bytes.ensures.value c.in_ok-playing.ensures.set_up in
    let none = subst (λ (text : List ℕ). (f : Fault) → HoldsBeforePatterns t v text f → ⊥) c.bytes.ensures.value c.in_ok-playing.ensures.no_fault in
    played_whole t v c.in_ok-head.head c.in_ok-input.input c.next_head.new.self _ _ c.in_ok-input.ensures.value c.in_ok-head.ensures.gives.1 d p set none
    c.progress_law.ensures.law _ c.play_patterns.result c.play_patterns.ensures.played
