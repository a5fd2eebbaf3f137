use Rattle.std.proofs.Common.{Err}
use Rattle.std.proofs.lemmas.Result.{err_from_is_err_and}
use Rattle.stil_types.specs.declared.head.StilHead.{StilHead}
use Rattle.stil_calls.specs.declared.judging.Judging.TheVariants.{Form}
use Rattle.base_types.specs.FirstFault.{IsFirstFault}
use Rattle.base_types.proofs.FirstFaults.{fault_weaker}
use Rattle.stil_head.specs.Faults.{HoldsInHead}
use Rattle.stil_reader.specs.declared.stil.Judged.{Judged}
use Rattle.stil_reader.specs.Patterns.{HoldsBehind, HoldsInStil}
use Rattle.stil_reader.proofs.Heads.{head_within}
use Rattle.stil_reader.proofs.Only.{only_stil, first_in_head, first_in_patterns, no_stil_fault}
use Rattle.stil_reader.proofs.read.read_stil.Goals as goal

pub read_patterns-requires-clause-within : goal.read_patterns-requires-clause-within
read_patterns-requires-clause-within c = head_within c.args.bytes.now c.in_ok-head.head c.in_ok-head.ensures.value

pub returns-in_err-head-clause-first : goal.returns-in_err-head-clause-first
returns-in_err-head-clause-first c =
    let bytes = c.args.bytes.now in
    let p = err_from_is_err_and c.from_residual.result c.from_residual.ensures.1 in
    rw (p.1, p.2)
    (fault_weaker {X = StilHead} (Err c.in_err-head.field-0.0) (IsFirstFault (HoldsInHead bytes)) (IsFirstFault (HoldsInStil bytes)) (λ fault first. first_in_head bytes fault first) c.in_err-head.ensures.first)

pub returns-in_err-read_patterns-clause-first : goal.returns-in_err-read_patterns-clause-first
returns-in_err-read_patterns-clause-first c =
    let bytes = c.args.bytes.now in
    let head = c.in_ok-head.head in
    let p = err_from_is_err_and c.from_residual-in_err-read_patterns.result c.from_residual-in_err-read_patterns.ensures.1 in
    rw (p.1, p.2)
    (fault_weaker {X = Judged} (Err c.in_err-read_patterns.field-0.0) (HoldsBehind Form bytes head) (IsFirstFault (HoldsInStil bytes)) (λ fault h. first_in_patterns bytes head c.in_ok-head.ensures.value fault h)
    c.in_err-read_patterns.ensures.first)

pub returns-clause-only : goal.returns-clause-only
returns-clause-only c = only_stil c.args.bytes.now c.in_ok-head.head c.in_ok-head.ensures.value c.in_ok-read_patterns.field-0 c.in_ok-read_patterns.ensures.value

pub returns-clause-no_fault : goal.returns-clause-no_fault
returns-clause-no_fault c = no_stil_fault c.args.bytes.now c.in_ok-head.head c.in_ok-head.ensures.value c.in_ok-read_patterns.field-0 c.in_ok-read_patterns.ensures.value
