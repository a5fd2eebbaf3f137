use Rattle.std.proofs.Common.{◌≡◌, ◌≤◌, ℕ, [], length, take, Err, refl, sym, subst}
use Rattle.std.proofs.lemmas.Bool.{true≢false}
use Rattle.std.proofs.lemmas.List.{length-take-le}
use Rattle.std.proofs.lemmas.Result.{err_from_is_err_and}
use Rattle.base_types.proofs.FirstFaults.{fault_weaker}
use Rattle.stil_calls.specs.Parts.{judge_by}
use Rattle.stil_calls.specs.Statements.{IsFaultOf}
use Rattle.stil_reader.specs.declared.step.Piece.{Piece}
use Rattle.stil_reader.specs.Sayings.{told_by}
use Rattle.stil_reader.proofs.Steps.{resumes-begin, gap-step, part-step, stop-fault, stop-nothing, part-fault, part-nothing, is-done}
use Rattle.stil_reader.proofs.step.next.Goals as goal

pub decide-requires-clause-resumes : goal.decide-requires-clause-resumes
decide-requires-clause-resumes c = resumes-begin c.args.point.place c.args.rest.now c.begin_at.result c.begin_at.ensures.value

pub unreachable-requires : goal.unreachable-requires
unreachable-requires c = true≢false (c.in-Want.ensures.value (judge_by c.args.judging c.args.head.now)).0.unended

pub slice_bounds-read_part-end : goal.slice_bounds-read_part-end
slice_bounds-read_part-end c =
    let is = c.in-Part.ensures.value (judge_by c.args.judging c.args.head.now) in
    sym (length-take-le c.part_len-len.result c.args.rest.now (subst (λ (n : ℕ). n ≤ length c.args.rest.now) (sym c.part_len-len.ensures.value) is.within))

pub returns-in_err-piece-in-Part-clause-first : goal.returns-in_err-piece-in-Part-clause-first
returns-in_err-piece-in-Part-clause-first c =
    let judging = c.args.judging in
    let head = c.args.head.now in
    let point = c.args.point in
    let rest = c.args.rest.now in
    let p = err_from_is_err_and c.from_residual.result c.from_residual.ensures.1 in
    rw (p.1, p.2)
    (fault_weaker {X = Piece} (Err c.in_err-piece-in-Part.field-0.0) (λ fault. IsFaultOf (judge_by judging head point c.in-Part.part (take c.part_len-len.result rest)) fault) (λ fault. IsFaultOf (told_by judging head point rest).fault fault)
    (λ fault h. part-fault judging head point rest c.in-Part.part c.in-Part.next c.part_len-len.result fault c.part_len-len.ensures.value (c.in-Part.ensures.value (judge_by judging head)) h)
    c.in_err-piece-in-Part.ensures.first)

pub returns-in-Gap-clause-value : goal.returns-in-Gap-clause-value
returns-in-Gap-clause-value c = gap-step c.args.judging c.args.head.now c.args.point c.args.rest.now c.in-Gap.len c.in-Gap.next (c.in-Gap.ensures.value (judge_by c.args.judging c.args.head.now))

pub returns-in_ok-piece-in-Part-clause-value : goal.returns-in_ok-piece-in-Part-clause-value
returns-in_ok-piece-in-Part-clause-value c =
    part-step c.args.judging c.args.head.now c.args.point c.args.rest.now c.in-Part.part c.in-Part.next c.in_ok-piece-in-Part.piece c.part_len-len.result c.part_len-len.ensures.value
    (c.in-Part.ensures.value (judge_by c.args.judging c.args.head.now)) c.in_ok-piece-in-Part.ensures.value

pub returns-in-Stop-clause-first : goal.returns-in-Stop-clause-first
returns-in-Stop-clause-first c =
    rw c.read_fault.ensures.value (c.in-Stop.fault, stop-fault c.args.judging c.args.head.now c.args.point c.args.rest.now c.in-Stop.fault (c.in-Stop.ensures.value (judge_by c.args.judging c.args.head.now)), refl)

pub returns-in-End-clause-value : goal.returns-in-End-clause-value
returns-in-End-clause-value c = is-done c.args.judging c.args.head.now c.args.point c.args.rest.now (c.in-End.ensures.value (judge_by c.args.judging c.args.head.now))

pub returns-in_err-piece-in-Part-clause-nothing : goal.returns-in_err-piece-in-Part-clause-nothing
returns-in_err-piece-in-Part-clause-nothing c =
    let judging = c.args.judging in
    let head = c.args.head.now in
    let point = c.args.point in
    let rest = c.args.rest.now in
    let p = err_from_is_err_and c.from_residual.result c.from_residual.ensures.1 in
    rw (p.1, p.2)
    (fault_weaker {X = Piece} (Err c.in_err-piece-in-Part.field-0.0) (λ fault. IsFaultOf (judge_by judging head point c.in-Part.part (take c.part_len-len.result rest)) fault) (λ fault. (told_by judging head point rest).says ≡ [])
    (λ fault h. part-nothing judging head point rest c.in-Part.part c.in-Part.next c.part_len-len.result fault c.part_len-len.ensures.value (c.in-Part.ensures.value (judge_by judging head)) h)
    c.in_err-piece-in-Part.ensures.first)

pub returns-in-Stop-clause-nothing : goal.returns-in-Stop-clause-nothing
returns-in-Stop-clause-nothing c =
    rw c.read_fault.ensures.value (stop-nothing c.args.judging c.args.head.now c.args.point c.args.rest.now c.in-Stop.fault (c.in-Stop.ensures.value (judge_by c.args.judging c.args.head.now)))
