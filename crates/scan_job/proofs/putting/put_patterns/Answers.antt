use Rattle.std.proofs.Common.{◌++◌, map, ◌∙◌}
use Rattle.std.proofs.lemmas.Result.{err_from_is_err_and}
use Rattle.desk_io.proofs.Steps.{names_then}
use Rattle.stil_reader.specs.Sayings.{GapByte, named}
use Rattle.scan_job.specs.Retargeting.{form_by}
use Rattle.scan_job.proofs.PutSteps.{gap_bytes, gap_progress, same_then, same_put, begun, not_begun, stopped_at, ended_at, further, failed_at, stated_further, stated_stopped}
use Rattle.scan_job.proofs.putting.put_patterns.Goals as goal

pub returns-in_err-put_all-clause-put : goal.returns-in_err-put_all-clause-put
returns-in_err-put_all-clause-put g c =
    let p = err_from_is_err_and c.from_residual.result c.from_residual.ensures.1 in
    rw (p.1, p.2) (not_begun c.args.head_text.now c.args.retargeting.now c.args.input.now (g.D.Desk.state c.args.desk.now) (g.D.Desk.state c.put_all.new.desk) c.put_all.ensures.elsewhere c.requires.open c.in_err-put_all.ensures.failed)

pub patterns-init : goal.patterns-init
patterns-init g c = record {
  written = begun c.args.head_text.now c.args.retargeting.now c.args.input.now (g.D.Desk.state c.args.desk.now) (g.D.Desk.state c.put_all.new.desk) c.put_all.ensures.elsewhere c.requires.draws c.requires.behind_head c.requires.open c.in_ok-put_all.ensures.ok;
  elsewhere = λ slot ns other. c.put_all.ensures.elsewhere slot other;
  names = c.put_all.ensures.names;
}

pub returns-in_err-text-clause-put : goal.returns-in_err-text-clause-put
returns-in_err-text-clause-put g c =
    let a = g.D.Desk.state c.args.desk.now in
    let m = g.D.Desk.state c.patterns.desk in
    let k = g.D.Desk.state c.next.new.desk in
    let p = err_from_is_err_and c.from_residual-in_err-text.result c.from_residual-in_err-text.ensures.1 in
    rw (p.1, p.2) (stopped_at c.args.head_text.now c.args.retargeting.now c.patterns.retargeting c.args.input.now c.patterns.input a m c.patterns.invariant.written c.next.new.self k c.next.ensures.elsewhere c.in_err-text.field-0.0 c.head.result.now c.head.ensures.value c.in_err-text.ensures.gives)

pub returns-in_err-put_all-in-Gap-clause-put : goal.returns-in_err-put_all-in-Gap-clause-put
returns-in_err-put_all-in-Gap-clause-put g c =
    let a = g.D.Desk.state c.args.desk.now in
    let m = g.D.Desk.state c.patterns.desk in
    let k = g.D.Desk.state c.next.new.desk in
    let p = err_from_is_err_and c.from_residual-in_err-put_all-in-Gap.result c.from_residual-in_err-put_all-in-Gap.ensures.1 in
    let says = rw c.in-Gap.is at c.in_ok-text.ensures.gives in
    let form = c.bytes-in-Gap.ensures.value ∙ gap_bytes (form_by c.args.head_text.now c.patterns.retargeting) c.in-Gap.text c.in-Gap._pattern in
    rw (p.1, p.2)
    (failed_at c.args.head_text.now c.args.retargeting.now c.patterns.retargeting c.args.input.now c.patterns.input a m c.patterns.invariant.written c.next.new.self k c.next.ensures.elsewhere c.head.result.now c.head.ensures.value c.patterns.retargeting (map GapByte c.in-Gap.text ++ named c.in-Gap._pattern) c.bytes-in-Gap.result.now says form
    (g.D.Desk.state c.put_all-in-Gap.new.desk) c.put_all-in-Gap.ensures.elsewhere c.in_err-put_all-in-Gap.ensures.failed)

pub patterns-preserved-in-Gap : goal.patterns-preserved-in-Gap
patterns-preserved-in-Gap g c =
    let a = g.D.Desk.state c.args.desk.now in
    let m = g.D.Desk.state c.patterns.desk in
    let k = g.D.Desk.state c.next.new.desk in
    let l = g.D.Desk.state c.put_all-in-Gap.new.desk in
    let says = rw c.in-Gap.is at c.in_ok-text.ensures.gives in
    let form = c.bytes-in-Gap.ensures.value ∙ gap_bytes (form_by c.args.head_text.now c.patterns.retargeting) c.in-Gap.text c.in-Gap._pattern in
    record {
      written = further c.args.head_text.now c.args.retargeting.now c.patterns.retargeting c.args.input.now c.patterns.input a m c.patterns.invariant.written c.next.new.self k c.next.ensures.elsewhere c.head.result.now c.head.ensures.value c.patterns.retargeting (map GapByte c.in-Gap.text ++ named c.in-Gap._pattern) c.bytes-in-Gap.result.now says form l
          c.put_all-in-Gap.ensures.elsewhere (gap_progress c.in-Gap.text c.in-Gap._pattern c.patterns.retargeting) c.in_ok-put_all-in-Gap.ensures.ok;
      elsewhere = same_put a k l (same_then a m k c.patterns.invariant.elsewhere c.next.ensures.elsewhere) c.put_all-in-Gap.ensures.elsewhere;
      names = names_then _ _ _ (names_then _ _ _ c.patterns.invariant.names c.next.ensures.names) c.put_all-in-Gap.ensures.names;
    }

pub returns-in_err-put_statement-in-Statement-clause-put : goal.returns-in_err-put_statement-in-Statement-clause-put
returns-in_err-put_statement-in-Statement-clause-put g c =
    let a = g.D.Desk.state c.args.desk.now in
    let m = g.D.Desk.state c.patterns.desk in
    let k = g.D.Desk.state c.next.new.desk in
    let p = err_from_is_err_and c.from_residual-in_err-put_statement-in-Statement.result c.from_residual-in_err-put_statement-in-Statement.ensures.1 in
    let says = rw c.in-Statement.is at c.in_ok-text.ensures.gives in
    rw (p.1, p.2)
    (stated_stopped c.args.head_text.now c.args.retargeting.now c.patterns.retargeting c.args.input.now c.patterns.input a m c.patterns.invariant.written c.next.new.self k c.next.ensures.elsewhere c.head.result.now c.head.ensures.value c.in-Statement.statement says.0
    c.put_statement.new.retargeting (g.D.Desk.state c.put_statement.new.desk) c.put_statement.ensures.elsewhere c.in_err-put_statement-in-Statement.field-0.0 c.in_err-put_statement-in-Statement.ensures.put)

pub returns-in_err-put_statement-in-Statement-clause-elsewhere : goal.returns-in_err-put_statement-in-Statement-clause-elsewhere
returns-in_err-put_statement-in-Statement-clause-elsewhere g c =
    let a = g.D.Desk.state c.args.desk.now in
    let m = g.D.Desk.state c.patterns.desk in
    let k = g.D.Desk.state c.next.new.desk in
    let l = g.D.Desk.state c.put_statement.new.desk in
    same_put a k l (same_then a m k c.patterns.invariant.elsewhere c.next.ensures.elsewhere) c.put_statement.ensures.elsewhere

pub patterns-preserved : goal.patterns-preserved
patterns-preserved g c =
    let a = g.D.Desk.state c.args.desk.now in
    let m = g.D.Desk.state c.patterns.desk in
    let k = g.D.Desk.state c.next.new.desk in
    let l = g.D.Desk.state c.put_statement.new.desk in
    let says = rw c.in-Statement.is at c.in_ok-text.ensures.gives in
    record {
      written = stated_further c.args.head_text.now c.args.retargeting.now c.patterns.retargeting c.args.input.now c.patterns.input a m c.patterns.invariant.written c.next.new.self k c.next.ensures.elsewhere c.head.result.now c.head.ensures.value c.in-Statement.statement says.0
          c.put_statement.new.retargeting l c.put_statement.ensures.elsewhere c.in_ok-put_statement-in-Statement.ensures.put;
      elsewhere = same_put a k l (same_then a m k c.patterns.invariant.elsewhere c.next.ensures.elsewhere) c.put_statement.ensures.elsewhere;
      names = names_then _ _ _ (names_then _ _ _ c.patterns.invariant.names c.next.ensures.names) c.put_statement.ensures.names;
    }

pub returns-in-End-clause-put : goal.returns-in-End-clause-put
returns-in-End-clause-put g c =
    let a = g.D.Desk.state c.args.desk.now in
    let m = g.D.Desk.state c.patterns.desk in
    let k = g.D.Desk.state c.next.new.desk in
    let ended = rw c.in-End.is at c.in_ok-text.ensures.gives in
    ended_at c.args.head_text.now c.args.retargeting.now c.patterns.retargeting c.args.input.now c.patterns.input a m c.patterns.invariant.written c.next.new.self k c.next.ensures.elsewhere c.figures.result c.head.result.now c.head.ensures.value ended c.figures.ensures.value
