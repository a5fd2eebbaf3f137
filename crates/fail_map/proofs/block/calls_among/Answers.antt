use Rattle.std.proofs.Common.{◌++◌, ◌∷◌, [], ℕ, List, sym, ap, ◌∙◌}
use Rattle.stil_types.specs.declared.statement.ScanCall.{ScanCall}
use Rattle.stil_types.specs.declared.statement.BodyStatement.{BodyStatement}
use Rattle.fail_map.specs.Blocks.{read_calls}
use Rattle.fail_map.proofs.Blocks.{among_same, among_next, read_push}
use Rattle.fail_map.proofs.block.calls_among.Goals.{in-Some+in_ok-push, in_default}
use Rattle.fail_map.proofs.block.calls_among.Goals as goal

pub loop-statement-preserved : goal.loop-statement-preserved
loop-statement-preserved c =
    let body : List BodyStatement = c.args.body.now in
    let i : ℕ = c.loop-statement.statement-index in
    let d : BodyStatement = c.statement-item.result in
    elim c.match-statement.branch [
      | in-Some+in_ok-push w ↦
          ap read_calls (ap (λ v. v.items) w.calls-is ∙ w.in_ok-push.ensures.items)
          ∙ read_push c.loop-statement.calls.items _
          ∙ ap (λ (cs : List ScanCall). cs ++ w.in-Some.call ∷ []) c.loop-statement.invariant
          ∙ sym (among_next body i d w.in-Some.call c.loop-statement-test.true (ap (λ (s : BodyStatement). s.call) (sym c.statement-item.is) ∙ w.in-Some.is))
      | in_default w ↦
          ap (λ v. read_calls v.items) w.calls-is
          ∙ c.loop-statement.invariant
          ∙ sym (among_same body i d c.loop-statement-test.true (ap (λ (s : BodyStatement). s.call) (sym c.statement-item.is) ∙ w.in_default.is))
    ]
