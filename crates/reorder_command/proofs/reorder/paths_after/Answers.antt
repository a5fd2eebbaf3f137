use Rattle.std.proofs.Common.{◌≡◌, List, ap, ◌∙◌}
use Rattle.chain_trace.specs.declared.path.Path.{Path}
use Rattle.plan_paths.specs.NewPaths.{new_paths}
use Rattle.std.proofs.lemmas.Result.{IfOk-weaker}
use Rattle.reorder_command.specs.Planned.{AreNewPaths}
use Rattle.reorder_command.proofs.NewPaths.{are_new}
use Rattle.reorder_command.proofs.reorder.paths_after.Goals as goal

pub returns : goal.returns
returns c =
    let f = c.args.files.now in
    let plan = c.args.plan.now in
    record {
      new =
          IfOk-weaker c.new_paths.result (λ new. new.items ≡ new_paths c.as_slice.result.now f.rules plan) (λ new. AreNewPaths f plan new.items)
          (λ new is. are_new c.requires.checked.0 f c.requires.checked.1 plan c.requires.legal c.plan_law.ensures.plan c.pins_law.ensures.table c.edits_law.ensures.pins c.declared_law.ensures.law c.keeps_law.ensures.keeps new.items
          (is ∙ ap (λ (l : List Path). new_paths l f.rules plan) c.as_slice.ensures.value)) c.new_paths.ensures.value;
    }
