use Rattle.std.proofs.Common.{◌≡◌, ◌+◌, List, [], ap, sym, ◌∙◌, length, subst}
use Rattle.chain_trace.specs.declared.path.Path.{Path}
use Rattle.chain_trace.specs.declared.path.Step.{Step}
use Rattle.plan_paths.specs.NewPaths.{path_in}
use Rattle.plan_paths.specs.Owners.{owners, AreUnmarked}
use Rattle.plan_paths.proofs.Filled.{path_is}
use Rattle.plan_paths.proofs.Owned.{unmarked_more}
use Rattle.plan_paths.proofs.owners.unmarked.Goals as goal

pub loop-path-preserved : goal.loop-path-preserved
loop-path-preserved c =
    let k = c.loop-path.path-index in
    let paths = c.args.paths.now in
    let row = c.in_ok-unmarked_row.field-0 in
    let path = path_is paths k c.path-item.result c.loop-path-test.true c.path-item.is in
    let is : row.items ≡ owners [] k (length (path_in paths k).steps) =
    c.in_ok-unmarked_row.ensures.value k ∙ ap (λ (steps : List Step). owners [] k (length steps)) (c.as_slice.ensures.value ∙ ap (λ (p : Path). p.steps) path) in
    subst (AreUnmarked paths (k + 1)) (sym c.in_ok-push.ensures.items) (unmarked_more paths k c.loop-path.rows.items row c.loop-path.invariant is)
