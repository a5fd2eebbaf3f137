use Rattle.std.proofs.Common.{List, ◌∷◌, [], ◌++◌, ap, sym, ◌∙◌, ◌+◌, append_assoc, map, arith, ◌≤◌, ◌-◌}
use Rattle.std.specs.Prelude.{min}
use Rattle.std.specs.List.{range_with_len}
use Rattle.chain_trace.specs.declared.path.Step.{Step}
use Rattle.plan_paths.specs.NewPaths.{step_in}
use Rattle.plan_paths.proofs.Filled.{run_more, run_whole}
use Rattle.plan_paths.proofs.runs.put_run.Goals as goal

pub loop-place-preserved : goal.loop-place-preserved
loop-place-preserved c =
    let u = c.args.unit in
    let place = c.loop-place.place in
    let f = step_in c.args.paths.now in
    let before = map f (map (λ k. (u.path, k)) (range_with_len u.first (min place (u.last + 1) - u.first))) in
    c.in_ok-push.ensures.ok
    ∙ ap (λ (s : List Step). s ++ c.step_in.result ∷ []) c.loop-place.invariant
    ∙ append_assoc c.args.steps.now before (c.step_in.result ∷ [])
    ∙ ap (λ (s : Step). c.args.steps.now ++ (before ++ s ∷ [])) c.step_in.ensures.value
    ∙ ap (λ (s : List Step). c.args.steps.now ++ s) (sym (run_more f u.path u.first (u.last + 1) place c.loop-place.auto.place c.loop-place-test.true))

pub returns : goal.returns
returns c =
    let u = c.args.unit in
    record { value = c.loop-place.invariant ∙ ap (λ (s : List Step). c.args.steps.now ++ s) (run_whole (step_in c.args.paths.now) u.path u.first (u.last + 1) c.loop-place.place (omega (arith, c.loop-place-test.false))) }
