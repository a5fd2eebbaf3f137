use Rattle.std.proofs.Common.{List, ◌∷◌, [], ◌++◌, ap, sym, ◌∙◌, ◌+◌, ◌-◌, map, arith}
use Rattle.std.specs.Prelude.{min}
use Rattle.std.specs.List.{range_with_len}
use Rattle.chain_trace.specs.declared.path.Step.{Step}
use Rattle.plan_paths.specs.NewPaths.{step_in}
use Rattle.plan_paths.proofs.Filled.{run_more, run_whole}
use Rattle.def_writer.proofs.units.run_steps.Goals as goal

pub loop-place-preserved : goal.loop-place-preserved
loop-place-preserved c =
    let u = c.args.unit in
    let place = c.loop-place.place in
    let f = step_in c.args.paths.now in
    let before = map f (map (λ k. (u.path, k)) (range_with_len u.first (min place (u.last + 1) - u.first))) in
    c.in_ok-push.ensures.items
    ∙ ap (λ (s : List Step). s ++ c.step_in.result ∷ []) c.loop-place.invariant
    ∙ ap (λ (s : Step). before ++ s ∷ []) c.step_in.ensures.value
    ∙ sym (run_more f u.path u.first (u.last + 1) place c.loop-place.auto.place c.loop-place-test.true)

pub returns : goal.returns
returns c =
    let u = c.args.unit in
    record { value = c.loop-place.invariant ∙ run_whole (step_in c.args.paths.now) u.path u.first (u.last + 1) c.loop-place.place (omega (arith, c.loop-place-test.false)) }
