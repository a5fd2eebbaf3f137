use Rattle.std.proofs.Common.{◌<◌, List, length, get_or, subst, ap, ◌∙◌, arith}
use Rattle.std.proofs.lemmas.List.{get_or_default}
use Rattle.chain_rules.specs.declared.spec.StepSpec.{StepSpec}
use Rattle.chain_rules.specs.declared.spec.PathSpec.{PathSpec}
use Rattle.chain_rules.specs.Stretches.{no_path, no_step}
use Rattle.chain_rules.proofs.Indexed.{places_more, places_next}
use Rattle.chain_rules.proofs.index.put_path.Goals as goal

pub loop-place-preserved : goal.loop-place-preserved
loop-place-preserved c =
    let paths = c.args.paths.now in
    let n = c.args.path in
    let k = c.loop-place.place in
    let steps = c.as_slice-steps.ensures.value ∙ ap (λ (p : PathSpec). p.steps) (get_or_default paths n c.index-paths-path.result no_path c.requires.path) in
    let step = get_or c.as_slice-steps.result.now k no_step in
    let here = ap (λ (ss : List StepSpec). get_or ss k no_step) steps in
    places_more paths n k step c.loop-place.places c.put_step.new.places (record { path = c.requires.path; step = subst (λ (ss : List StepSpec). k < length ss) steps c.loop-place-test.true }) here c.loop-place.invariant c.in_ok-put_step.ensures.noted

pub returns : goal.returns
returns c =
    let paths = c.args.paths.now in
    let n = c.args.path in
    let steps = c.as_slice-steps.ensures.value ∙ ap (λ (p : PathSpec). p.steps) (get_or_default paths n c.index-paths-path.result no_path c.requires.path) in
    record { noted = places_next paths n c.loop-place.place c.loop-place.places (omega (arith, ap (λ (ss : List StepSpec). length ss) steps, c.loop-place-test.false)) c.loop-place.invariant }
