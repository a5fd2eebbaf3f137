use Rattle.std.proofs.Common.{◌≡◌, List, ◌∷◌, [], ◌++◌, ap, sym, ◌∙◌, ◌+◌, map, arith, get_or, length}
use Rattle.std.specs.Prelude.{Option, None}
use Rattle.std.specs.List.{range_with_len}
use Rattle.std.proofs.lemmas.List.FromFn.{get_or-map-range_with_len}
use Rattle.chain_trace.specs.declared.path.Step.{Step}
use Rattle.plan_paths.specs.NewPaths.{step_in, filling, chain_on}
use Rattle.plan_paths.proofs.Filled.{places_more}
use Rattle.plan_paths.proofs.filling.new_steps.Goals as goal

pub loop-place-preserved : goal.loop-place-preserved
loop-place-preserved c =
    let f = step_in c.args.paths.now in
    let rules = c.args.rules.now in
    let place = c.loop-place.place in
    let chain = get_or c.args.chains.now place None in
    let at : 0 + place ≡ place = omega arith in
    let is : chain ≡ chain_on rules c.args.path place =
    ap (λ (xs : List (Option _)). get_or xs place None) c.requires.chains
    ∙ get_or-map-range_with_len (chain_on rules c.args.path) 0 (length c.args.chains.now) place place None c.loop-place-test.true at in
    c.in_ok-put_filling.ensures.value
    ∙ ap (λ (s : List Step). s ++ map f (filling rules c.args.plan.now c.args.path place chain)) c.loop-place.invariant
    ∙ places_more f rules c.args.plan.now c.args.path place chain is
