use Rattle.std.proofs.Common.{◌≡◌, List, ◌∷◌, [], ◌++◌, ap, sym, ◌∙◌, ◌+◌, ℕ, length, map, arith, subst}
use Rattle.std.specs.List.{range_with_len}
use Rattle.std.proofs.lemmas.List.FromFn.{map-range_with_len_more}
use Rattle.chain_trace.specs.declared.path.Step.{Step}
use Rattle.chain_trace.specs.declared.path.Path.{Path}
use Rattle.chain_rules.specs.declared.unit.ChainRule.{ChainRule}
use Rattle.plan_paths.specs.NewPaths.{chain_on, new_path, new_places, path_in, step_in}
use Rattle.plan_paths.specs.Owners.{owners, AreOwners}
use Rattle.plan_paths.proofs.Filled.{path_is}
use Rattle.plan_paths.proofs.Owned.{length_owners, row_of}
use Rattle.plan_paths.proofs.paths.new_paths.Goals as goal

pub new_steps-requires : goal.new_steps-requires
new_steps-requires c =
    let k = c.loop-number.number in
    let rules = c.args.rules.now in
    let paths = c.args.paths.now in
    let slice = c.as_slice-in-loop-number.result.now in
    let count = length (path_in paths k).steps in
    let is : slice ≡ owners rules.chains k count = c.as_slice-in-loop-number.ensures.value ∙ row_of paths rules.chains c.in_ok-owners.owners.items k c.index.result.now (subst (λ (chains : List ChainRule). AreOwners paths chains c.in_ok-owners.owners.items) c.as_slice.ensures.value c.in_ok-owners.ensures.value) c.loop-number-test.true c.index.ensures in
    let len : count ≡ length slice = sym (length_owners rules.chains k count) ∙ ap length (sym is) in
    record { chains = is ∙ ap (λ (n : ℕ). map (chain_on rules k) (range_with_len 0 n)) len }

pub loop-number-preserved : goal.loop-number-preserved
loop-number-preserved c =
    let k = c.loop-number.number in
    let rules = c.args.rules.now in
    let paths = c.args.paths.now in
    let plan = c.args.plan.now in
    let path = c.index-paths-number.result in
    let slice = c.as_slice-in-loop-number.result.now in
    let count = length (path_in paths k).steps in
    let is : slice ≡ owners rules.chains k count = c.as_slice-in-loop-number.ensures.value ∙ row_of paths rules.chains c.in_ok-owners.owners.items k c.index.result.now (subst (λ (chains : List ChainRule). AreOwners paths chains c.in_ok-owners.owners.items) c.as_slice.ensures.value c.in_ok-owners.ensures.value) c.loop-number-test.true c.index.ensures in
    let len : length slice ≡ count = ap length is ∙ length_owners rules.chains k count in
    let here : path ≡ path_in paths k = path_is paths k path c.loop-number-test.true c.index-paths-number.is in
    let at : 0 + k ≡ k = omega arith in
    c.in_ok-push.ensures.items
    ∙ ap (λ (new : List Path). new ++ record { input = path.input; output = path.output; steps = c.in_ok-steps.steps } ∷ []) c.loop-number.invariant
    ∙ ap (λ (steps : List Step). map (new_path paths rules plan) (range_with_len 0 k) ++ record { input = path.input; output = path.output; steps = steps } ∷ []) c.in_ok-steps.ensures.value
    ∙ ap (λ (n : ℕ). map (new_path paths rules plan) (range_with_len 0 k) ++ record { input = path.input; output = path.output; steps = map (step_in paths) (new_places rules plan k n) } ∷ []) len
    ∙ ap (λ (p : Path). map (new_path paths rules plan) (range_with_len 0 k) ++ record { input = p.input; output = p.output; steps = map (step_in paths) (new_places rules plan k count) } ∷ []) here
    ∙ sym (map-range_with_len_more (new_path paths rules plan) 0 k k at)
