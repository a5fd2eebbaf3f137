use Rattle.std.proofs.Common.{◌≡◌, ℕ, ◌+◌, ◌<◌, List, [], ◌∷◌, ◌++◌, length, take, get_or, arith, sym, ap, ◌∙◌, subst}
use Rattle.std.proofs.lemmas.List.{take_all, take_more}
use Rattle.std.proofs.lemmas.Result.{IfOk-weaker, on_ok_weaker}
use Rattle.base_types.proofs.FirstFaults.{fault_weaker}
use Rattle.stil_types.specs.declared.statement.PatternStatement.{PatternStatement}
use Rattle.stil_tester.specs.declared.chains.Chains.{Chains}
use Rattle.scan_verify.specs.Patterns.{IsReady, AreSameStatements}
use Rattle.fail_map.specs.Progress.{AreMappedSoFar}
use Rattle.fail_map.proofs.Passing.{as_many, same_there}
use Rattle.fail_map.proofs.log.map_log.Goals as goal

pub bounds-new-index : goal.bounds-new-index
bounds-new-index c =
    omega (arith, c.loop-index-test.true, as_many c.args.old.now.statements c.args.new.now.statements c.requires.same.alike, ap length c.as_slice-old.ensures.value, ap length c.as_slice-new.ensures.value)

pub pass-requires-clause-new_ready : goal.pass-requires-clause-new_ready
pass-requires-clause-new_ready c =
    let k : ℕ = c.loop-index.index in
    let b : PatternStatement = c.index-new-index.result in
    let within : k < length c.args.new.now.statements
    = omega (arith, c.loop-index-test.true, as_many c.args.old.now.statements c.args.new.now.statements c.requires.same.alike, ap length c.as_slice-old.ensures.value) in
    subst (IsReady c.args.map.now.1) (ap (λ (xs : List PatternStatement). get_or xs k b) (sym c.as_slice-new.ensures.value) ∙ sym c.index-new-index.is) (c.requires.new_ready k b within)

pub pass-requires-clause-same : goal.pass-requires-clause-same
pass-requires-clause-same c =
    let old : Chains = c.args.map.now.0 in
    let new : Chains = c.args.map.now.1 in
    let k : ℕ = c.loop-index.index in
    let a : PatternStatement = c.index-old-index.result in
    let b : PatternStatement = c.index-new-index.result in
    let within : k < length c.args.old.now.statements = omega (arith, c.loop-index-test.true, ap length c.as_slice-old.ensures.value) in
    let both : AreSameStatements old new (get_or c.args.old.now.statements k a) (get_or c.args.new.now.statements k b)
    = same_there old new c.args.old.now.statements c.args.new.now.statements c.requires.same.alike c.requires.same.show_same k a b within in
    let first : get_or c.args.old.now.statements k a ≡ a = ap (λ (xs : List PatternStatement). get_or xs k a) (sym c.as_slice-old.ensures.value) ∙ sym c.index-old-index.is in
    let second : get_or c.args.new.now.statements k b ≡ b = ap (λ (xs : List PatternStatement). get_or xs k b) (sym c.as_slice-new.ensures.value) ∙ sym c.index-new-index.is in
    subst (λ (s : PatternStatement). AreSameStatements old new s b) first (subst (λ (t : PatternStatement). AreSameStatements old new (get_or c.args.old.now.statements k a) t) second both)

pub loop-index-init : goal.loop-index-init
loop-index-init c = c.in_ok-mapping.ensures.begun c.args.map.now.0 c.args.map.now.1 c.old_chains-chains.ensures.same

pub loop-index-preserved : goal.loop-index-preserved
loop-index-preserved c =
    let k : ℕ = c.loop-index.index in
    let olds : List PatternStatement = c.as_slice-old.result.now in
    let news : List PatternStatement = c.as_slice-new.result.now in
    let a : PatternStatement = c.index-old-index.result in
    let b : PatternStatement = c.index-new-index.result in
    let within : k < length news
    = omega (arith, c.loop-index-test.true, as_many c.args.old.now.statements c.args.new.now.statements c.requires.same.alike, ap length c.as_slice-old.ensures.value, ap length c.as_slice-new.ensures.value) in
    let first : take k olds ++ a ∷ [] ≡ take (k + 1) olds = ap (λ (s : PatternStatement). take k olds ++ s ∷ []) c.index-old-index.is ∙ sym (take_more olds k a c.loop-index-test.true) in
    let second : take k news ++ b ∷ [] ≡ take (k + 1) news = ap (λ (s : PatternStatement). take k news ++ s ∷ []) c.index-new-index.is ∙ sym (take_more news k b within) in
    subst (λ (xs : List PatternStatement). AreMappedSoFar c.args.map.now.0 c.args.map.now.1 xs (take (k + 1) news) c.args.log.now c.pass.new.self) first
    (subst (λ (ys : List PatternStatement). AreMappedSoFar c.args.map.now.0 c.args.map.now.1 (take k olds ++ a ∷ []) ys c.args.log.now c.pass.new.self) second
    (c.in_ok-pass.ensures.passed (take k olds) (take k news) c.args.log.now c.loop-index.invariant))

pub returns : goal.returns
returns c =
    let old : Chains = c.args.map.now.0 in
    let new : Chains = c.args.map.now.1 in
    let k : ℕ = c.loop-index.index in
    let olds : List PatternStatement = c.args.old.now.statements in
    let news : List PatternStatement = c.args.new.now.statements in
    let first : take k c.as_slice-old.result.now ≡ olds = take_all k c.as_slice-old.result.now c.loop-index-test.false ∙ c.as_slice-old.ensures.value in
    let second : take k c.as_slice-new.result.now ≡ news
    = take_all k c.as_slice-new.result.now (omega (arith, c.loop-index-test.false, as_many olds news c.requires.same.alike, ap length c.as_slice-old.ensures.value, ap length c.as_slice-new.ensures.value)) ∙ c.as_slice-new.ensures.value in
    let far : AreMappedSoFar old new olds news c.args.log.now c.loop-index.mapping
    = subst (λ (xs : List PatternStatement). AreMappedSoFar old new xs news c.args.log.now c.loop-index.mapping) first
    (subst (λ (ys : List PatternStatement). AreMappedSoFar old new (take k c.as_slice-old.result.now) ys c.args.log.now c.loop-index.mapping) second c.loop-index.invariant) in
    record {
      mapped = IfOk-weaker c.finish.result _ _ (λ mapped h. h old new olds news c.args.log.now far) c.finish.ensures.mapped;
      fault = fault_weaker c.finish.result _ _ (λ fault h. h old new olds news c.args.log.now far) c.finish.ensures.fault;
      no_fault = on_ok_weaker c.finish.result (λ h. h old new olds news c.args.log.now far) c.finish.ensures.no_fault;
    }
