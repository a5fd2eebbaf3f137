use Rattle.std.proofs.Common.{◌≡◌, ◌<◌, ◌≤◌, ℕ, arith, ⊎_elim, sym, ap, ◌∙◌, subst}
use Rattle.std.proofs.lemmas.Bool.{cases_lt}
use Rattle.stil_types.specs.declared.statement.ScanCall.{ScanCall}
use Rattle.stil_tester.specs.declared.chains.Chains.{Chains}
use Rattle.retarget.specs.Homes.{home_of}
use Rattle.scan_verify.specs.Sameness.{loaded_by, expected_by, IsSameAt}
use Rattle.scan_verify.proofs.Same.{same_at, still_first, other_still_first}
use Rattle.scan_verify.proofs.call.difference_among.Goals as goal

pub returns-else-b-eq0 : goal.returns-else-b-eq0
returns-else-b-eq0 c = record {
  value = still_first c.args.map.now.0 c.args.map.now.1 c.args.a.now c.args.b.now c.requires.same c.requires.new_call c.if-a-eq0.true (omega (arith, c.if-b-eq0.false));
}

pub returns-then-b-eq0-2 : goal.returns-then-b-eq0-2
returns-then-b-eq0-2 c = record {
  value = other_still_first c.args.map.now.0 c.args.map.now.1 c.args.a.now c.args.b.now c.requires.same c.requires.old_call (omega (arith, c.if-a-eq0.false)) c.if-b-eq0-2.true;
}

pub loop-cell-preserved : goal.loop-cell-preserved
loop-cell-preserved c other l =
    let old : Chains = c.args.map.now.0 in
    let new : Chains = c.args.map.now.1 in
    let a : ScanCall = c.args.a.now in
    let b : ScanCall = c.args.b.now in
    let n : ℕ = c.loop-cell.cell in
    ⊎_elim (λ (before : other < n). c.loop-cell.invariant other before)
    (λ (here : n ≤ other).
    let same : n ≡ other = omega arith in
    let both = c.is_same_at.ensures.0 c.if-not-is_same_at.false in
    let loads : loaded_by a (home_of old n) ≡ loaded_by b (home_of new n) = sym (ap (loaded_by a) c.old_home.ensures.value) ∙ both.0 ∙ ap (loaded_by b) c.new_home.ensures.value in
    let expects : expected_by a (home_of old n) ≡ expected_by b (home_of new n) = sym (ap (expected_by a) c.old_home.ensures.value) ∙ both.1 ∙ ap (expected_by b) c.new_home.ensures.value in
    subst (λ (v : ℕ). IsSameAt old new a b v) same (same_at old new a b n (omega (arith, c.if-a-eq0.false)) (omega (arith, c.if-b-eq0-2.false)) (loads, expects)))
    (cases_lt other n)
