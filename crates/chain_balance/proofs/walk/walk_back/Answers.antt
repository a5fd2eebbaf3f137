use Rattle.std.proofs.Common.{◌≡◌, ◌≢◌, ◌<◌, ◌≤◌, ◌∙◌, ℕ, List, arith, ap, sym, get_or, length, ⊎_elim, eq-eqb, slice_index_or}
use Rattle.std.specs.Prelude.{nat_eq}
use Rattle.std.proofs.lemmas.Bool.{cases_lt}
use Rattle.std.proofs.lemmas.List.{get_or_past}
use Rattle.chain_rules.specs.declared.unit.ChainRule.{ChainRule}
use Rattle.chain_rules.specs.Legality.{no_rule}
use Rattle.chain_balance.specs.Steps.{entry_at}
use Rattle.chain_balance.proofs.Walks.{after_move, path_at, one_if}
use Rattle.chain_balance.proofs.walk.walk_back.Goals as goal

pub returns-then-is_top-clause-is : goal.returns-then-is_top-clause-is
returns-then-is_top-clause-is c =
    (after_move c.args.rules.now c.args.fixed.now c.loop-at.work c.move_unit.new.work c.args.most c.args.entries.now c.loop-at.at
    (record { one = c.requires.one; on = c.requires.paths; level = c.loop-at.invariant.is.level; reached = c.loop-at.invariant.reached; some = c.loop-at-test.true; hole = c.loop-at.invariant.hole })
    c.loop-at.invariant.is.held c.in_ok-move_unit.ensures.plan c.in_ok-move_unit.ensures.loads c.in_ok-move_unit.ensures.held).is

pub returns-then-is_top-clause-fewer : goal.returns-then-is_top-clause-fewer
returns-then-is_top-clause-fewer c =
    let after = after_move c.args.rules.now c.args.fixed.now c.loop-at.work c.move_unit.new.work c.args.most c.args.entries.now c.loop-at.at
    (record { one = c.requires.one; on = c.requires.paths; level = c.loop-at.invariant.is.level; reached = c.loop-at.invariant.reached; some = c.loop-at-test.true; hole = c.loop-at.invariant.hole })
    c.loop-at.invariant.is.held c.in_ok-move_unit.ensures.plan c.in_ok-move_unit.ensures.loads c.in_ok-move_unit.ensures.held in
    let g : ℕ = (entry_at c.args.entries.now c.loop-at.at).giver in
    let row : (slice_index_or c.as_slice.result.now g no_rule).path ≡ path_at c.args.rules.now g = ap (λ (rs : List ChainRule). (slice_index_or rs g no_rule).path) c.as_slice.ensures.value in
    let same : get_or c.loop-at.work.paths.items (path_at c.args.rules.now g) 0 ≡ c.args.most
    = ap (λ (x : ℕ). get_or c.loop-at.work.paths.items x 0) (sym row) ∙ ap (λ (q : List ℕ). get_or q (slice_index_or c.as_slice.result.now g no_rule).path 0) (sym c.as_slice-loads.ensures.value) ∙ c.if-is_top.true in
    let counted : one_if (nat_eq c.args.most (get_or c.loop-at.work.paths.items (path_at c.args.rules.now g) 0)) ≡ 1 = ap one_if (eq-eqb c.args.most (get_or c.loop-at.work.paths.items (path_at c.args.rules.now g) 0) (sym same)) in
    omega (arith, after.step.counts, counted, c.loop-at.invariant.no_more)

pub loop-at-preserved : goal.loop-at-preserved
loop-at-preserved c =
    let after = after_move c.args.rules.now c.args.fixed.now c.loop-at.work c.move_unit.new.work c.args.most c.args.entries.now c.loop-at.at
    (record { one = c.requires.one; on = c.requires.paths; level = c.loop-at.invariant.is.level; reached = c.loop-at.invariant.reached; some = c.loop-at-test.true; hole = c.loop-at.invariant.hole })
    c.loop-at.invariant.is.held c.in_ok-move_unit.ensures.plan c.in_ok-move_unit.ensures.loads c.in_ok-move_unit.ensures.held in
    let g : ℕ = (entry_at c.args.entries.now c.loop-at.at).giver in
    let row : (slice_index_or c.as_slice.result.now g no_rule).path ≡ path_at c.args.rules.now g = ap (λ (rs : List ChainRule). (slice_index_or rs g no_rule).path) c.as_slice.ensures.value in
    let other : get_or c.loop-at.work.paths.items (path_at c.args.rules.now g) 0 ≢ c.args.most
    = λ e. c.if-is_top.false (ap (λ (q : List ℕ). get_or q (slice_index_or c.as_slice.result.now g no_rule).path 0) c.as_slice-loads.ensures.value ∙ ap (λ (x : ℕ). get_or c.loop-at.work.paths.items x 0) row ∙ e) in
    let short : get_or c.loop-at.work.paths.items (entry_at c.args.entries.now 0).path 0 ≡ c.args.most = c.loop-at.invariant.top in
    let within : (entry_at c.args.entries.now 0).path < length c.loop-at.work.paths.items =
    ⊎_elim (λ (l : (entry_at c.args.entries.now 0).path < length c.loop-at.work.paths.items). l)
    (λ (past : length c.loop-at.work.paths.items ≤ (entry_at c.args.entries.now 0).path). absurd (omega (arith, get_or_past c.loop-at.work.paths.items (entry_at c.args.entries.now 0).path 0 past, short, c.loop-at.invariant.hole)))
    (cases_lt (entry_at c.args.entries.now 0).path (length c.loop-at.work.paths.items)) in
    record {
      is = after.is;
      reached = after.step.reached;
      hole = after.step.hole other;
      top = after.step.top other short within;
      no_more = omega (arith, after.step.counts, c.loop-at.invariant.no_more);
    }
