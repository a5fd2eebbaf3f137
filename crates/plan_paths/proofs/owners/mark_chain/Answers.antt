use Rattle.plan_paths.proofs.Owned.{owners_set, owners_kept}
use Rattle.plan_paths.proofs.owners.mark_chain.Goals as goal
use Rattle.std.proofs.Common.{◌≡◌, ℕ, ◌+◌, List, sym, subst, arith, ◌∙◌}
use Rattle.std.specs.Prelude.{Option}
use Rattle.std.specs.Vec.{with_items}
use Rattle.std.proofs.lemmas.List.{with_items_is}
use Rattle.plan_paths.specs.Owners.{IsRowMarked}

pub returns-then-path-len : goal.returns-then-path-len
returns-then-path-len c = record {
  value = λ paths rules len are.
      let rule = c.args.rule.now in
      let old = c.index_mut.result.now in
      let row : List (Option ℕ) = c.mark.new.row in
      let written : (with_items old row).items ≡ row = with_items_is old row (c.mark.ensures.value.count ∙ c.as_mut_slice.ensures.len) in
      let marked : IsRowMarked c.args.chain rule.first (rule.last + 1) old.items row =
      subst (λ (before : List (Option ℕ)). IsRowMarked c.args.chain rule.first (rule.last + 1) before row) c.as_mut_slice.ensures.value c.mark.ensures.value in
      owners_set paths rules rule c.args.rows.now.items old (with_items old row) are (omega (arith, c.if-path-len.true, c.len.ensures)) c.index_mut.ensures.value
      (subst (λ (chain : ℕ). IsRowMarked chain rule.first (rule.last + 1) old.items (with_items old row).items) (sym len)
      (subst (λ (after : List (Option ℕ)). IsRowMarked c.args.chain rule.first (rule.last + 1) old.items after) (sym written) marked));
}

pub returns-else-path-len : goal.returns-else-path-len
returns-else-path-len c = record {
  value = λ paths rules len are. owners_kept paths rules c.args.rule.now c.args.rows.now.items are (omega (arith, c.if-path-len.false, c.len.ensures));
}
