use Rattle.std.proofs.Common.{◌≡◌, ◌+◌, ℕ, Option, Some, sym, ap, ◌∙◌, subst}
use Rattle.fail_map.specs.Numbered.{IsUnmapped, lesser, mapped_at, number_at}
use Rattle.fail_map.proofs.Least.{IsLeast, least_more, least_same}
use Rattle.fail_map.proofs.Orders.{none_from, some_from}
use Rattle.fail_map.proofs.numbered.first_unmapped.Goals.{then-is_none, else-is_none}
use Rattle.fail_map.proofs.numbered.first_unmapped.Goals as goal

pub loop-at-preserved : goal.loop-at-preserved
loop-at-preserved c =
    let lines = c.args.lines.now in
    let mapped = c.args.mapped.now in
    let at : ℕ = c.loop-at.at in
    let before : Option ℕ = c.loop-at.least in
    elim c.if-is_none.branch [
      | then-is_none w ↦
          let least : c.if-is_none.least ≡ Some (lesser before (number_at lines at)) = w.least-is ∙ ap Some w.lesser.ensures.value in
          subst (λ (o : Option ℕ). IsLeast (IsUnmapped mapped) lines (at + 1) o) (sym least)
          (least_more (IsUnmapped mapped) lines at before c.loop-at.invariant (none_from (mapped_at mapped at) c.is_none.result c.is_none.ensures w.if-is_none.true))
      | else-is_none w ↦
          subst (λ (o : Option ℕ). IsLeast (IsUnmapped mapped) lines (at + 1) o) (sym w.least-is)
          (least_same (IsUnmapped mapped) lines at before c.loop-at.invariant (some_from (mapped_at mapped at) c.is_none.result c.is_none.ensures w.if-is_none.false))
    ]
