use Rattle.std.proofs.Common.{◌≡◌, ◌+◌, ℕ, Option, Some, length, sym, ap, ◌∙◌, subst, arith}
use Rattle.std.proofs.lemmas.Bool.{false≢true}
use Rattle.fail_map.specs.Numbered.{IsRepeated, lesser, number_at}
use Rattle.fail_map.proofs.Least.{IsLeast, least_more, least_same}
use Rattle.fail_map.proofs.numbered.first_repeated.Goals.{then-is_repeated, else-is_repeated}
use Rattle.fail_map.proofs.numbered.first_repeated.Goals as goal

pub loop-at-preserved : goal.loop-at-preserved
loop-at-preserved c =
    let lines = c.args.lines.now in
    let at : ℕ = c.loop-at.at in
    let before : Option ℕ = c.loop-at.least in
    elim c.if-is_repeated.branch [
      | then-is_repeated w ↦
          let least : c.if-is_repeated.least ≡ Some (lesser before (number_at lines at)) = w.least-is ∙ ap Some w.lesser.ensures.value in
          subst (λ (o : Option ℕ). IsLeast (IsRepeated lines) lines (at + 1) o) (sym least)
          (least_more (IsRepeated lines) lines at before c.loop-at.invariant (c.is_repeated.ensures.value.0 w.if-is_repeated.true))
      | else-is_repeated w ↦
          subst (λ (o : Option ℕ). IsLeast (IsRepeated lines) lines (at + 1) o) (sym w.least-is)
          (least_same (IsRepeated lines) lines at before c.loop-at.invariant (λ h. false≢true (sym w.if-is_repeated.false ∙ c.is_repeated.ensures.value.1 h)))
    ]

pub returns : goal.returns
returns c =
    let lines = c.args.lines.now in
    let end : c.loop-at.at ≡ length lines = omega (arith, c.loop-at-test.false, c.loop-at.auto.at-end) in
    record { value = subst (λ (n : ℕ). IsLeast (IsRepeated lines) lines n c.loop-at.least) end c.loop-at.invariant }
