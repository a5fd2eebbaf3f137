use Rattle.std.proofs.Common.{◌≡◌, ◌-◌, ℕ, sym, ap, ◌∙◌, arith}
use Rattle.std.proofs.lemmas.Bool.{false≢true}
use Rattle.fail_map.specs.Numbered.{line_at}
use Rattle.fail_map.proofs.Orders.{same_by_test, test_of_same}
use Rattle.fail_map.proofs.numbered.is_repeated.Goals as goal

pub returns-then-at-eq0 : goal.returns-then-at-eq0
returns-then-at-eq0 c = record { value = (λ h. absurd (false≢true h), λ r. absurd (omega (arith, r.next, c.if-at-eq0.true))) }

pub returns : goal.returns
returns c =
    let lines = c.args.lines.now in
    let at : ℕ = c.args.at in
    record {
      value = (
        λ h. record { before = at - 1; next = omega arith; same = same_by_test (line_at lines (at - 1)) (line_at lines at) (sym c.eq.ensures ∙ h) },
        λ r.
            let before : at - 1 ≡ r.before = omega (arith, r.next) in
            c.eq.ensures ∙ test_of_same (line_at lines (at - 1)) (line_at lines at) (ap (line_at lines) before ∙ r.same),
      );
    }
