use Rattle.std.proofs.Common.{◌≡◌, ◌<◌, ◌≤◌, ◌-◌, ℕ, List, length, take, drop, decimal, refl, arith, ⊎_elim}
use Rattle.std.proofs.lemmas.Bool.{cases_lt}
use Rattle.std.proofs.lemmas.List.{length-take}
use Rattle.fail_map.specs.Rows.{HasNumber}
use Rattle.fail_map.proofs.Decimals.{is_number, its_digits, no_empty, no_leading_zero, no_greater}
use Rattle.fail_map.proofs.read.number_at.Goals as goal

pub returns-then-not-is_decimal : goal.returns-then-not-is_decimal
returns-then-not-is_decimal c =
    let end : ℕ = c.digits_end-end.result in
    let digits : List ℕ = take (end - c.args.at) (drop c.args.at c.args.bytes.now) in
    record {
      value = λ h.
          let e : decimal h.number ≡ digits
          = its_digits c.args.bytes.now c.args.at end digits c.digits_end-end.ensures.behind refl c.digits_end-end.ensures.digits c.digits_end-end.ensures.stops h in
          ⊎_elim (λ (some : 0 < length digits).
          let other = c.is_decimal.ensures.other c.if-not-is_decimal.true some in
          no_leading_zero h.number digits h.small e other.1 other.0)
          (λ (none : length digits ≤ 0). no_empty h.number digits h.small e (omega (arith, none)))
          (cases_lt 0 (length digits));
    }

pub returns-in_err-number : goal.returns-in_err-number
returns-in_err-number c =
    let end : ℕ = c.digits_end-end.result in
    let digits : List ℕ = take (end - c.args.at) (drop c.args.at c.args.bytes.now) in
    record {
      value = rw c.from_residual.ensures (λ (h : HasNumber (drop c.args.at c.args.bytes.now)).
          let e : decimal h.number ≡ digits
          = its_digits c.args.bytes.now c.args.at end digits c.digits_end-end.ensures.behind refl c.digits_end-end.ensures.digits c.digits_end-end.ensures.stops h in
          no_greater h.number digits h.small e c.in_err-number.ensures.value);
    }

pub returns : goal.returns
returns c =
    let end : ℕ = c.digits_end-end.result in
    let digits : List ℕ = take (end - c.args.at) (drop c.args.at c.args.bytes.now) in
    let some : 0 < length digits = c.is_decimal.ensures.some c.if-not-is_decimal.false in
    record {
      value = is_number c.args.bytes.now c.args.at end c.in_ok-number.number digits c.digits_end-end.ensures.behind c.digits_end-end.ensures.within refl c.digits_end-end.ensures.digits some
          (c.is_decimal.ensures.first c.if-not-is_decimal.false) (omega (arith, length-take (end - c.args.at) (drop c.args.at c.args.bytes.now), some)) c.in_ok-number.ensures.value c.in_ok-number.ensures.small
          c.digits_end-end.ensures.stops;
    }
