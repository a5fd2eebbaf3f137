use Rattle.std.proofs.Common.{◌≡◌, ◌<◌, length, get_or, sym, ◌∙◌, arith}
use Rattle.std.proofs.lemmas.Bool.Decides.{nat_tests}
use Rattle.verilog_checks.proofs.BitNames.{not_empty, not_other, not_zero_first, plain_value}
use Rattle.verilog_checks.proofs.bit_names.plain_index.Goals.{then-is_empty-via-then-is_empty, then-is_empty-via-else-is_empty+then-not-are_digits, else-digits-gt1-via-then-digits-gt1+else-digits-eq48, else-digits-gt1-via-else-digits-gt1}
use Rattle.verilog_checks.proofs.bit_names.plain_index.Goals as goal

pub returns-then-is_empty : goal.returns-then-is_empty
returns-then-is_empty c = record {
  value = λ i h is. elim c.then-is_empty.branch [
    | then-is_empty-via-then-is_empty w ↦ not_empty c.args.digits.now i (grind (arith, nat_tests)) h is
    | then-is_empty-via-else-is_empty+then-not-are_digits w ↦ not_other c.args.digits.now i (sym w.are_digits.ensures.value ∙ w.if-not-are_digits.true) h is
  ];
}

pub returns-then-digits-eq48 : goal.returns-then-digits-eq48
returns-then-digits-eq48 c = record { value = λ i h is. not_zero_first c.args.digits.now i c.if-digits-gt1.true c.if-digits-eq48.true h is }

pub returns : goal.returns
returns c =
    let ds = c.args.digits.now in
    let some : 0 < length ds = grind (arith, nat_tests) in
    let first : get_or ds 0 0 ≡ 48 → length ds ≡ 1 = elim c.else-digits-gt1.branch [
      | else-digits-gt1-via-then-digits-gt1+else-digits-eq48 w ↦ λ e. absurd (w.if-digits-eq48.false e)
      | else-digits-gt1-via-else-digits-gt1 w ↦ λ e. omega arith
    ] in
    record { value = plain_value ds c.index_value.result (sym c.are_digits.ensures.value ∙ c.if-not-are_digits.false) some first c.index_value.ensures.value c.index_value.ensures.small }
