use Rattle.std.proofs.Common.{◌≡◌, ◌≤◌, drop}
use Rattle.std.specs.Prelude.{fold}
use Rattle.verilog_names.specs.Values.{decimal_value}
use Rattle.verilog_names.proofs.Indexes.{with_digit}
use Rattle.verilog_names.proofs.values.value_within.Given as goal

abbrev pub invariant-loop-digit : goal.invariant-loop-digit
invariant-loop-digit l = record {
  small : l.value ≤ l.limit;
  same : fold with_digit l.value (drop l.digit-index l.digits) ≡ decimal_value l.digits;
}
