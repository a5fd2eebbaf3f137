use Rattle.std.proofs.Common.{◌≡◌, ◌≤◌, take}
use Rattle.fail_map.specs.Logs.{most_number}
use Rattle.fail_map.specs.Rows.{value_of}
use Rattle.fail_map.proofs.read.value_of.Given as goal

abbrev pub invariant-loop-digit : goal.invariant-loop-digit
invariant-loop-digit l = record {
  value : l.value ≡ value_of (take l.digit-index l.digits);
  small : l.value ≤ most_number;
}
