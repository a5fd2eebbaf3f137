use Rattle.std.proofs.Common.{◌≡◌, take}
use Rattle.head_checks.specs.CellNames.{counted}
use Rattle.head_checks.proofs.names.counted.Given as goal

abbrev pub invariant-loop-byte : goal.invariant-loop-byte
invariant-loop-byte l = l.bytes.items ≡ counted (take l.byte-index l.name)
