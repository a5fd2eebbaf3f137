use Rattle.std.proofs.Common.{◌≡◌, take}
use Rattle.base_types.specs.Names.{plain_name}
use Rattle.base_types.proofs.escapes.plain_name.Given as goal

abbrev pub invariant-loop-b : goal.invariant-loop-b
invariant-loop-b l = l.plain.items ≡ plain_name (take l.b-index l.bytes)
