use Rattle.std.proofs.Common.{◌≡◌, take}
use Rattle.stil_types.specs.Callees.{scanning_names}
use Rattle.stil_types.proofs.tables.scanning_in.Given as goal

abbrev pub invariant-loop-callee : goal.invariant-loop-callee
invariant-loop-callee l = l.names.items ≡ scanning_names (take l.callee-index l.callees)
