use Rattle.std.proofs.Common.{◌≡◌, take}
use Rattle.stil_types.specs.Callees.{callee_names}
use Rattle.stil_types.proofs.tables.names_of.Given as goal

abbrev pub invariant-loop-callee : goal.invariant-loop-callee
invariant-loop-callee l = l.names.items ≡ callee_names (take l.callee-index l.callees)
