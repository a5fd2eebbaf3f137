use Rattle.std.proofs.Common.{map, take}
use Rattle.list_laws.specs.Leasts.{IsLeast}
use Rattle.traced_paths.specs.Traced.{LacksPort}
use Rattle.traced_paths.specs.Asked.{told}
use Rattle.traced_paths.proofs.ports.least_lacking.Given as goal

abbrev pub invariant-loop-ask : goal.invariant-loop-ask
invariant-loop-ask l = IsLeast (LacksPort l.ports (map told (take l.ask-index l.asks))) l.least
