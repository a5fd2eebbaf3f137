use Rattle.std.proofs.Common.{take}
use Rattle.list_laws.specs.Leasts.{IsLeast}
use Rattle.design_places.specs.Lines.{ForOne, PathLacks}
use Rattle.design_places.proofs.nets.Traced.paths.Given as goal

abbrev pub invariant-loop-path : goal.invariant-loop-path
invariant-loop-path l = IsLeast (ForOne (PathLacks l.self) (take l.path-index l.paths)) l.least
