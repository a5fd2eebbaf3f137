use Rattle.std.proofs.Common.{◌≡◌, get_or, map, take}
use Rattle.retarget.proofs.route.sources_of.Given as goal

abbrev pub invariant-loop-cell : goal.invariant-loop-cell
invariant-loop-cell l = l.sources ≡ map (λ cell. get_or l.places cell 0) (take l.cell-index l.cells)
