use Rattle.std.proofs.Common.{◌≡◌, take, map, Some}
use Rattle.fail_map.proofs.mapping.found_lines.Given as goal

abbrev pub invariant-loop-line : goal.invariant-loop-line
invariant-loop-line l = map Some l.found.items ≡ take l.line-index l.mapped
