use Rattle.std.proofs.Common.{take}
use Rattle.fail_map.specs.Progress.{AreMappedSoFar}
use Rattle.fail_map.proofs.log.map_log.Given as goal

abbrev pub invariant-loop-index : goal.invariant-loop-index
invariant-loop-index l = AreMappedSoFar l.map.0 l.map.1 (take l.index l.old) (take l.index l.new) l.log l.mapping
