use Rattle.std.proofs.Common.{◌≡◌, map, filter, drop}
use Rattle.std.specs.Prelude.{slice_get}
use Rattle.def_layout.specs.Nets.{connection_in}
use Rattle.def_edit.specs.NetChanges.{is_counted}
use Rattle.def_edit.proofs.nets.counted_at.Given as goal

abbrev pub invariant-loop-connection : goal.invariant-loop-connection
invariant-loop-connection l =
    slice_get (filter is_counted (map (connection_in l.bytes) l.connections)) l.place ≡ slice_get (filter is_counted (map (connection_in l.bytes) (drop l.connection-index l.connections))) l.left
