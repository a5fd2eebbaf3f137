use Rattle.std.proofs.Common.{◌≡◌, ◌++◌, map, drop}
use Rattle.std.specs.List.{flat_map}
use Rattle.def_layout.specs.Words.{spaced}
use Rattle.def_layout.specs.Nets.{connection_words, connection_in, kept}
use Rattle.def_layout.proofs.net.push_kept.Given as goal

abbrev pub invariant-loop-connection : goal.invariant-loop-connection
invariant-loop-connection l =
    l.out.items ++ spaced (flat_map connection_words (kept l.marks (map (connection_in l.text) (drop l.connection-index l.connections)))) ≡ l.fn.out.items ++ spaced (flat_map connection_words (kept l.stays (map (connection_in l.text) l.connections)))
