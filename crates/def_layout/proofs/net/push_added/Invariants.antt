use Rattle.std.proofs.Common.{◌≡◌, ◌++◌, drop}
use Rattle.std.specs.List.{flat_map}
use Rattle.def_layout.specs.Words.{spaced}
use Rattle.def_layout.specs.Nets.{connection_words}
use Rattle.def_layout.proofs.net.push_added.Given as goal

abbrev pub invariant-loop-connection : goal.invariant-loop-connection
invariant-loop-connection l =
    l.out.items ++ spaced (flat_map connection_words (drop l.connection-index l.added)) ≡ l.fn.out.items ++ spaced (flat_map connection_words l.added)
