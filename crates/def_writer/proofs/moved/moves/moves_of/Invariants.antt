use Rattle.std.proofs.Common.{◌≡◌, take}
use Rattle.std.specs.List.{filter_map}
use Rattle.def_writer.specs.Moved.Sites.{move_by}
use Rattle.def_writer.proofs.moved.moves.moves_of.Given as goal

abbrev pub invariant-loop-pair : goal.invariant-loop-pair
invariant-loop-pair l = l.moves.items ≡ filter_map (move_by l.sites) (take l.pair-index l.pairs)
