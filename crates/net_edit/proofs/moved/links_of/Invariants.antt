use Rattle.std.proofs.Common.{◌≡◌, take}
use Rattle.std.specs.List.{flat_map}
use Rattle.path_links.specs.Edits.{links}
use Rattle.net_edit.proofs.moved.links_of.Given as goal

abbrev pub invariant-loop-path : goal.invariant-loop-path
invariant-loop-path l = l.all.items ≡ flat_map links (take l.path-index l.paths)
