use Rattle.std.proofs.Common.{take}
use Rattle.path_links.specs.EditKeys.{HasLinks}
use Rattle.net_edit.proofs.moved.set_of.Given as goal

abbrev pub invariant-loop-link : goal.invariant-loop-link
invariant-loop-link l = HasLinks (take l.link-index l.links) l.set
