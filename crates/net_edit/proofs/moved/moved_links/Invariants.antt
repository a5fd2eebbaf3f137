use Rattle.std.proofs.Common.{◌≡◌, not, take}
use Rattle.std.specs.List.{flat_map, filter, list_any}
use Rattle.path_links.specs.Edits.{links, same_link}
use Rattle.net_edit.proofs.moved.moved_links.Given as goal

abbrev pub invariant-loop-link : goal.invariant-loop-link
invariant-loop-link l = l.all.items ≡ filter (λ k. not (list_any (same_link k) (flat_map links l.fn.old))) (take l.link-index l.link-items)
