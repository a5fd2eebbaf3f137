use Rattle.std.proofs.Common.{◌≡◌, ◌==◌, take}
use Rattle.std.specs.HashMap.{get}
use Rattle.path_links.specs.Edited.{map_from}
use Rattle.net_edit.specs.Applied.{put_assign}
use Rattle.net_edit.proofs.applied.put_assigns.Given as goal

abbrev pub invariant-loop-place : goal.invariant-loop-place
invariant-loop-place l = l.copies ≡ map_from (put_assign (get ◌==◌ l.rights)) 0 (take l.place l.assigns)
