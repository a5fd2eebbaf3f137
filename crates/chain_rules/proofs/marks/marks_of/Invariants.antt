use Rattle.std.proofs.Common.{◌≡◌, length, take}
use Rattle.std.specs.List.{flat_map}
use Rattle.chain_rules.specs.Stretches.{path_at, groups_in}
use Rattle.chain_rules.specs.Runs.{stretch, AreMarks}
use Rattle.chain_rules.proofs.marks.marks_of.Given as goal

abbrev pub invariant-loop-list : goal.invariant-loop-list
invariant-loop-list l =
    (l.groups ≡ length (flat_map groups_in (take l.list-index l.list-items))) × AreMarks (path_at l.index l.run.path) (stretch l.run) (flat_map groups_in (take l.list-index l.list-items)) l.marks.items
