use Rattle.std.proofs.Common.{◌≡◌, ◌++◌, drop, codes}
use Rattle.std.specs.List.{flat_map}
use Rattle.def_layout.specs.Sections.{line_text, list_lines}
use Rattle.def_layout.proofs.section.push_ordered.Given as goal

abbrev pub invariant-loop-list : goal.invariant-loop-list
invariant-loop-list l = l.out.items ++ flat_map line_text (flat_map (list_lines (codes "ORDERED")) (drop l.list-index l.lists)) ≡ l.fn.out.items ++ flat_map line_text (flat_map (list_lines (codes "ORDERED")) l.lists)
