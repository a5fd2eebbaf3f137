use Rattle.std.proofs.Common.{◌≡◌, ◌++◌, map, drop}
use Rattle.std.specs.List.{flat_map}
use Rattle.def_layout.specs.Sections.{line_text, element_line}
use Rattle.def_layout.proofs.section.push_elements.Given as goal

abbrev pub invariant-loop-element : goal.invariant-loop-element
invariant-loop-element l = l.out.items ++ flat_map line_text (map element_line (drop l.element-index l.elements)) ≡ l.fn.out.items ++ flat_map line_text (map element_line l.elements)
