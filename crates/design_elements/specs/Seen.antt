-- Which elements have been seen, as the code goes over the chains.
use Rattle.std.specs.Prelude.{ℕ, Bool, ◌&&◌, ◌==◌, List, Option, option_map}
use Rattle.std.specs.Borrow.{Bor}
use Rattle.std.specs.HashSet.{HashSet, contains}
use Rattle.std.specs.Str.{bytes_eq}
use Rattle.cell_table.specs.Cells.{Cells}
use Rattle.def_reader.specs.declared.design.Component.{Component}
use Rattle.def_reader.specs.declared.design.Element.{Element}
use Rattle.def_reader.specs.Steps.{IsSeen}
use Rattle.design_elements.specs.declared.twice.SeenElements.{SeenElements}
use Rattle.design_elements.specs.CellPins.{pins_of, path_number}

-- an element by its component and the number of its scan path
abbrev pub ElementKey : Type 0
ElementKey = Bor (List ℕ) × ℕ

-- both are the same scan path of one component
abbrev pub same_element : ElementKey → ElementKey → Bool
same_element x y = bytes_eq x.0.now y.0.now && x.1 == y.1

-- whether a set has an element
abbrev pub has_element : {S : Type 0} → HashSet ElementKey S → ElementKey → Bool
has_element set q = contains same_element set q

-- the component and the scan path that a key is
abbrev pub element_at : ElementKey → List ℕ × ℕ
element_at q = (q.0.now, q.1)

-- the elements so far are those of the rows, and the least line at which one stood again is known
abbrev pub IsSeenElements : SeenElements → List ((List ℕ × ℕ) × ℕ) → Type 0
IsSeenElements seen rows = IsSeen element_at (has_element seen.elements) seen.least rows

-- the component and the scan path of an element, where its pins tell one, with a line
abbrev pub row_of : Cells → List Component → ℕ → Element → Option ((List ℕ × ℕ) × ℕ)
row_of cells components line e = option_map (λ path. ((e.component, path), line)) (path_number cells components (pins_of e))
