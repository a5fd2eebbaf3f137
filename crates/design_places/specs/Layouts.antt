-- A netlist with the table of its cells, and a design with the macros of its cells.
use Rattle.std.specs.Prelude.{ℕ, ◌<◌, List, length, slice_index_or, All, Option, Some}
use Rattle.base_types.specs.declared.span.Point.{Point}
use Rattle.cell_table.specs.Cells.{Cells, ◌>>=◌}
use Rattle.netlist_core.specs.declared.netlist.Netlist.{Netlist}
use Rattle.wire_cost.specs.Lengths.{IsNearOrNowhere}
use Rattle.lef_pins.specs.Macros.{NamedMacros}
use Rattle.lef_pins.specs.Places.{IsMeasured}
use Rattle.def_reader.specs.declared.design.Design.{Design}
use Rattle.def_reader.specs.Sound.{IsSound}
use Rattle.design_places.specs.Ends.{Placed, point_of}

-- all four of them
pub record Layout : Type 0 where
  pub netlist : Netlist
  pub cells : Cells
  pub macros : NamedMacros
  pub design : Design

-- its places can be measured
pub record IsFit (l : Layout) : Type 0 where
  pub design : IsSound l.design
  pub macros : All (λ m. IsMeasured m.1) l.macros

-- where a pin of a component stands, where it is placed
abbrev pub pin_point : Design → List ℕ → Option Placed → Option Point
pin_point d pin placed = placed >>= λ p. Some (point_of d pin p)

-- each of the points is near, where there is one
abbrev pub AreNearOrNowhere : List (Option Point) → Type 0
AreNearOrNowhere ps = (k : ℕ) (d : Option Point) → k < length ps → IsNearOrNowhere (slice_index_or ps k d)
