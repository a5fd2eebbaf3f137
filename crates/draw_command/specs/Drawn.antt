-- What is drawn of the chains of a placed design, as they were read.
use Rattle.std.specs.Prelude.{ℕ, ◌+◌, nat_lt, if◌then◌else◌, ℤ, pos, List, [], ◌∷◌, ◌++◌, length, Option, Some, None, option_map, option_to_list, slice_get}
use Rattle.base_types.specs.declared.span.Point.{Point}
use Rattle.lef_pins.specs.Macros.{NamedMacros}
use Rattle.lef_pins.specs.Places.{moved, turn, twice}
use Rattle.def_reader.specs.Sound.{elements_in}
use Rattle.def_reader.specs.declared.design.Element.{Element}
use Rattle.def_reader.specs.declared.design.ElementList.{ElementList}
use Rattle.def_reader.specs.declared.design.ScanChainText.{ScanChainText}
use Rattle.def_reader.specs.declared.design.Design.{Design}
use Rattle.chain_rules.specs.declared.unit.Rules.{Rules}
use Rattle.chain_rules.specs.Legality.{bits_of, chain_at, unit_at}
use Rattle.wire_cost.specs.declared.ends.Ends.{Ends}
use Rattle.wire_cost.specs.Lengths.{ChainEnds, chain_ends, chain_length_of}
use Rattle.design_places.specs.Ends.{Placed, placed_named}
use Rattle.chain_picture.specs.declared.chain.Segment.{Segment}
use Rattle.chain_picture.specs.declared.chain.DrawnChain.{DrawnChain}

-- the way between two points, where both of them stand somewhere
abbrev pub segment_between : Option Point → Option Point → List Segment
segment_between None b = []
segment_between (Some p) None = []
segment_between (Some p) (Some q) = record { from = p; to = q } ∷ []

-- the links of a chain that count in its length, from a point over its units to its stop
abbrev pub segments_from : ChainEnds → Option Point → List ℕ → List Segment
segments_from w p [] = segment_between p w.stop
segments_from w p (u ∷ us) = segment_between p (slice_get w.entry u) ++ segments_from w (slice_get w.exit u) us

-- the units of several cells, from entry to exit
abbrev pub spans_of : Rules → ChainEnds → List ℕ → List Segment
spans_of rules w [] = []
spans_of rules w (u ∷ us) =
    (if nat_lt (unit_at rules u).first (unit_at rules u).last then segment_between (slice_get w.entry u) (slice_get w.exit u) else []) ++ spans_of rules w us

-- where a point of a placed cell's macro stands, in half database units
abbrev pub corner_at : Placed → ℤ → Point → Point
corner_at placed units p = moved (turn placed.orient (twice placed.shape.w units) (twice placed.shape.h units) p) placed.at

-- opposite corners of a placed cell
abbrev pub corners : ℤ → Placed → Segment
corners units placed = record {
  from = corner_at placed units (record { x = pos 0; y = pos 0 });
  to = corner_at placed units (record { x = twice placed.shape.w units; y = twice placed.shape.h units });
}

-- the cells of elements
abbrev pub element_cells : NamedMacros → Design → List Element → List Segment
element_cells macros d [] = []
element_cells macros d (e ∷ es) = option_to_list (option_map (corners d.units) (placed_named macros d e.component)) ++ element_cells macros d es

-- the cells of a chain's lists
abbrev pub list_cells : NamedMacros → Design → List ElementList → List Segment
list_cells macros d [] = []
list_cells macros d (l ∷ ls) = element_cells macros d (elements_in l) ++ list_cells macros d ls

-- what is drawn of the chain of a number
abbrev pub drawn_chain : NamedMacros → Design → Rules → Ends → ℕ → ScanChainText → DrawnChain
drawn_chain macros d rules ends c chain = record {
  name = chain.name;
  units = length (chain_at rules.read c);
  bits = bits_of rules (chain_at rules.read c);
  length = chain_length_of ends c (chain_at rules.read c);
  start = (chain_ends ends c).start;
  stop = (chain_ends ends c).stop;
  links = segments_from (chain_ends ends c) (chain_ends ends c).start (chain_at rules.read c);
  spans = spans_of rules (chain_ends ends c) (chain_at rules.read c);
  cells = list_cells macros d chain.lists;
}

-- what is drawn of the chains from the one of number c on
abbrev pub drawn_from : NamedMacros → Design → Rules → Ends → ℕ → List ScanChainText → List DrawnChain
drawn_from macros d rules ends c [] = []
drawn_from macros d rules ends c (chain ∷ chains) = drawn_chain macros d rules ends c chain ∷ drawn_from macros d rules ends (c + 1) chains
