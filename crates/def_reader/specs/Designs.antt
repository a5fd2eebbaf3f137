-- What a DEF text denotes: the placed design that its statements make (LEF/DEF 5.8, in this profile). Names are plain: without
-- backslashes. A number beyond its limits makes nothing: such a text is refused.
use Rattle.std.specs.Prelude.{ℕ, Bool, true, false, if◌then◌else◌, List, [], map, Option, Some, None, is_some, option_map, option_and_then, unwrap_or, ℤ, pos, codes}
use Rattle.std.specs.List.{find, filter_map, list_any}
use Rattle.std.specs.Str.{bytes_eq}
use Rattle.base_types.specs.Names.{plain_name}
use Rattle.base_types.specs.declared.span.Span.{Span}
use Rattle.base_types.specs.declared.span.Point.{Point}
use Rattle.cell_table.specs.Cells.{Cells}
use Rattle.cell_table.specs.Table.{paths_at}
use Rattle.cell_table.specs.declared.paths.ScanPath.{ScanPath}
use Rattle.def_syntax.specs.declared.design.DesignText.{DesignText}
use Rattle.def_syntax.specs.declared.design.Located.{Located}
use Rattle.def_syntax.specs.declared.design.Section.{Section}
use Rattle.def_syntax.specs.declared.frame.SectionKind.{SectionKind}
use Rattle.def_syntax.specs.declared.frame.SectionKind.TheVariants.{Components, Pins, Nets, ScanChains}
use Rattle.def_tokens.specs.declared.orient.Orient.{Orient}
use Rattle.def_syntax.specs.declared.placement.Placement.{Placement}
use Rattle.def_syntax.specs.declared.component.Component.{Component as ComponentText}
use Rattle.def_syntax.specs.declared.pin.DesignPin.{DesignPin as PinText}
use Rattle.def_syntax.specs.declared.net.Connection.{Connection}
use Rattle.def_syntax.specs.declared.net.NetStatement.{NetStatement}
use Rattle.def_syntax.specs.declared.net.NetStatement.TheVariants as statements
use Rattle.def_syntax.specs.declared.element.Element.{Element as ElementText}
use Rattle.def_syntax.specs.declared.element.ElementList.{ElementList as ListText}
use Rattle.def_syntax.specs.declared.element.ElementList.TheVariants as list_texts
use Rattle.def_syntax.specs.declared.chain.Chain.{Chain as ChainText}
use Rattle.def_syntax.specs.declared.chain.CommonPins.{CommonPins}
use Rattle.def_syntax.specs.declared.chain.Partition.{Partition}
use Rattle.def_syntax.specs.declared.chain.Terminal.{Terminal}
use Rattle.def_syntax.specs.declared.chain.Terminal.TheVariants as terminals
use Rattle.def_reader.specs.declared.design.Component.{Component}
use Rattle.def_reader.specs.declared.design.DesignPin.{DesignPin}
use Rattle.def_reader.specs.declared.design.NetPin.{NetPin}
use Rattle.def_reader.specs.declared.design.NetPin.TheVariants as net_pins
use Rattle.def_reader.specs.declared.design.Net.{Net}
use Rattle.def_reader.specs.declared.design.Element.{Element}
use Rattle.def_reader.specs.declared.design.ElementList.{ElementList}
use Rattle.def_reader.specs.declared.design.ElementList.TheVariants as lists
use Rattle.def_reader.specs.declared.design.EndText.{EndText}
use Rattle.def_reader.specs.declared.design.EndText.TheVariants as ends
use Rattle.def_reader.specs.declared.design.ScanChainText.{ScanChainText}
use Rattle.def_reader.specs.declared.design.Design.{Design}
use Rattle.def_reader.specs.declared.side.Side.{Side}
use Rattle.def_reader.specs.declared.side.Side.TheVariants.{In, Out}
use Rattle.def_reader.specs.Numbers.{coordinate_of, bits_of, units_of}
use Rattle.def_reader.specs.Words.{word_at}

-- the point of two coordinates
abbrev pub point_at : Option ℤ → Option ℤ → Option Point
point_at None y = None
point_at (Some x) None = None
point_at (Some x) (Some y) = Some (record { x = x; y = y })

-- the point of a placement, in database units
abbrev pub point_of : Placement → Option Point
point_of p = point_at (coordinate_of p.x) (coordinate_of p.y)

-- the point where a design pin is placed
abbrev pub pin_place : Option Placement → Option Point
pin_place None = None
pin_place (Some p) = point_of p

-- the point where a component is placed, and how it is turned
abbrev pub place_of : Option Placement → Option (Point × Orient)
place_of None = None
place_of (Some p) = option_map (λ point. (point, p.orient)) (point_of p)

-- a component, with its name as it is written too
abbrev pub component_of : Located ComponentText → Component
component_of c =
    record { name = plain_name c.statement.name; text = c.statement.name; cell = plain_name c.statement.cell; place = place_of c.statement.place; line = c.line }

-- a design pin, with the place of its net's name
abbrev pub pin_of : Located PinText → DesignPin
pin_of p =
    record { name = plain_name p.statement.name; net = plain_name p.statement.net; net_span = p.statement.net_span; place = pin_place p.statement.place; line = p.line }

-- what a connection of these words connects: a pin of all components none, `PIN` a design pin, else a pin of a component
abbrev pub net_pin_of : List ℕ → List ℕ → Option NetPin
net_pin_of component pin =
    if bytes_eq component (codes "*") then None
    else (if bytes_eq component (codes "PIN") then Some (net_pins.Port (plain_name pin)) else Some (net_pins.Cell (plain_name component) (plain_name pin)))

-- the pins that connections connect, in order
abbrev pub net_pins_of : List ℕ → List Connection → List NetPin
net_pins_of text connections = filter_map (λ c. net_pin_of (word_at text c.component) (word_at text c.pin)) connections

-- the net that a statement is; MUSTJOIN is none
abbrev pub net_at : List ℕ → Span → ℕ → NetStatement → Option Net
net_at text span line (statements.Net net) = Some (record { name = plain_name net.name; pins = net_pins_of text net.connections; span = span; line = line })
net_at text span line statements.MustJoin = None

-- the net that a statement of NETS is
abbrev pub net_of : List ℕ → Located NetStatement → Option Net
net_of text n = net_at text n.span n.line n.statement

-- one of the scan paths has the in pin
abbrev pub has_input : List ScanPath → List ℕ → Bool
has_input paths pin = list_any (λ p. bytes_eq p.input pin) paths

-- one of the scan paths has the out pin
abbrev pub has_output : List ScanPath → List ℕ → Bool
has_output paths pin = list_any (λ p. list_any (λ o. bytes_eq o.pin pin) p.outs) paths

-- one of the scan paths has the pin on this side
abbrev pub has_pin : Side → List ScanPath → List ℕ → Bool
has_pin In paths pin = has_input paths pin
has_pin Out paths pin = has_output paths pin

-- the common pin of a side
abbrev pub common_of : Side → Option CommonPins → Option (List ℕ)
common_of In None = None
common_of In (Some pins) = pins.input
common_of Out None = None
common_of Out (Some pins) = pins.output

-- the common pin, where the scan paths have it
abbrev pub common_pin : Side → List ScanPath → Option (List ℕ) → Option (List ℕ)
common_pin side paths None = None
common_pin side paths (Some pin) = if has_pin side paths (plain_name pin) then Some (plain_name pin) else None

-- the pin as it is written; where none is, the common pin that the scan paths have
abbrev pub pin_or : Side → List ScanPath → Option (List ℕ) → Option (List ℕ) → Option (List ℕ)
pin_or side paths common None = common_pin side paths common
pin_or side paths common (Some pin) = Some (plain_name pin)

-- the scan paths of a cell
abbrev pub paths_or_none : Option (List ScanPath) → List ScanPath
paths_or_none paths = unwrap_or paths []

-- the cell of a component: of the first that has this plain name
abbrev pub cell_of : List Component → List ℕ → Option (List ℕ)
cell_of components name = option_map (λ c. c.cell) (find (λ c. bytes_eq c.name name) components)

-- the scan paths of the cell of a component, by the table's entry; none without one
abbrev pub scan_paths : Cells → List Component → List ℕ → List ScanPath
scan_paths cells components name = paths_or_none (option_and_then (λ cell. paths_at cell cells) (cell_of components name))

-- an element of a chain
abbrev pub element_of : Cells → List Component → Option CommonPins → ElementText → Element
element_of cells components common e =
    record {
      component = plain_name e.name;
      input = pin_or In (scan_paths cells components (plain_name e.name)) (common_of In common) e.input;
      output = pin_or Out (scan_paths cells components (plain_name e.name)) (common_of Out common) e.output;
      bits = option_and_then bits_of e.bits;
    }

-- a list of elements
abbrev pub list_of : Cells → List Component → Option CommonPins → ListText → ElementList
list_of cells components common (list_texts.Floating es) = lists.Floating (map (element_of cells components common) es)
list_of cells components common (list_texts.Ordered es) = lists.Ordered (map (element_of cells components common) es)

-- a chain's end: at a design pin, or at a cell, with a pin or without
abbrev pub end_of : Side → Cells → List Component → Option CommonPins → Terminal → EndText
end_of side cells components common (terminals.AtPin pin) = ends.Port (plain_name pin)
end_of side cells components common (terminals.AtCell component pin) =
    ends.Cell (plain_name component) (pin_or side (scan_paths cells components (plain_name component)) (common_of side common) pin)

-- what MAXBITS says
abbrev pub max_bits_in : Option Partition → Option (List ℕ)
max_bits_in None = None
max_bits_in (Some p) = p.max_bits

-- a chain: START is left by an out pin, and STOP is entered by an in pin
abbrev pub chain_of : Cells → List Component → Located ChainText → ScanChainText
chain_of cells components c =
    record {
      name = plain_name c.statement.name;
      partition = option_map (λ p. plain_name p.name) c.statement.partition;
      max_bits = unwrap_or (option_and_then bits_of (max_bits_in c.statement.partition)) 0;
      has_max_bits = is_some (max_bits_in c.statement.partition);
      start = end_of Out cells components c.statement.common_pins c.statement.start;
      stop = end_of In cells components c.statement.common_pins c.statement.stop;
      lists = map (list_of cells components c.statement.common_pins) c.statement.lists;
      line = c.line;
    }

-- the section is SCANCHAINS
abbrev pub is_chains : SectionKind → Bool
is_chains Components = false
is_chains Pins = false
is_chains Nets = false
is_chains ScanChains = true

-- the place of the SCANCHAINS section
abbrev pub chains_span : List Section → Option Span
chains_span sections = option_map (λ s. s.span) (find (λ s. is_chains s.kind) sections)

-- the design that the statements of a text make, beside a table of cells
unfoldable pub design_of : List ℕ → Cells → DesignText → Design
design_of text cells t =
    record {
      units = pos (unwrap_or (units_of t.units.statement.number) 0);
      components = map component_of t.components;
      pins = map pin_of t.pins;
      nets = filter_map (net_of text) t.nets;
      chains = map (chain_of cells (map component_of t.components)) t.chains;
      chains_span = chains_span t.sections;
    }
