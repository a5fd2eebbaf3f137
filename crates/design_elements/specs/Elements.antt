-- The chains of a design as numbers: instances and the nets of ports as the netlist counts them, scan paths and out pins as the table
-- does.
use Rattle.std.specs.Prelude.{ℕ, ◌+◌, Bool, false, List, [], ◌∷◌, length, map, Option, Some, None, option_map, unwrap_or}
use Rattle.std.specs.List.{position}
use Rattle.std.specs.Str.{bytes_eq}
use Rattle.netlist_core.specs.declared.netlist.Netlist.{Netlist}
use Rattle.cell_table.specs.Cells.{Cells}
use Rattle.def_reader.specs.declared.design.Component.{Component}
use Rattle.def_reader.specs.declared.design.Element.{Element}
use Rattle.def_reader.specs.declared.design.ElementList.{ElementList}
use Rattle.def_reader.specs.declared.design.ElementList.TheVariants as texts
use Rattle.def_reader.specs.declared.design.EndText.{EndText}
use Rattle.def_reader.specs.declared.design.EndText.TheVariants as end_texts
use Rattle.def_reader.specs.declared.design.ScanChainText.{ScanChainText}
use Rattle.def_reader.specs.declared.design.Design.{Design}
use Rattle.def_reader.specs.Agreement.{port_named}
use Rattle.chain_rules.specs.declared.spec.ElementSpec.{ElementSpec}
use Rattle.chain_rules.specs.declared.spec.EndSpec.{EndSpec}
use Rattle.chain_rules.specs.declared.spec.EndSpec.TheVariants.{Port, Cell}
use Rattle.chain_rules.specs.declared.spec.ListSpec.{ListSpec}
use Rattle.chain_rules.specs.declared.spec.ListSpec.TheVariants.{Floating, Ordered}
use Rattle.chain_rules.specs.declared.spec.ChainSpec.{ChainSpec}
use Rattle.design_elements.specs.CellPins.{CellPins, pins_of, path_number, out_number}

-- the number of the instance of a name; where there is none, the count of instances
abbrev pub instance_number : Netlist → List ℕ → ℕ
instance_number n name = unwrap_or (position (λ i. bytes_eq i.name name) n.instances) (length n.instances)

-- the net number of the port bit of a name; where there is none, the count of nets
abbrev pub port_number : Netlist → List ℕ → ℕ
port_number n name = unwrap_or (option_map (λ p. p.net.0) (port_named n name)) (length n.nets)

-- an element
abbrev pub element_spec : Netlist → Cells → List Component → Element → ElementSpec
element_spec n cells components e = record {
  instance = instance_number n e.component;
  path = unwrap_or (path_number cells components (pins_of e)) 0;
  out = out_number cells components (pins_of e);
}

-- a chain's end at a cell
abbrev pub end_cell : Netlist → Cells → List Component → CellPins → EndSpec
end_cell n cells components pins =
    Cell (instance_number n pins.component) (unwrap_or (path_number cells components pins) 0) (out_number cells components pins)

-- where a chain starts: at a port, or at a cell, left by the out pin that is named
abbrev pub start_spec : Netlist → Cells → List Component → EndText → EndSpec
start_spec n cells components (end_texts.Port name) = Port (port_number n name)
start_spec n cells components (end_texts.Cell component pin) = end_cell n cells components (record { component = component; input = None; output = pin })

-- where it stops: at a port, or at a cell
abbrev pub stop_spec : Netlist → Cells → List Component → EndText → EndSpec
stop_spec n cells components (end_texts.Port name) = Port (port_number n name)
stop_spec n cells components (end_texts.Cell component pin) = end_cell n cells components (record { component = component; input = pin; output = None })

-- a list of elements
abbrev pub list_spec : Netlist → Cells → List Component → ElementList → ListSpec
list_spec n cells components (texts.Floating elements) = Floating (map (element_spec n cells components) elements)
list_spec n cells components (texts.Ordered elements) = Ordered (map (element_spec n cells components) elements)

-- the chain is of the partition
abbrev pub names_partition : List ℕ → Option (List ℕ) → Bool
names_partition name None = false
names_partition name (Some other) = bytes_eq other name

-- the partition of the chain of a number, as the number of the first chain of it; a chain without one is a partition by itself
abbrev pub partition_number : List ScanChainText → ℕ → Option (List ℕ) → ℕ
partition_number chains c None = c
partition_number chains c (Some name) = unwrap_or (position (λ chain. names_partition name chain.partition) chains) c

-- the chain of a number
abbrev pub chain_spec : Netlist → Cells → Design → ℕ → ScanChainText → ChainSpec
chain_spec n cells d c chain = record {
  start = start_spec n cells d.components chain.start;
  stop = stop_spec n cells d.components chain.stop;
  lists = map (list_spec n cells d.components) chain.lists;
  partition = partition_number d.chains c chain.partition;
  max_bits = chain.max_bits;
  line = chain.line;
}

-- the chains from the one of number c on
abbrev pub specs_from : Netlist → Cells → Design → ℕ → List ScanChainText → List ChainSpec
specs_from n cells d c [] = []
specs_from n cells d c (chain ∷ chains) = chain_spec n cells d c chain ∷ specs_from n cells d (c + 1) chains

-- the chains of a design
abbrev pub chain_specs : Netlist → Cells → Design → List ChainSpec
chain_specs n cells d = specs_from n cells d 0 d.chains
