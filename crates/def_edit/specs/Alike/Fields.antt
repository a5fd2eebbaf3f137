-- A design without its lines and places, and with changes.
use Rattle.std.specs.Prelude.{ℕ, List, map, Option, option_map}
use Rattle.std.specs.List.{filter_map}
use Rattle.base_types.specs.Names.{plain_name}
use Rattle.base_types.specs.declared.span.Span.{Span}
use Rattle.cell_table.specs.Cells.{Cells}
use Rattle.def_syntax.specs.declared.design.DesignText.{DesignText}
use Rattle.def_layout.specs.declared.net.ConnectionLayout.{ConnectionLayout}
use Rattle.def_layout.specs.declared.chains.ChainLayout.{ChainLayout}
use Rattle.def_layout.specs.SectionForms.{read_chain}
use Rattle.def_reader.specs.declared.design.Component.{Component}
use Rattle.def_reader.specs.declared.design.DesignPin.{DesignPin}
use Rattle.def_reader.specs.declared.design.NetPin.{NetPin}
use Rattle.def_reader.specs.declared.design.Net.{Net}
use Rattle.def_reader.specs.declared.design.ScanChainText.{ScanChainText}
use Rattle.def_reader.specs.declared.design.Design.{Design}
use Rattle.def_reader.specs.Designs.{net_pin_of, component_of, chain_of, design_of}
use Rattle.def_edit.specs.Alike.Changes.{NetWords, net_in, changed_net, changed_each, Changes}

-- no place
abbrev pub nowhere : Span
nowhere = record { start = 0; end = 0 }

-- a component without its line
abbrev pub component_fields : Component → Component
component_fields c = record { name = c.name; text = c.text; cell = c.cell; place = c.place; line = 0 }

-- a design pin without its line and the place of its net's word
abbrev pub pin_fields : DesignPin → DesignPin
pin_fields p = record { name = p.name; net = p.net; net_span = nowhere; place = p.place; line = 0 }

-- a net without the place and the line of its statement
abbrev pub net_fields : Net → Net
net_fields n = record { name = n.name; pins = n.pins; span = nowhere; line = 0 }

-- a chain without its line
abbrev pub chain_fields : ScanChainText → ScanChainText
chain_fields c =
    record { name = c.name; partition = c.partition; max_bits = c.max_bits; has_max_bits = c.has_max_bits; start = c.start; stop = c.stop; lists = c.lists; line = 0 }

-- a design without its lines and places; of SCANCHAINS it says whether it stands
unfoldable pub fields : Design → Design
fields d =
    record {
      units = d.units;
      components = map component_fields d.components;
      pins = map pin_fields d.pins;
      nets = map net_fields d.nets;
      chains = map chain_fields d.chains;
      chains_span = option_map (λ s. nowhere) d.chains_span;
    }

-- the pin that a connection of these words connects; a pin of all components is none
abbrev pub pin_of_words : ConnectionLayout → Option NetPin
pin_of_words c = net_pin_of c.component c.pin

-- the net of a design by the words of its statement
abbrev pub net_of_words : NetWords → Net
net_of_words n = record { name = plain_name n.name; pins = filter_map pin_of_words n.connections; span = nowhere; line = 0 }

-- the nets of statements, by their words
abbrev pub nets_of_words : List (Option NetWords) → List Net
nets_of_words ns = filter_map (option_map net_of_words) ns

-- the nets of a text, by the words of their statements
abbrev pub nets_in : List ℕ → DesignText → List (Option NetWords)
nets_in text t = map (λ n. net_in text n.statement) t.nets

-- the same with changes
abbrev pub changed_nets : List ℕ → DesignText → Changes → List (Option NetWords)
changed_nets text t c = changed_each changed_net (nets_in text t) c.nets

-- a design pin with another net
abbrev pub with_net : DesignPin → List ℕ → DesignPin
with_net p w = record { name = p.name; net = plain_name w; net_span = p.net_span; place = p.place; line = p.line }

-- the chain of a statement
abbrev pub chain_read : Cells → List Component → ChainLayout → ScanChainText
chain_read cells components c = chain_of cells components (record { statement = read_chain c; span = nowhere; line = 0 })

-- the design of a text with changes
unfoldable pub changed_fields : List ℕ → Cells → DesignText → Changes → Design
changed_fields text cells t c =
    let d = fields (design_of text cells t) in
    record {
      units = d.units;
      components = d.components;
      pins = changed_each with_net d.pins c.pins;
      nets = nets_of_words (changed_nets text t c);
      chains = map (chain_read cells (map component_of t.components)) c.chains;
      chains_span = d.chains_span;
    }
