-- How the statements of DEF are spelled in tokens (LEF/DEF 5.8, in this profile).
use Rattle.std.specs.Prelude.{Bool, true, false, List, is_some}
use Rattle.token_forms.specs.Forms.{Form, key, ◌&◌, made, made_if, ◌▸◌, ◌◂◌, ◌or◌, maybe, many, some, passed, at, gathered}
use Rattle.def_syntax.specs.Words.{in_nets, name, name_place, integer, number, net_name, cell_name, in_statement}
use Rattle.def_syntax.specs.Options.{unread, options}
use Rattle.def_syntax.specs.OptionForms.{said, component_form, design_pin_form}
use Rattle.def_syntax.specs.Statements.{IsComponentText, IsPinText}
use Rattle.def_syntax.specs.Pieces.{fresh_element, put_bracket, no_pins, put_common, fresh_chain, put_clause, chain_of}
use Rattle.def_syntax.specs.declared.component.Component.{Component}
use Rattle.def_syntax.specs.declared.pin.DesignPin.{DesignPin}
use Rattle.def_syntax.specs.declared.units.Units.{Units}
use Rattle.def_syntax.specs.declared.net.Connection.{Connection}
use Rattle.def_syntax.specs.declared.net.Net.{Net}
use Rattle.def_syntax.specs.declared.net.NetStatement.{NetStatement}
use Rattle.def_syntax.specs.declared.net.NetStatement.TheVariants as net_statements
use Rattle.def_syntax.specs.declared.net_parts.NetOption.{NetOption}
use Rattle.def_syntax.specs.declared.net_parts.NetParts.{NetParts}
use Rattle.def_syntax.specs.declared.element.Bracket.{Bracket}
use Rattle.def_syntax.specs.declared.element.Bracket.TheVariants as brackets
use Rattle.def_syntax.specs.declared.element.Element.{Element}
use Rattle.def_syntax.specs.declared.element.ElementList.{ElementList}
use Rattle.def_syntax.specs.declared.element.ElementList.TheVariants as lists
use Rattle.def_syntax.specs.declared.chain.Terminal.{Terminal}
use Rattle.def_syntax.specs.declared.chain.Terminal.TheVariants as terminals
use Rattle.def_syntax.specs.declared.chain.Partition.{Partition}
use Rattle.def_syntax.specs.declared.chain.CommonPins.{CommonPins}
use Rattle.def_syntax.specs.declared.chain.Clause.{Clause}
use Rattle.def_syntax.specs.declared.chain.Clause.TheVariants as clauses
use Rattle.def_syntax.specs.declared.chain.Chain.{Chain}

-- UNITS DISTANCE MICRONS n ;
unfoldable pub units : Form Units
units = made (λ n. record { number = n }) ("UNITS" ▸ ("DISTANCE" ▸ ("MICRONS" ▸ integer)) ◂ ";")

-- - name cell option .. ;    as IsComponentText says
unfoldable pub component : Form Component
component = said IsComponentText component_form

-- - name option .. ;    with + NET net exactly once, as IsPinText says
unfoldable pub design_pin : Form DesignPin
design_pin = said IsPinText design_pin_form

-- + SYNTHESIZED, or nothing
unfoldable pub synthesized : Form Bool
synthesized = made is_some (maybe ("+" ▸ key "SYNTHESIZED"))

-- ( component pin )    ( PIN pin )    with + SYNTHESIZED before the closing bracket, or without
unfoldable pub connection : Form Connection
connection =
    made (λ p. record { component = p.0.0; pin = p.0.1.0; start = p.1.start; synthesized = p.0.1.1 })
    (at ("(" ▸ (name_place & name_place & synthesized ◂ ")")))

-- name connection ..    and options, which pass unread
unfoldable pub net_body : Form Net
net_body = made (λ p. record { name = p.0; connections = p.1.0 }) (net_name & many connection & maybe ("+" ▸ passed in_statement))

-- - name connection .. option .. ;    - MUSTJOIN tokens ;
unfoldable pub net : Form NetStatement
net = "-" ▸ ((made (λ nothing. net_statements.MustJoin) (key "MUSTJOIN" & passed in_statement) or made net_statements.Net net_body) ◂ ";")

-- + tokens
unfoldable pub net_option : Bool → Form NetOption
net_option closed = made (λ p. record { word = p.0; span = p.1 }) (at ("+" ▸ unread closed in_nets))

-- - name connection .. option .. ;
unfoldable pub net_parts : Form NetParts
net_parts =
    made (λ p. record { name = p.0; connections = p.1.0; options = p.1.1 })
    ("-" ▸ (net_name & many connection & options (net_option true) (net_option false) ◂ ";"))

-- ( IN pin )    ( OUT pin )    ( BITS n )
unfoldable pub bracket : Form Bracket
bracket = "(" ▸ ((made brackets.In ("IN" ▸ name) or made brackets.Out ("OUT" ▸ name) or made brackets.Bits ("BITS" ▸ number)) ◂ ")")

-- component, and each bracket at most once, in any order
unfoldable pub element : Form Element
element = gathered (made fresh_element name) put_bracket bracket

-- element ..
unfoldable pub elements : Form (List Element)
elements = some element

-- PIN pin    component [pin]
unfoldable pub terminal : Form Terminal
terminal = made terminals.AtPin ("PIN" ▸ name) or made (λ p. terminals.AtCell p.0 p.1) (cell_name & maybe name)

-- PARTITION p [MAXBITS n]
unfoldable pub partition : Form Partition
partition = made (λ p. record { name = p.0; max_bits = p.1 }) ("PARTITION" ▸ (name & maybe ("MAXBITS" ▸ number)))

-- COMMONSCANPINS [( IN pin )] [( OUT pin )]
unfoldable pub common_pins : Form CommonPins
common_pins = gathered (made (λ nothing. no_pins) (key "COMMONSCANPINS")) put_common bracket

-- FLOATING element ..    ORDERED element ..
unfoldable pub element_list : Form ElementList
element_list = made lists.Floating ("FLOATING" ▸ elements) or made lists.Ordered ("ORDERED" ▸ elements)

-- + PARTITION ..    + COMMONSCANPINS ..    + START ..    + STOP ..    + FLOATING ..    + ORDERED ..
unfoldable pub clause : Form Clause
clause =
    "+" ▸ (made clauses.Partition partition
    or made clauses.CommonPins common_pins
    or made clauses.Start ("START" ▸ terminal)
    or made clauses.Stop ("STOP" ▸ terminal)
    or made clauses.List element_list)

-- - name clause .. ;    each clause but ORDERED at most once, START, STOP and a list at least once
unfoldable pub chain : Form Chain
chain = made_if chain_of (gathered (made fresh_chain ("-" ▸ name)) put_clause clause ◂ ";")
