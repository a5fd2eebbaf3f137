-- The faults of a DEF text. Of those that hold the one of the least kind is answered, and of these the one at the least line.
use Rattle.std.specs.Prelude.{◌≡◌, ℕ, Bool, true, false, ◌||◌, List, [], ◌∷◌, ◌++◌, map, Option, Some, None, is_none, Contains}
use Rattle.std.specs.List.{flat_map, filter_map, list_any}
use Rattle.base_types.specs.Names.{plain_name}
use Rattle.base_types.specs.Faults.{at_line}
use Rattle.base_types.specs.declared.fault.Fault.{Fault}
use Rattle.base_types.specs.declared.fault.FileKind.TheVariants.{Def}
use Rattle.base_types.specs.declared.kind.Kind.TheVariants.{DefNumber, DefTwice}
use Rattle.def_syntax.specs.Designs.{IsDesignText, IsFirstFault as IsFirstOfForm}
use Rattle.def_syntax.specs.Frames.{word_of}
use Rattle.def_syntax.specs.declared.design.DesignText.{DesignText}
use Rattle.def_syntax.specs.declared.design.Located.{Located}
use Rattle.def_syntax.specs.declared.design.Section.{Section}
use Rattle.def_syntax.specs.declared.placement.Placement.{Placement}
use Rattle.def_syntax.specs.declared.component.Component.{Component as ComponentText}
use Rattle.def_syntax.specs.declared.pin.DesignPin.{DesignPin as PinText}
use Rattle.def_syntax.specs.declared.units.Units.{Units}
use Rattle.def_syntax.specs.declared.element.Element.{Element as ElementText}
use Rattle.def_syntax.specs.declared.element.ElementList.{ElementList as ListText}
use Rattle.def_syntax.specs.declared.element.ElementList.TheVariants.{Floating, Ordered}
use Rattle.def_syntax.specs.declared.chain.Chain.{Chain as ChainText}
use Rattle.def_reader.specs.declared.design.Component.{Component as ComponentRow}
use Rattle.def_reader.specs.declared.design.DesignPin.{DesignPin}
use Rattle.def_reader.specs.declared.design.NetPin.{NetPin}
use Rattle.def_reader.specs.declared.design.Net.{Net as NetRow}
use Rattle.def_reader.specs.Numbers.{bits_of, units_of}
use Rattle.def_reader.specs.Designs.{point_of, component_of, pin_of, net_of, max_bits_in}

-- DefNumber: the UNITS aren't 1 to 100000, a coordinate of a place lies outside 32 bits, or a BITS or MAXBITS exceeds 262144

-- the units aren't 1 to 100000
abbrev pub are_no_units : Units → Bool
are_no_units u = is_none (units_of u.number)

-- a coordinate of the place lies outside 32 bits
abbrev pub is_far : Option Placement → Bool
is_far None = false
is_far (Some p) = is_none (point_of p)

-- a component is placed outside 32 bits
abbrev pub has_far_component : ComponentText → Bool
has_far_component c = is_far c.place

-- a design pin is placed outside 32 bits
abbrev pub has_far_pin : PinText → Bool
has_far_pin p = is_far p.place

-- the number exceeds 262144
abbrev pub are_many : Option (List ℕ) → Bool
are_many None = false
are_many (Some digits) = is_none (bits_of digits)

-- a BITS of the elements exceeds 262144
abbrev pub have_many : List ElementText → Bool
have_many es = list_any (λ e. are_many e.bits) es

-- the same of a list
abbrev pub has_many : ListText → Bool
has_many (Floating es) = have_many es
has_many (Ordered es) = have_many es

-- MAXBITS or a BITS of the chain exceeds 262144
abbrev pub has_many_bits : ChainText → Bool
has_many_bits c = are_many (max_bits_in c.partition) || list_any has_many c.lists

-- one of the statements fails the test, on this line
pub record FailsAt {X : Type 0} (bad : X → Bool) (rows : List (Located X)) (line : ℕ) : Type 0 where
  pub row : Located X
  pub there : Contains rows row
  pub fails : bad row.statement ≡ true
  pub is : line ≡ row.line

-- a number lies beyond its limits, on this line
pub data NumberAt (t : DesignText) (line : ℕ) : Type 0 where
  BadUnits : FailsAt are_no_units (t.units ∷ []) line → NumberAt t line
  FarComponent : FailsAt has_far_component t.components line → NumberAt t line
  FarPin : FailsAt has_far_pin t.pins line → NumberAt t line
  ManyBits : FailsAt has_many_bits t.chains line → NumberAt t line

-- DefTwice: a component, a design pin, a net or a chain has the plain name of one before it, a section stands a second time,
-- or a connection stands a second time over all nets

-- what names are read of rows, without their lines
abbrev pub names_in : {K : Type 0} → List (K × ℕ) → List K
names_in rows = map (λ row. row.0) rows

-- a row has the name of one before it, and this line
pub record StandsAgain {K : Type 0} (rows : List (K × ℕ)) (line : ℕ) : Type 0 where
  pub front : List (K × ℕ)
  pub name : K
  pub behind : List (K × ℕ)
  pub is : rows ≡ front ++ (name, line) ∷ behind
  pub before : Contains (names_in front) name

-- names with their lines
abbrev pub component_rows : List ComponentRow → List (List ℕ × ℕ)
component_rows components = map (λ c. (c.name, c.line)) components

-- design pins with their lines
abbrev pub pin_rows : List DesignPin → List (List ℕ × ℕ)
pin_rows pins = map (λ p. (p.name, p.line)) pins

-- nets with their lines
abbrev pub net_rows : List NetRow → List (List ℕ × ℕ)
net_rows nets = map (λ n. (n.name, n.line)) nets

-- chains with their lines
abbrev pub chain_rows : List (Located ChainText) → List (List ℕ × ℕ)
chain_rows chains = map (λ c. (plain_name c.statement.name, c.line)) chains

-- sections by their words
abbrev pub section_rows : List Section → List (List ℕ × ℕ)
section_rows sections = map (λ s. (word_of s.kind, s.line)) sections

-- the connections of a net, each with the net's line
abbrev pub connections_of : NetRow → List (NetPin × ℕ)
connections_of n = map (λ p. (p, n.line)) n.pins

-- connections of all nets, each with its net's line
abbrev pub connection_rows : List NetRow → List (NetPin × ℕ)
connection_rows nets = flat_map connections_of nets

-- something stands a second time, on this line
pub data TwiceAt (text : List ℕ) (t : DesignText) (line : ℕ) : Type 0 where
  SameComponent : StandsAgain (component_rows (map component_of t.components)) line → TwiceAt text t line
  SamePin : StandsAgain (pin_rows (map pin_of t.pins)) line → TwiceAt text t line
  SameNet : StandsAgain (net_rows (filter_map (net_of text) t.nets)) line → TwiceAt text t line
  SameChain : StandsAgain (chain_rows t.chains) line → TwiceAt text t line
  SameSection : StandsAgain (section_rows t.sections) line → TwiceAt text t line
  SameConnection : StandsAgain (connection_rows (filter_map (net_of text) t.nets)) line → TwiceAt text t line

-- what may be wrong with a DEF text
pub data HoldsInDesign (text : List ℕ) : Fault → Type 0 where
  -- DefSyntax, at the least place of a fault of form
  Form : (f : Fault) → IsFirstOfForm text f → HoldsInDesign text f
  Number : (t : DesignText) (line : ℕ) → IsDesignText text t → NumberAt t line → HoldsInDesign text (at_line DefNumber Def line)
  Twice : (t : DesignText) (line : ℕ) → IsDesignText text t → TwiceAt text t line → HoldsInDesign text (at_line DefTwice Def line)
