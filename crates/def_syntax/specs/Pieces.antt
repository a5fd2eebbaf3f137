-- What the pieces of a value make of it, one after the other.
use Rattle.std.specs.Prelude.{ℕ, Bool, true, false, ◌&&◌, if◌then◌else◌, List, [], ◌∷◌, ◌++◌, Option, Some, None, is_some}
use Rattle.std.specs.List.{list_any}
use Rattle.token_forms.specs.Parsing.{◌>>=◌}
use Rattle.def_syntax.specs.declared.component.ComponentOption.{ComponentOption}
use Rattle.def_syntax.specs.declared.component.ComponentOption.TheVariants as component_options
use Rattle.def_syntax.specs.declared.component.SoFar.{SoFar as ComponentSoFar}
use Rattle.def_syntax.specs.declared.component.Component.{Component}
use Rattle.def_syntax.specs.declared.pin.PinOption.{PinOption}
use Rattle.def_syntax.specs.declared.pin.PinOption.TheVariants as pin_options
use Rattle.def_syntax.specs.declared.pin.SoFar.{SoFar as PinSoFar}
use Rattle.def_syntax.specs.declared.pin.DesignPin.{DesignPin}
use Rattle.def_syntax.specs.declared.element.Bracket.{Bracket}
use Rattle.def_syntax.specs.declared.element.Bracket.TheVariants as brackets
use Rattle.def_syntax.specs.declared.element.Element.{Element}
use Rattle.def_syntax.specs.declared.element.ElementList.{ElementList}
use Rattle.def_syntax.specs.declared.element.ElementList.TheVariants as lists
use Rattle.def_syntax.specs.declared.chain.CommonPins.{CommonPins}
use Rattle.def_syntax.specs.declared.chain.Clause.{Clause}
use Rattle.def_syntax.specs.declared.chain.Clause.TheVariants as clauses
use Rattle.def_syntax.specs.declared.chain.SoFar.{SoFar as ChainSoFar}
use Rattle.def_syntax.specs.declared.chain.Chain.{Chain}

-- a value where there was none
abbrev pub once : {X S : Type 0} → Option X → S → Option S
once None s = Some s
once (Some x) s = None

-- the first value of several
abbrev pub or_else : {X : Type 0} → Option X → X → X
or_else None x = x
or_else (Some first) x = first

-- a component of which no option is read yet
abbrev pub fresh_component : List ℕ × List ℕ → ComponentSoFar
fresh_component p = record { name = p.0; cell = p.1; place = None }

-- the first option that speaks of the place decides it
abbrev pub put_component : ComponentSoFar → ComponentOption → Option ComponentSoFar
put_component s (component_options.Placed place) = Some (record s { place = Some (or_else s.place (Some place)) })
put_component s component_options.Unplaced = Some (record s { place = Some (or_else s.place None) })
put_component s component_options.Other = Some s

-- without such an option there is no place
abbrev pub component_of : ComponentSoFar → Component
component_of s = record { name = s.name; cell = s.cell; place = or_else s.place None }

-- a design pin of which no option is read yet
abbrev pub fresh_pin : List ℕ → PinSoFar
fresh_pin name = record { name = name; net = None; place = None }

-- one net, and the first place
abbrev pub put_pin : PinSoFar → PinOption → Option PinSoFar
put_pin s (pin_options.Net net) = once s.net (record s { net = Some net })
put_pin s (pin_options.Placed place) = Some (record s { place = Some (or_else s.place place) })
put_pin s pin_options.Other = Some s

-- with its net
abbrev pub pin_of : PinSoFar → Option DesignPin
pin_of s = s.net >>= λ n. Some (record { name = s.name; net = n.text; net_span = n.span; place = s.place })

-- an element without a bracket
abbrev pub fresh_element : List ℕ → Element
fresh_element name = record { name = name; input = None; output = None; bits = None }

-- each bracket at most once
abbrev pub put_bracket : Element → Bracket → Option Element
put_bracket e (brackets.In pin) = once e.input (record e { input = Some pin })
put_bracket e (brackets.Out pin) = once e.output (record e { output = Some pin })
put_bracket e (brackets.Bits count) = once e.bits (record e { bits = Some count })

-- no common pin
abbrev pub no_pins : CommonPins
no_pins = record { input = None; output = None }

-- IN before OUT, each at most once, and no BITS
abbrev pub put_common : CommonPins → Bracket → Option CommonPins
put_common c (brackets.In pin) = if is_some c.output then None else once c.input (record c { input = Some pin })
put_common c (brackets.Out pin) = once c.output (record c { output = Some pin })
put_common c (brackets.Bits count) = None

-- the list is FLOATING
abbrev pub is_floating : ElementList → Bool
is_floating (lists.Floating elements) = true
is_floating (lists.Ordered elements) = false

-- a chain of which no clause is read yet
abbrev pub fresh_chain : List ℕ → ChainSoFar
fresh_chain name = record { name = name; partition = None; common_pins = None; start = None; stop = None; lists = [] }

-- each clause at most once, but for ORDERED; the lists keep their order
abbrev pub put_clause : ChainSoFar → Clause → Option ChainSoFar
put_clause c (clauses.Partition p) = once c.partition (record c { partition = Some p })
put_clause c (clauses.CommonPins p) = once c.common_pins (record c { common_pins = Some p })
put_clause c (clauses.Start t) = once c.start (record c { start = Some t })
put_clause c (clauses.Stop t) = once c.stop (record c { stop = Some t })
put_clause c (clauses.List list) = if is_floating list && list_any is_floating c.lists then None else Some (record c { lists = c.lists ++ list ∷ [] })

-- the list has a member
abbrev pub some_list : {X : Type 0} → List X → Bool
some_list [] = false
some_list (x ∷ xs) = true

-- START, STOP and a list are there
abbrev pub chain_of : ChainSoFar → Option Chain
chain_of c =
    c.start >>= λ start. c.stop >>= λ stop.
    if some_list c.lists then Some (record { name = c.name; partition = c.partition; common_pins = c.common_pins; start = start; stop = stop; lists = c.lists })
    else None
