-- Each form of Grammar is lawful, and each statement clear.
use Rattle.std.proofs.Common.{refl, true, false, Bool, List, [], ◌∷◌}
use Rattle.token_forms.specs.Tokens.{Token}
use Rattle.token_forms.specs.Laws.{IsLawful, IsStatement}
use Rattle.token_forms.proofs.Laws.{word-lawful, text-lawful, seq-lawful, made-lawful, made_if-lawful, before-lawful, behind-lawful, only-lawful, or-lawful, maybe-lawful, many-lawful, some-lawful, passed-lawful, at-lawful, gathered-lawful}
use Rattle.token_forms.specs.Forms.{Form, made, ◌&◌, ◌▸◌}
use Rattle.def_syntax.specs.Words.{name}
use Rattle.def_syntax.specs.Options.{options}
use Rattle.def_syntax.specs.Pieces.{fresh_component, fresh_pin}
use Rattle.def_syntax.specs.Grammar.{units, component, design_pin, synthesized, connection, net_body, net, net_option, net_parts, bracket, element, elements, terminal, partition, common_pins, element_list, clause, chain}
use Rattle.def_syntax.specs.Placements.{turned, placement}
use Rattle.def_syntax.specs.OptionForms.{said, component_option, component_form, pin_option, design_pin_form}
use Rattle.def_syntax.specs.OptionLaw.{SaysSame}
use Rattle.def_syntax.specs.Statements.{IsComponentText, IsPinText}
use Rattle.def_syntax.proofs.OptionWords.{component_law, pin_law}
use Rattle.def_syntax.proofs.Unread.{unread-lawful}
use Rattle.def_syntax.proofs.OptionLaws.{Agree, plus_first, unread-agree, made-agree, before-agree, or-agree, at-agree, options-lawful, with_options-lawful}

ruleset laws = (word-lawful, text-lawful, seq-lawful, made-lawful, made_if-lawful, before-lawful, behind-lawful, only-lawful, or-lawful, maybe-lawful, many-lawful, some-lawful, passed-lawful, at-lawful, gathered-lawful, unread-lawful)

ruleset agree = (unread-agree, made-agree, before-agree, or-agree, at-agree)

units-lawful : IsLawful units
unfolding units
units-lawful = search laws depth 12

turned-lawful : IsLawful turned
unfolding turned
turned-lawful = search laws depth 12

placement-lawful : IsLawful placement
unfolding placement
placement-lawful = search (laws, turned-lawful) depth 12

component_option-lawful : (closed : Bool) → IsLawful (component_option closed)
unfolding component_option
component_option-lawful closed = search (laws, placement-lawful) depth 12

pin_option-lawful : (closed : Bool) → IsLawful (pin_option closed)
unfolding pin_option
pin_option-lawful closed = search (laws, placement-lawful) depth 12

component_option-agree : Agree plus_first (component_option true) (component_option false)
unfolding component_option
component_option-agree = search agree depth 12

pin_option-agree : Agree plus_first (pin_option true) (pin_option false)
unfolding pin_option
pin_option-agree = search agree depth 12

component_start-lawful : IsLawful (made fresh_component ("-" ▸ (name & name)))
component_start-lawful = search laws depth 12

component_form-lawful : IsLawful component_form
unfolding component_form component_option
component_form-lawful =
    made-lawful _ _ (behind-lawful _ ";" (with_options-lawful _ _ (component_option true) (component_option false) component_start-lawful (component_option-lawful true) (component_option-lawful false) component_option-agree))

-- a form that spells the same is lawful in other words too
said-lawful : {X : Type 0} (says : X → List Token → Type 0) (form : Form X) → SaysSame form.spells says → IsLawful form → IsLawful (said says form)
said-lawful says form same h = record {
  spelled = λ ts x rest e. let s = h.spelled ts x rest e in record { front = s.front; is = s.is; holds = same.there x s.front s.holds };
  read = λ clear x front rest s behind. h.read clear x front rest (same.back x front s) behind;
  first = λ x t ts s. h.first x t ts (same.back x (t ∷ ts) s);
  not_empty = λ never x s. h.not_empty never x (same.back x [] s);
}

component-lawful : IsLawful component
unfolding component
component-lawful = said-lawful IsComponentText component_form component_law component_form-lawful

pin_start-lawful : IsLawful (made fresh_pin ("-" ▸ name))
pin_start-lawful = search laws depth 12

pin_form-lawful : IsLawful design_pin_form
unfolding design_pin_form pin_option
pin_form-lawful =
    made_if-lawful _ _ (behind-lawful _ ";" (with_options-lawful _ _ (pin_option true) (pin_option false) pin_start-lawful (pin_option-lawful true) (pin_option-lawful false) pin_option-agree))

pin-lawful : IsLawful design_pin
unfolding design_pin
pin-lawful = said-lawful IsPinText design_pin_form pin_law pin_form-lawful

synthesized-lawful : IsLawful synthesized
unfolding synthesized
synthesized-lawful = search laws depth 12

connection-lawful : IsLawful connection
unfolding connection
connection-lawful = search (laws, synthesized-lawful) depth 12

net_body-lawful : IsLawful net_body
unfolding net_body
net_body-lawful = search (laws, connection-lawful) depth 12

net-lawful : IsLawful net
unfolding net
net-lawful = search (laws, net_body-lawful) depth 12

net_option-lawful : (closed : Bool) → IsLawful (net_option closed)
unfolding net_option
net_option-lawful closed = search laws depth 12

net_option-agree : Agree plus_first (net_option true) (net_option false)
unfolding net_option
net_option-agree = search agree depth 12

net_options-lawful : IsLawful (options (net_option true) (net_option false))
unfolding net_option
net_options-lawful = options-lawful (net_option true) (net_option false) (net_option-lawful true) (net_option-lawful false) net_option-agree

net_parts-lawful : IsLawful net_parts
unfolding net_parts
net_parts-lawful = search (laws, connection-lawful, net_options-lawful) depth 12

bracket-lawful : IsLawful bracket
unfolding bracket
bracket-lawful = search laws depth 12

element-lawful : IsLawful element
unfolding element
element-lawful = search (laws, bracket-lawful) depth 12

elements-lawful : IsLawful elements
unfolding elements
elements-lawful = search (laws, element-lawful) depth 12

terminal-lawful : IsLawful terminal
unfolding terminal
terminal-lawful = search laws depth 12

partition-lawful : IsLawful partition
unfolding partition
partition-lawful = search laws depth 12

common_pins-lawful : IsLawful common_pins
unfolding common_pins
common_pins-lawful = search (laws, bracket-lawful) depth 12

element_list-lawful : IsLawful element_list
unfolding element_list
element_list-lawful = search (laws, elements-lawful) depth 12

clause-lawful : IsLawful clause
unfolding clause
clause-lawful = search (laws, partition-lawful, common_pins-lawful, terminal-lawful, element_list-lawful) depth 12

chain-lawful : IsLawful chain
unfolding chain
chain-lawful = search (laws, clause-lawful) depth 12

pub units_statement : IsStatement units
unfolding units
units_statement = record { lawful = units-lawful; clear = refl; full = refl; closed = refl }

pub component_statement : IsStatement component
unfolding component component_form component_option placement turned
component_statement = record { lawful = component-lawful; clear = refl; full = refl; closed = refl }

pub pin_statement : IsStatement design_pin
unfolding design_pin design_pin_form pin_option placement turned
pin_statement = record { lawful = pin-lawful; clear = refl; full = refl; closed = refl }

pub net_statement : IsStatement net
unfolding net net_body connection synthesized
net_statement = record { lawful = net-lawful; clear = refl; full = refl; closed = refl }

pub parts_statement : IsStatement net_parts
unfolding net_parts connection synthesized net_option
parts_statement = record { lawful = net_parts-lawful; clear = refl; full = refl; closed = refl }

pub chain_statement : IsStatement chain
unfolding chain clause element_list partition common_pins terminal elements element bracket
chain_statement = record { lawful = chain-lawful; clear = refl; full = refl; closed = refl }
