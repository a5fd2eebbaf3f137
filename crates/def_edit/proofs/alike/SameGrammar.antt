-- The statements that ask for no places.
use Rattle.std.proofs.Common.{Bool, true, false}
use Rattle.token_forms.specs.Forms.{made, ◌&◌, ◌▸◌}
use Rattle.def_syntax.specs.Words.{name}
use Rattle.def_syntax.specs.Pieces.{fresh_component}
use Rattle.def_syntax.specs.Grammar.{units, component, bracket, element, elements, terminal, partition, common_pins, element_list, clause, chain}
use Rattle.def_syntax.specs.Placements.{turned, placement}
use Rattle.def_syntax.specs.OptionForms.{component_form, component_option}
use Rattle.def_syntax.proofs.OptionWords.{component_law}
use Rattle.def_edit.specs.Alike.ByWords.{IsByWords}
use Rattle.def_edit.proofs.alike.SameForms.{word_by, text_by, pair_by, made_by, made_if_by, before_by, behind_by, only_by, or_by, maybe_by, many_by, some_by, passed_by, gathered_by}
use Rattle.def_edit.proofs.alike.SameOptions.{unread_by, with_options_by}

ruleset words = (word_by, text_by, pair_by, made_by, made_if_by, before_by, behind_by, only_by, or_by, maybe_by, many_by, some_by, passed_by, gathered_by, unread_by, with_options_by)

pub units_by : IsByWords units
unfolding units
units_by = search words depth 12

turned_by : IsByWords turned
unfolding turned
turned_by = search words depth 12

pub placement_by : IsByWords placement
unfolding placement
placement_by = search (words, turned_by) depth 12

component_option_by : (closed : Bool) → IsByWords (component_option closed)
unfolding component_option
component_option_by closed = search (words, placement_by) depth 12

component_start_by : IsByWords (made fresh_component ("-" ▸ (name & name)))
component_start_by = search words depth 12

component_form_by : IsByWords component_form
unfolding component_form
component_form_by = made_by _ _ (behind_by _ ";" (with_options_by _ _ (component_option true) (component_option false) component_start_by (component_option_by true) (component_option_by false)))

pub component_by : IsByWords component
unfolding component
component_by = record { same = λ x ts us e h. component_law.there x us (component_form_by.same x ts us e (component_law.back x ts h)) }

bracket_by : IsByWords bracket
unfolding bracket
bracket_by = search words depth 12

element_by : IsByWords element
unfolding element
element_by = search (words, bracket_by) depth 12

elements_by : IsByWords elements
unfolding elements
elements_by = search (words, element_by) depth 12

terminal_by : IsByWords terminal
unfolding terminal
terminal_by = search words depth 12

partition_by : IsByWords partition
unfolding partition
partition_by = search words depth 12

common_pins_by : IsByWords common_pins
unfolding common_pins
common_pins_by = search (words, bracket_by) depth 12

element_list_by : IsByWords element_list
unfolding element_list
element_list_by = search (words, elements_by) depth 12

clause_by : IsByWords clause
unfolding clause
clause_by = search (words, partition_by, common_pins_by, terminal_by, element_list_by) depth 12

pub chain_by : IsByWords chain
unfolding chain
chain_by = search (words, clause_by) depth 12
