-- Statements of the language reference's kind, read by computing, and one of no form of each kind.
use Rattle.std.proofs.Common.{◌≡◌, ◌+◌, ℕ, List, [], ◌∷◌, Some, None, true, false, refl}
use Prim.Native.String.{String}
use Rattle.std.specs.Prelude.{codes}
use Rattle.token_forms.specs.Parsing.{word_at}
use Rattle.token_forms.specs.Tokens.{Token}
use Rattle.token_forms.specs.Forms.{text_at, many_within, many_at, put_all, gathered_at, passes_at}
use Rattle.def_syntax.specs.Options.{rest_at, depth_at, word_in, unread_at}
use Rattle.def_syntax.specs.Grammar.{units, component, design_pin, synthesized, connection, net_body, net, net_option, net_parts, bracket, element, elements, terminal, partition, common_pins, element_list, clause, chain}
use Rattle.def_syntax.specs.Placements.{orient_of, turned, placement}
use Rattle.def_syntax.specs.OptionForms.{component_form, component_option, design_pin_form, pin_option}
use Rattle.def_tokens.specs.declared.orient.Orient.TheVariants as orient
use Rattle.def_syntax.specs.declared.net.NetStatement.TheVariants as net_statements
use Rattle.def_syntax.specs.declared.chain.Terminal.TheVariants as terminals
use Rattle.def_syntax.specs.declared.element.ElementList.TheVariants as lists

-- a token of ten bytes at ten times its number
tokens : ℕ → List String → List Token
tokens at [] = []
tokens at (w ∷ ws) = record { text = codes w; start = at; end = at + 9 } ∷ tokens (at + 10) ws

micron : units.reads (tokens 0 ("UNITS" ∷ "DISTANCE" ∷ "MICRONS" ∷ "+1000" ∷ ";" ∷ [])) ≡ Some (record { number = codes "+1000" }, [])
unfolding tokens units word_at text_at
micron = refl

no_integer : units.reads (tokens 0 ("UNITS" ∷ "DISTANCE" ∷ "MICRONS" ∷ "1e3" ∷ ";" ∷ [])) ≡ None
unfolding tokens units word_at text_at
no_integer = refl

-- a bracket that stays open behind a placement holds what stands in it
abbrev placed_texts : List String
placed_texts =
    "-" ∷ "a" ∷ "SDF" ∷ "+" ∷ "SOURCE" ∷ "(" ∷ "+" ∷ "UNPLACED" ∷ ")" ∷ "+" ∷ "PLACED" ∷ "(" ∷ "-10" ∷ "0" ∷ ")" ∷ "FN" ∷ "+" ∷ "x" ∷ ")" ∷ "(" ∷ "+" ∷ "PLACED" ∷ ";" ∷ []

placed : component.reads (tokens 0 placed_texts) ≡ Some (
  record { name = codes "a"; cell = codes "SDF"; place = Some (record { x = codes "-10"; y = codes "0"; orient = orient.FN }) },
  [],
)
unfolding tokens component component_form component_option placement turned orient_of word_at text_at many_within many_at put_all gathered_at rest_at depth_at word_in unread_at
placed = refl

abbrev unplaced_texts : List String
unplaced_texts = "-" ∷ "a" ∷ "SDF" ∷ "+" ∷ "+" ∷ "UNPLACED" ∷ "+" ∷ "PLACED" ∷ "(" ∷ "1" ∷ "2" ∷ ")" ∷ "N" ∷ ";" ∷ []

unplaced : component.reads (tokens 0 unplaced_texts) ≡ Some (record { name = codes "a"; cell = codes "SDF"; place = None }, [])
unfolding tokens component component_form component_option placement turned orient_of word_at text_at many_within many_at put_all gathered_at rest_at depth_at word_in unread_at
unplaced = refl

no_orientation : component.reads (tokens 0 ("-" ∷ "a" ∷ "SDF" ∷ "+" ∷ "FIXED" ∷ "(" ∷ "10" ∷ "0" ∷ ")" ∷ ";" ∷ [])) ≡ None
unfolding tokens component component_form component_option placement turned orient_of word_at text_at many_within many_at put_all gathered_at rest_at depth_at word_in unread_at
no_orientation = refl

abbrev pin_texts : List String
pin_texts = "-" ∷ "si" ∷ "+" ∷ "UNPLACED" ∷ "more" ∷ "+" ∷ "NET" ∷ "n1" ∷ "+" ∷ "COVER" ∷ "(" ∷ "1" ∷ "2" ∷ ")" ∷ "W" ∷ ";" ∷ []

one_pin : design_pin.reads (tokens 0 pin_texts) ≡ Some (
  record { name = codes "si"; net = codes "n1"; net_span = record { start = 70; end = 79 }; place = Some (record { x = codes "1"; y = codes "2"; orient = orient.W }) },
  [],
)
unfolding tokens design_pin design_pin_form pin_option placement turned orient_of word_at text_at many_within many_at put_all gathered_at rest_at depth_at word_in unread_at
one_pin = refl

two_nets : design_pin.reads (tokens 0 ("-" ∷ "si" ∷ "+" ∷ "NET" ∷ "a" ∷ "+" ∷ "NET" ∷ "a" ∷ ";" ∷ [])) ≡ None
unfolding tokens design_pin design_pin_form pin_option placement turned orient_of word_at text_at many_within many_at put_all gathered_at rest_at depth_at word_in unread_at
two_nets = refl

abbrev net_texts : List String
net_texts = "-" ∷ "qa" ∷ "(" ∷ "a" ∷ "Q" ∷ ")" ∷ "(" ∷ "PIN" ∷ "so" ∷ "+" ∷ "SYNTHESIZED" ∷ ")" ∷ "+" ∷ "ROUTED" ∷ "M1" ∷ "+" ∷ ";" ∷ []

routed : net.reads (tokens 0 net_texts) ≡ Some (
  net_statements.Net (record {
    name = codes "qa";
    connections = record { component = record { start = 30; end = 39 }; pin = record { start = 40; end = 49 }; start = 20; synthesized = false }
        ∷ record { component = record { start = 70; end = 79 }; pin = record { start = 80; end = 89 }; start = 60; synthesized = true } ∷ [];
  }),
  [],
)
unfolding tokens net net_body connection synthesized word_at text_at many_within many_at passes_at
routed = refl

no_pin : net.reads (tokens 0 ("-" ∷ "qa" ∷ "(" ∷ "a" ∷ ")" ∷ ";" ∷ [])) ≡ None
unfolding tokens net net_body connection synthesized word_at text_at many_within many_at passes_at
no_pin = refl

must_join : net.reads (tokens 0 ("-" ∷ "MUSTJOIN" ∷ "(" ∷ "+" ∷ "x" ∷ ";" ∷ [])) ≡ Some (net_statements.MustJoin, [])
unfolding tokens net net_body connection synthesized word_at text_at many_within many_at passes_at
must_join = refl

parts : net_parts.reads (tokens 0 net_texts) ≡ Some (
  record {
    name = codes "qa";
    connections = record { component = record { start = 30; end = 39 }; pin = record { start = 40; end = 49 }; start = 20; synthesized = false }
        ∷ record { component = record { start = 70; end = 79 }; pin = record { start = 80; end = 89 }; start = 60; synthesized = true } ∷ [];
    options = record { word = Some (codes "ROUTED"); span = record { start = 120; end = 149 } } ∷ record { word = None; span = record { start = 150; end = 159 } } ∷ [];
  },
  [],
)
unfolding tokens net_parts connection synthesized net_option word_at text_at many_within many_at rest_at depth_at word_in unread_at
parts = refl

abbrev chain_texts : List String
chain_texts =
    "-" ∷ "c" ∷ "+" ∷ "START" ∷ "PIN" ∷ "si" ∷ "+" ∷ "ORDERED" ∷ "p" ∷ "(" ∷ "BITS" ∷ "2" ∷ ")" ∷ "+" ∷ "PARTITION" ∷ "g" ∷ "MAXBITS" ∷ "0" ∷ "+" ∷ "FLOATING" ∷ "a" ∷ "(" ∷ "OUT" ∷ "Q" ∷ ")" ∷ "("
    ∷ "IN" ∷ "SI" ∷ ")" ∷ "b" ∷ "+" ∷ "STOP" ∷ "z" ∷ ";" ∷ []

one_chain : chain.reads (tokens 0 chain_texts) ≡ Some (
  record {
    name = codes "c";
    partition = Some (record { name = codes "g"; max_bits = Some (codes "0") });
    common_pins = None;
    start = terminals.AtPin (codes "si");
    stop = terminals.AtCell (codes "z") None;
    lists = lists.Ordered (record { name = codes "p"; input = None; output = None; bits = Some (codes "2") } ∷ [])
        ∷ lists.Floating (record { name = codes "a"; input = Some (codes "SI"); output = Some (codes "Q"); bits = None } ∷ record { name = codes "b"; input = None; output = None; bits = None } ∷ []) ∷ [];
  },
  [],
)
unfolding tokens chain clause element_list partition common_pins terminal elements element bracket word_at text_at many_within many_at put_all gathered_at
one_chain = refl

no_stop : chain.reads (tokens 0 ("-" ∷ "c" ∷ "+" ∷ "START" ∷ "PIN" ∷ "si" ∷ "+" ∷ "FLOATING" ∷ "a" ∷ ";" ∷ [])) ≡ None
unfolding tokens chain clause element_list partition common_pins terminal elements element bracket word_at text_at many_within many_at put_all gathered_at
no_stop = refl

no_pin_behind : chain.reads (tokens 0 ("-" ∷ "c" ∷ "+" ∷ "START" ∷ "PIN" ∷ "+" ∷ "FLOATING" ∷ "a" ∷ "+" ∷ "STOP" ∷ "z" ∷ ";" ∷ [])) ≡ None
unfolding tokens chain clause element_list partition common_pins terminal elements element bracket word_at text_at many_within many_at put_all gathered_at
no_pin_behind = refl
