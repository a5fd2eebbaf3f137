-- Short files, read by computing, and one with a fault of each kind.
use Rattle.std.proofs.Common.{◌≡◌, ◌+◌, ℕ, List, [], ◌∷◌, map, Some, refl}
use Prim.Native.String.{String}
use Rattle.std.specs.Prelude.{codes, pos}
use Rattle.token_forms.specs.Tokens.{Token}
use Rattle.def_tokens.specs.DefStatements.{statement_len}
use Rattle.def_tokens.specs.Numbers.{decimal_of}
use Rattle.lef_pins.specs.BlockReading.{items_within, passing_len, pin_item_at, macro_item_at, file_item_at, lef_at}
use Rattle.lef_pins.specs.Blocks.{name_of, FileItem, inner_len}
use Rattle.lef_pins.specs.Statements.{is_size, is_origin, is_read_rect, is_rect, is_fit_rect, rect_values, begins_size, begins_origin, is_fit_size, is_fit_origin, size_values, origin_values}
use Rattle.lef_pins.specs.Faults.{macros_of, syntax_places, number_places, twice_places}
use Rattle.lef_pins.specs.Macros.{NamedMacros}
use Rattle.lef_pins.specs.Denoted.{macro_of}

-- a token of ten bytes at ten times its number
tokens : ℕ → List String → List Token
tokens at [] = []
tokens at (w ∷ ws) = record { text = codes w; start = at; end = at + 9 } ∷ tokens (at + 10) ws

-- the macros of these tokens with their names
named : List FileItem → NamedMacros
named items = map (λ m. (name_of m.0, macro_of m.1.items)) (macros_of items)

abbrev pin_texts : List String
pin_texts =
    "MACRO" ∷ "A" ∷ "SIZE" ∷ "1" ∷ "BY" ∷ "2.5" ∷ ";" ∷ "PIN" ∷ "P" ∷ "PORT" ∷ "RECT" ∷ "MASK" ∷ "1" ∷ "0" ∷ "0" ∷ ".5" ∷ "1" ∷ ";" ∷ "END" ∷ "END" ∷ "P" ∷ "END" ∷ "A" ∷ []

a_pin : named (lef_at (tokens 0 pin_texts))
    ≡ (
      codes "A",
      record {
        w = pos 1000000;
        h = pos 2500000;
        ox = pos 0;
        oy = pos 0;
        pins = record { name = codes "P"; rect = Some (pos 0 ∷ pos 0 ∷ pos 500000 ∷ pos 1000000 ∷ []) } ∷ [];
      },
    ) ∷ []
unfolding tokens named items_within passing_len inner_len statement_len pin_item_at macro_item_at file_item_at is_read_rect rect_values begins_size begins_origin size_values origin_values decimal_of
a_pin = refl

-- behind an extension no macro begins before the next semicolon, and none in property definitions
abbrev outside_texts : List String
outside_texts =
    "BEGINEXT" ∷ ";" ∷ "MACRO" ∷ "A" ∷ "ENDEXT" ∷ "PROPERTYDEFINITIONS" ∷ "MACRO" ∷ "p" ∷ "REAL" ∷ ";" ∷ "MACRO" ∷ "q" ∷ "REAL" ∷ ";" ∷ "END" ∷ "PROPERTYDEFINITIONS" ∷ []

no_macro : named (lef_at (tokens 0 outside_texts)) ≡ []
unfolding tokens named items_within passing_len inner_len statement_len pin_item_at macro_item_at file_item_at is_read_rect rect_values begins_size begins_origin size_values origin_values decimal_of
no_macro = refl

-- a second SIZE, and a port that the pin's END closes
abbrev open_texts : List String
open_texts = "MACRO" ∷ "A" ∷ "SIZE" ∷ "1" ∷ "BY" ∷ "1" ∷ ";" ∷ "SIZE" ∷ "1" ∷ "BY" ∷ "1" ∷ ";" ∷ "PIN" ∷ "P" ∷ "PORT" ∷ "END" ∷ "P" ∷ "END" ∷ "A" ∷ []

open_pin : syntax_places (lef_at (tokens 0 open_texts)) ≡ 70 ∷ 120 ∷ 0 ∷ []
unfolding tokens items_within passing_len inner_len statement_len pin_item_at macro_item_at file_item_at is_size is_origin is_read_rect is_rect begins_size begins_origin
open_pin = refl

-- seven digits behind the point
abbrev fine_texts : List String
fine_texts = "MACRO" ∷ "A" ∷ "SIZE" ∷ "1" ∷ "BY" ∷ "1.0000001" ∷ ";" ∷ "END" ∷ "A" ∷ []

too_fine : number_places (lef_at (tokens 0 fine_texts)) ≡ 20 ∷ []
unfolding tokens items_within passing_len inner_len statement_len pin_item_at macro_item_at file_item_at is_size is_origin is_read_rect is_rect is_fit_rect begins_size begins_origin is_fit_size is_fit_origin decimal_of
too_fine = refl

-- a pin and a macro that stand a second time
abbrev twice_texts : List String
twice_texts = "MACRO" ∷ "A" ∷ "PIN" ∷ "P" ∷ "END" ∷ "P" ∷ "PIN" ∷ "P" ∷ "END" ∷ "P" ∷ "END" ∷ "A" ∷ "MACRO" ∷ "A" ∷ "END" ∷ "A" ∷ []

both_twice : twice_places (lef_at (tokens 0 twice_texts)) ≡ 60 ∷ 120 ∷ []
unfolding tokens items_within passing_len inner_len statement_len pin_item_at macro_item_at file_item_at
both_twice = refl
