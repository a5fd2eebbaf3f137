-- The made LEF, by computing.
use Rattle.std.proofs.Common.{◌≡◌, [], refl, map}
use Rattle.token_forms.specs.Pieces.{tokens_from}
use Rattle.def_tokens.specs.DefTokens.{piece_at, tokens_in}
use Rattle.def_tokens.specs.DefStatements.{statement_len}
use Rattle.def_tokens.specs.Numbers.{decimal_of}
use Rattle.design_maker.specs.MadeCells.{lef_text}
use Rattle.lef_pins.specs.BlockReading.{items_within, passing_len, pin_item_at, macro_item_at, file_item_at, lef_at}
use Rattle.lef_pins.specs.Blocks.{name_of, inner_len}
use Rattle.lef_pins.specs.Statements.{is_size, is_origin, is_read_rect, is_rect, is_fit_rect, rect_values, begins_size, begins_origin, is_fit_size, is_fit_origin, size_values, origin_values}
use Rattle.lef_pins.specs.Faults.{macros_of, syntax_places, number_places, twice_places}
use Rattle.lef_pins.specs.Denoted.{macro_of}
use Rattle.lef_pins.proofs.Trees.{lef_law}
use Rattle.lef_pins.proofs.LefFaults.{no_fault}
use Rattle.made_law.specs.Designs.MadeMacros.{made_macros}
use Rattle.made_law.specs.Designs.Laws.{MacrosLaw, NoLefFaultLaw}

no_syntax : syntax_places (lef_at (tokens_in lef_text)) ≡ []
unfolding tokens_from piece_at items_within passing_len inner_len statement_len pin_item_at macro_item_at file_item_at is_size is_origin is_read_rect is_rect begins_size begins_origin
no_syntax = refl

no_number : number_places (lef_at (tokens_in lef_text)) ≡ []
unfolding tokens_from piece_at items_within passing_len inner_len statement_len pin_item_at macro_item_at file_item_at is_size is_origin is_read_rect is_rect is_fit_rect begins_size begins_origin is_fit_size is_fit_origin decimal_of
no_number = refl

no_twice : twice_places (lef_at (tokens_in lef_text)) ≡ []
unfolding tokens_from piece_at items_within passing_len inner_len statement_len pin_item_at macro_item_at file_item_at
no_twice = refl

macros_are : made_macros ≡ map (λ m. (name_of m.0, macro_of m.1.items)) (macros_of (lef_at (tokens_in lef_text)))
unfolding tokens_from piece_at items_within passing_len inner_len statement_len pin_item_at macro_item_at file_item_at is_read_rect rect_values begins_size begins_origin size_values origin_values decimal_of
macros_are = refl

pub lef_denotes : MacrosLaw
lef_denotes = record { items = lef_at (tokens_in lef_text); is = lef_law (tokens_in lef_text); no_syntax = no_syntax; no_number = no_number; no_twice = no_twice; values = macros_are }

pub lef_faultless : NoLefFaultLaw
lef_faultless = no_fault lef_text no_syntax no_number no_twice
