-- How many items and members a value has.
use Rattle.std.proofs.Common.{◌≡◌, suc, List, [], ◌∷◌, length, String, Global, refl, ap}
use Rattle.toml.specs.View.{items_view, members_view}
use Rattle.toml.specs.declared.value.Value.{Value}
use Rattle.cell_table.specs.Cells.{items_len, members_len}

pub items_len_view : (vs : List Value) → items_len (items_view vs) ≡ length vs
items_len_view [] = refl
items_len_view (v ∷ vs) = ap suc (items_len_view vs)

pub members_len_view : (es : List (String Global × Value)) → members_len (members_view es) ≡ length es
members_len_view [] = refl
members_len_view (e ∷ es) = ap suc (members_len_view es)
