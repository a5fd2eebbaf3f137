-- The items of a list that holds one of them without a `Vec`.
use Rattle.std.specs.Prelude.{List, [], ◌∷◌}
use Rattle.verilog_syntax.specs.declared.statement.Item.{Item}
use Rattle.verilog_syntax.specs.declared.item_list.Held.{Held}
use Rattle.verilog_syntax.specs.declared.item_list.Held.TheVariants as helds

-- the items that are held
abbrev pub items_of : Held → List Item
items_of helds.Empty = []
items_of (helds.One item) = item ∷ []
items_of (helds.More items) = items.items
