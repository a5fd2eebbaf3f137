-- The items of an expression (IEEE 1364-2005, 5.1.14 and 5.2): which of them are one.
use Rattle.std.specs.Prelude.{ℕ, ◌+◌, ◌-◌, Bool, true, false, ◌&&◌, not, nat_lt, ◌==◌, if◌then◌else◌, List, [], ◌∷◌, Option, Some, None}
use Rattle.std.specs.List.{list_any}
use Rattle.verilog_syntax.specs.declared.statement.Item.{Item}
use Rattle.verilog_syntax.specs.declared.statement.Item.TheVariants as items
use Rattle.verilog_syntax.specs.declared.expression.Select.{Select}
use Rattle.verilog_syntax.specs.Words.{begins_number}

-- a bit or a part of a vector
abbrev pub selected : List ℕ → List ℕ → Option (List ℕ) → Item
selected word left None = items.Bit word left
selected word left (Some right) = items.Part word left right

-- a name, with a select or not, or a constant, which has none
abbrev pub operand_of : List ℕ → Option Select → Option Item
operand_of word None = if begins_number word then Some (items.Constant word) else Some (items.Name word)
operand_of word (Some select) = if begins_number word then None else Some (selected word select.left select.right)

-- how many braces are open behind an item
abbrev pub depth_behind : ℕ → Item → ℕ
depth_behind depth items.Open = depth + 1
depth_behind depth items.Comma = depth
depth_behind depth items.Close = depth - 1
depth_behind depth (items.Name name) = depth
depth_behind depth (items.Bit name index) = depth
depth_behind depth (items.Part name left right) = depth
depth_behind depth (items.Constant text) = depth

-- an expression ends with the item
abbrev pub ends_one : Item → Bool
ends_one items.Open = false
ends_one items.Comma = false
ends_one items.Close = true
ends_one (items.Name name) = true
ends_one (items.Bit name index) = true
ends_one (items.Part name left right) = true
ends_one (items.Constant text) = true

-- the item may stand there: a comma or a closing brace behind an expression in braces, any other where one begins
abbrev pub may_stand : ℕ → Bool → Item → Bool
may_stand depth ended items.Open = not ended
may_stand depth ended items.Comma = ended && nat_lt 0 depth
may_stand depth ended items.Close = ended && nat_lt 0 depth
may_stand depth ended (items.Name name) = not ended
may_stand depth ended (items.Bit name index) = not ended
may_stand depth ended (items.Part name left right) = not ended
may_stand depth ended (items.Constant text) = not ended

-- where so many braces are open and an expression has just ended or not, the items go on to the end of the outermost one
abbrev pub nests : ℕ → Bool → List Item → Bool
nests depth ended [] = ended && depth == 0
nests depth ended (item ∷ rest) = may_stand depth ended item && nests (depth_behind depth item) (ends_one item) rest

-- an operand, or expressions with commas between them in braces
abbrev pub is_expression : List Item → Bool
is_expression all = nests 0 false all

-- or nothing
abbrev pub is_any_expression : List Item → Bool
is_any_expression [] = true
is_any_expression (item ∷ others) = is_expression (item ∷ others)

-- the item is a constant
abbrev pub is_a_constant : Item → Bool
is_a_constant items.Open = false
is_a_constant items.Comma = false
is_a_constant items.Close = false
is_a_constant (items.Name name) = false
is_a_constant (items.Bit name index) = false
is_a_constant (items.Part name left right) = false
is_a_constant (items.Constant text) = true

-- an expression without a constant
abbrev pub is_target : List Item → Bool
is_target all = is_expression all && not (list_any is_a_constant all)
