-- How the statements of a module are spelled in tokens (IEEE 1364-2005, annex A, in this profile).
use Rattle.std.specs.Prelude.{ℕ, List, [], Option, Some, None, if◌then◌else◌}
use Rattle.std.specs.Str.{bytes_eq}
use Rattle.std.specs.Prelude.{codes}
use Rattle.base_types.specs.declared.span.Span.{Span}
use Rattle.token_forms.specs.Classes.{Only, But}
use Rattle.token_forms.specs.Forms.{Form, text, key, ◌&◌, made, made_if, ◌▸◌, ◌◂◌, ◌only_if◌, ◌or◌, maybe, many, listed, at, between}
use Rattle.verilog_syntax.specs.declared.statement.Declared.{Declared}
use Rattle.verilog_syntax.specs.declared.statement.Declared.TheVariants as declared
use Rattle.verilog_syntax.specs.declared.statement.Range.{Range}
use Rattle.verilog_syntax.specs.declared.statement.Item.{Item}
use Rattle.verilog_syntax.specs.declared.statement.Item.TheVariants as items
use Rattle.verilog_syntax.specs.declared.statement.Expression.{Expression}
use Rattle.verilog_syntax.specs.declared.statement.Connection.{Connection}
use Rattle.verilog_syntax.specs.declared.statement.Statement.{Statement}
use Rattle.verilog_syntax.specs.declared.statement.Statement.TheVariants as statements
use Rattle.verilog_syntax.specs.declared.expression.Select.{Select}
use Rattle.verilog_syntax.specs.Words.{kinds, no_operands, marks, any, is_name, is_decimal, is_operand}
use Rattle.verilog_syntax.specs.Items.{operand_of, is_expression, is_any_expression, is_target}

-- identifier    \identifier
abbrev pub name : Form (List ℕ)
name = text (But no_operands) is_name

-- digits
abbrev pub decimal : Form (List ℕ)
decimal = text (But marks) is_decimal

-- name    constant
abbrev pub operand_word : Form (List ℕ)
operand_word = text (But no_operands) is_operand

-- [ index ]    [ left : right ]
unfoldable pub select : Form Select
select = made (λ p. record { left = p.0; right = p.1 }) ("[" ▸ (decimal & maybe (":" ▸ decimal) ◂ "]"))

-- name    name [ index ]    name [ left : right ]    constant
unfoldable pub operand : Form Item
operand = made_if (λ p. operand_of p.0 p.1) (operand_word & maybe select)

-- {    ,    }    operand
unfoldable pub item : Form Item
item =
    made (λ nothing. items.Open) (key "{")
    or made (λ nothing. items.Comma) (key ",")
    or made (λ nothing. items.Close) (key "}")
    or operand

-- an expression of its items and its place
abbrev pub expression_of : List Item × Span → Expression
expression_of p = record { items = p.0; span = p.1 }

-- . pin ( expression )    . pin ( )
unfoldable pub connection : Form Connection
connection = made (λ p. record { pin = p.0; expression = expression_of p.1 }) ("." ▸ (name & between "(" (many item only_if is_any_expression) ")"))

-- a list, or none
abbrev pub listed_or_none : {X : Type 0} → Option (List X) → List X
listed_or_none None = []
listed_or_none (Some xs) = xs

-- connection , ..    or none
unfoldable pub connections : Form (List Connection)
connections = made listed_or_none (maybe (listed connection ","))

-- cell name ( connection , .. ) ;
unfoldable pub instance : Form Statement
instance = made (λ p. statements.Instance p.0 p.1.0 p.1.1) (name & name & ("(" ▸ (connections ◂ ")")) ◂ ";")

-- assign expression = expression ;    with no constant on the left
unfoldable pub assign : Form Statement
assign =
    made (λ p. statements.Assign (expression_of p.0) (expression_of p.1))
    ("assign" ▸ (at (many item only_if is_target) & between "=" (many item only_if is_expression) ";"))

-- what a declaration's first word makes of its names
unfoldable pub kind_of : List ℕ → Option Declared
kind_of text =
    if bytes_eq text (codes "input") then Some declared.Input
    else (if bytes_eq text (codes "output") then Some declared.Output
    else (if bytes_eq text (codes "inout") then Some declared.Inout
    else (if bytes_eq text (codes "wire") then Some declared.Wire
    else (if bytes_eq text (codes "tri") then Some declared.Tri
    else (if bytes_eq text (codes "supply0") then Some declared.Supply0
    else (if bytes_eq text (codes "supply1") then Some declared.Supply1
    else None))))))

-- input    output    inout    wire    tri    supply0    supply1
unfoldable pub kind : Form Declared
kind = made_if kind_of (text (Only kinds) any)

-- [ left : right ]
unfoldable pub range : Form Range
range = made (λ p. record { left = p.0; right = p.1 }) ("[" ▸ (decimal & (":" ▸ decimal) ◂ "]"))

-- kind [ left : right ] name , .. ;
unfoldable pub declaration : Form Statement
declaration = made (λ p. statements.Declare p.0 p.1.0 p.1.1) (kind & maybe range & listed name "," ◂ ";")

-- a statement behind the header
unfoldable pub statement : Form Statement
statement = assign or declaration or instance

-- ( name , .. )    ( )
unfoldable pub ports : Form (List (List ℕ))
ports = made listed_or_none ("(" ▸ (maybe (listed name ",") ◂ ")"))

-- module name ( name , .. ) ;    the list may be left out
unfoldable pub header : Form Statement
header = made (λ p. statements.Module p.0 (listed_or_none p.1)) ("module" ▸ (name & maybe ports) ◂ ";")
