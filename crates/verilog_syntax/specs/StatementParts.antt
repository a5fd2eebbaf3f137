-- The statements of a module as lists of parts, as a writer puts them together. Meaning: Grammar; what is spelled by its
-- forms is made of these parts, and what is made of them is spelled by its forms: proofs/Parted and proofs/Joined.
use Rattle.std.specs.Prelude.{◌≡◌, ◌<◌, ℕ, Bool, true, false, List, [], ◌∷◌, ◌++◌, length, map, codes, Option, Some, None}
use Rattle.std.specs.List.{flat_map}
use Rattle.std.specs.List.{AllByRecursion as Each}
use Rattle.token_forms.specs.Parts.{Part, Fixed, Slot, list_parts}
use Rattle.verilog_syntax.specs.declared.statement.Declared.{Declared}
use Rattle.verilog_syntax.specs.declared.statement.Declared.TheVariants.{Input, Output, Inout, Wire, Tri, Supply0, Supply1}
use Rattle.verilog_syntax.specs.declared.statement.Range.{Range}
use Rattle.verilog_syntax.specs.declared.statement.Item.{Item}
use Rattle.verilog_syntax.specs.declared.statement.Item.TheVariants as items
use Rattle.verilog_syntax.specs.declared.statement.Expression.{Expression}
use Rattle.verilog_syntax.specs.declared.statement.Connection.{Connection}
use Rattle.verilog_syntax.specs.declared.statement.Statement.{Statement}
use Rattle.verilog_syntax.specs.declared.statement.Statement.TheVariants as statements
use Rattle.verilog_syntax.specs.Words.{is_name, is_decimal, is_constant}

-- the token is a name
abbrev pub IsName : List ℕ → Type 0
IsName text = is_name text ≡ true

-- the token is a decimal
abbrev pub IsDecimal : List ℕ → Type 0
IsDecimal text = is_decimal text ≡ true

-- {    ,    }    name    name [ index ]    name [ left : right ]    constant
abbrev pub item_texts : Item → List (List ℕ)
item_texts items.Open = (123 ∷ []) ∷ []
item_texts items.Comma = (44 ∷ []) ∷ []
item_texts items.Close = (125 ∷ []) ∷ []
item_texts (items.Name name) = name ∷ []
item_texts (items.Bit name index) = name ∷ (91 ∷ []) ∷ index ∷ (93 ∷ []) ∷ []
item_texts (items.Part name left right) = name ∷ (91 ∷ []) ∷ left ∷ (58 ∷ []) ∷ right ∷ (93 ∷ []) ∷ []
item_texts (items.Constant text) = text ∷ []

-- the tokens of an expression
abbrev pub expression_texts : Expression → List (List ℕ)
expression_texts e = flat_map item_texts e.items

-- the item is an operand, made of a name and decimals, or a constant
abbrev pub IsOperand : Item → Type 0
IsOperand items.Open = ⊥
IsOperand items.Comma = ⊥
IsOperand items.Close = ⊥
IsOperand (items.Name name) = IsName name
IsOperand (items.Bit name index) = IsName name × IsDecimal index
IsOperand (items.Part name left right) = IsName name × IsDecimal left × IsDecimal right
IsOperand (items.Constant text) = is_constant text ≡ true

-- an expression is an operand, or one or more expressions in braces
mutual
  pub data Tree : Type 0 where
    Operand : (item : Item) → Tree
    Braces : (inner : Trees) → Tree

  pub data Trees : Type 0 where
    Last : (tree : Tree) → Trees
    More : (tree : Tree) → (others : Trees) → Trees

-- its items in the order of the text, with commas between expressions
abbrev mutual
  pub items_of : Tree → List Item
  items_of (Operand item) = item ∷ []
  items_of (Braces inner) = items.Open ∷ (items_of_all inner ++ items.Close ∷ [])

  pub items_of_all : Trees → List Item
  items_of_all (Last tree) = items_of tree
  items_of_all (More tree others) = items_of tree ++ items.Comma ∷ items_of_all others

abbrev mutual
  pub HasOperands : Tree → Type 0
  HasOperands (Operand item) = IsOperand item
  HasOperands (Braces inner) = HaveOperands inner

  pub HaveOperands : Trees → Type 0
  HaveOperands (Last tree) = HasOperands tree
  HaveOperands (More tree others) = HasOperands tree × HaveOperands others

-- the items are one expression
pub record IsExpression (all : List Item) : Type 0 where
  pub tree : Tree
  pub is : all ≡ items_of tree
  pub operands : HasOperands tree

-- the items have no constant
abbrev pub IsVariable : Item → Type 0
IsVariable items.Open = Unit {0}
IsVariable items.Comma = Unit {0}
IsVariable items.Close = Unit {0}
IsVariable (items.Name name) = Unit {0}
IsVariable (items.Bit name index) = Unit {0}
IsVariable (items.Part name left right) = Unit {0}
IsVariable (items.Constant text) = ⊥

-- in .pin() an expression has no items
abbrev pub IsAnyExpression : List Item → Type 0
IsAnyExpression [] = Unit {0}
IsAnyExpression (item ∷ others) = IsExpression (item ∷ others)

-- tokens as parts
abbrev pub texts_parts : List (List ℕ) → List Part
texts_parts texts = map Fixed texts

-- a name as a part
abbrev pub name_parts : List ℕ → List Part
name_parts name = Fixed name ∷ []

-- the word of a kind of declaration
abbrev pub declared_text : Declared → List ℕ
declared_text Input = codes "input"
declared_text Output = codes "output"
declared_text Inout = codes "inout"
declared_text Wire = codes "wire"
declared_text Tri = codes "tri"
declared_text Supply0 = codes "supply0"
declared_text Supply1 = codes "supply1"

-- [ left : right ]
abbrev pub range_parts : Option Range → List Part
range_parts None = []
range_parts (Some range) = Fixed (91 ∷ []) ∷ Fixed range.left ∷ Fixed (58 ∷ []) ∷ Fixed range.right ∷ Fixed (93 ∷ []) ∷ []

-- . pin ( expression )
abbrev pub connection_parts : Connection → List Part
connection_parts c = Fixed (46 ∷ []) ∷ Fixed c.pin ∷ Slot 40 c.expression.span (expression_texts c.expression) 41 ∷ []

-- ( port , .. ) ;    where there are no ports, the parentheses may be left out
abbrev pub header_parts : Bool → List (List ℕ) → List Part
header_parts false ports = Fixed (59 ∷ []) ∷ []
header_parts true ports = Fixed (40 ∷ []) ∷ (list_parts name_parts 41 ports ++ Fixed (59 ∷ []) ∷ [])

-- module name header    kind range name , .. ;    assign left = right ;    cell name ( connection , .. ) ;
abbrev pub statement_parts : Bool → Statement → List Part
statement_parts listed (statements.Module name ports) = Fixed (codes "module") ∷ Fixed name ∷ header_parts listed ports
statement_parts listed (statements.Declare kind range names) = Fixed (declared_text kind) ∷ (range_parts range ++ list_parts name_parts 59 names)
statement_parts listed (statements.Assign left right) = Fixed (codes "assign") ∷ (texts_parts (expression_texts left) ++ Slot 61 right.span (expression_texts right) 59 ∷ [])
statement_parts listed (statements.Instance cell name connections) =
    Fixed cell ∷ Fixed name ∷ Fixed (40 ∷ []) ∷ (list_parts connection_parts 41 connections ++ Fixed (59 ∷ []) ∷ [])

-- both bounds of the range are decimals
abbrev pub IsGoodRange : Option Range → Type 0
IsGoodRange None = Unit {0}
IsGoodRange (Some range) = IsDecimal range.left × IsDecimal range.right

-- the pin is a name, and the expression is one or none
pub record IsGoodConnection (c : Connection) : Type 0 where
  pub pin : IsName c.pin
  pub expression : IsAnyExpression c.expression.items

-- the parentheses of a header are left out only where there are no ports
abbrev pub IsGoodHeader : Bool → List (List ℕ) → Type 0
IsGoodHeader false ports = ports ≡ []
IsGoodHeader true ports = Each IsName ports

-- the names are names, the numbers decimals, the expressions expressions; a declaration has a name at least, and the left
-- side of an assign no constant
abbrev pub IsGoodStatement : Bool → Statement → Type 0
IsGoodStatement listed (statements.Module name ports) = IsName name × IsGoodHeader listed ports
IsGoodStatement listed (statements.Declare kind range names) = IsGoodRange range × (0 < length names) × Each IsName names
IsGoodStatement listed (statements.Assign left right) = IsExpression left.items × Each IsVariable left.items × IsExpression right.items
IsGoodStatement listed (statements.Instance cell name connections) = IsName cell × IsName name × Each IsGoodConnection connections

-- the statement is the header
abbrev pub is_header : Statement → Bool
is_header (statements.Module name ports) = true
is_header (statements.Declare kind range names) = false
is_header (statements.Assign left right) = false
is_header (statements.Instance cell name connections) = false
