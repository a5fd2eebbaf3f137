-- The tokens of a statement have one semicolon, at their end, and no endmodule.
use Rattle.std.proofs.Common.{◌≡◌, ℕ, ◌<◌, Bool, true, false, List, [], ◌∷◌, ◌++◌, length, codes, Option, Some, None, refl, sym, ap, ◌∙◌, subst, arith, append_assoc}
use Rattle.std.specs.List.{flat_map}
use Rattle.std.specs.List.{AllByRecursion as Each}
use Rattle.token_forms.specs.Parts.{Part, Fixed, Slot, list_parts, spelled}
use Rattle.token_forms.proofs.Spelled.{spelled_append}
use Rattle.verilog_syntax.specs.declared.statement.Declared.{Declared}
use Rattle.verilog_syntax.specs.declared.statement.Declared.TheVariants as declared
use Rattle.verilog_syntax.specs.declared.statement.Range.{Range}
use Rattle.verilog_syntax.specs.declared.statement.Item.{Item}
use Rattle.verilog_syntax.specs.declared.statement.Item.TheVariants as items
use Rattle.verilog_syntax.specs.declared.statement.Connection.{Connection}
use Rattle.verilog_syntax.specs.declared.statement.Statement.{Statement}
use Rattle.verilog_syntax.specs.declared.statement.Statement.TheVariants as statements
use Rattle.verilog_syntax.specs.StatementParts.{IsName, item_texts, expression_texts, IsExpression, IsAnyExpression, texts_parts, name_parts, declared_text, range_parts, connection_parts, header_parts, statement_parts, IsGoodRange, IsGoodConnection, IsGoodHeader, IsGoodStatement}
use Rattle.verilog_syntax.proofs.Apart.{IsInner, name_inner, decimal_inner, constant_inner}
use Rattle.verilog_syntax.proofs.Nesting.{IsItem, expression_nests}
use Rattle.verilog_syntax.proofs.ReadForms.{spelled_texts}

abbrev AllInner : List (List ℕ) → Type 0
AllInner ws = Each IsInner ws

all_join : (us ws : List (List ℕ)) → AllInner us → AllInner ws → AllInner (us ++ ws)
all_join [] ws a b = b
all_join (u ∷ us) ws a b = (a.0, all_join us ws a.1 b)

item_inner : (i : Item) → IsItem i → AllInner (item_texts i)
item_inner items.Open good = ((refl, refl), tt)
item_inner items.Comma good = ((refl, refl), tt)
item_inner items.Close good = ((refl, refl), tt)
item_inner (items.Name name) good = (name_inner name good, tt)
item_inner (items.Bit name index) good = (name_inner name good.0, ((refl, refl), (decimal_inner index good.1, ((refl, refl), tt))))
item_inner (items.Part name left right) good = (name_inner name good.0, ((refl, refl), (decimal_inner left good.1, ((refl, refl), (decimal_inner right good.2, ((refl, refl), tt))))))
item_inner (items.Constant text) good = (constant_inner text good, tt)

items_inner : (all : List Item) → Each IsItem all → AllInner (flat_map item_texts all)
items_inner [] good = tt
items_inner (i ∷ others) good = all_join (item_texts i) (flat_map item_texts others) (item_inner i good.0) (items_inner others good.1)

expression_inner : (all : List Item) → IsExpression all → AllInner (flat_map item_texts all)
expression_inner all good = items_inner all (expression_nests all good).1

any_inner : (all : List Item) → IsAnyExpression all → AllInner (flat_map item_texts all)
any_inner [] good = tt
any_inner (i ∷ others) good = expression_inner (i ∷ others) good

connection_inner : (c : Connection) → IsGoodConnection c → AllInner (spelled (connection_parts c))
connection_inner c good =
    let inner = all_join (expression_texts c.expression) ((41 ∷ []) ∷ []) (any_inner c.expression.items good.expression) ((refl, refl), tt) in
    ((refl, refl), (name_inner c.pin good.pin, ((refl, refl), inner)))

one_inner : (name : List ℕ) → IsName name → AllInner (spelled (name_parts name))
one_inner name good = (name_inner name good, tt)

-- a list up to its closing parenthesis
list_inner : {X : Type 0} (parts : X → List Part) (Good : X → Type 0) → ((x : X) → Good x → AllInner (spelled (parts x))) → (xs : List X) → Each Good xs → AllInner (spelled (list_parts parts 41 xs))
list_inner parts Good law [] good = ((refl, refl), tt)
list_inner parts Good law (x ∷ []) good =
    subst AllInner (sym (spelled_append (parts x) (Fixed (41 ∷ []) ∷ []))) (all_join (spelled (parts x)) ((41 ∷ []) ∷ []) (law x good.0) ((refl, refl), tt))
list_inner parts Good law (x ∷ y ∷ ys) good =
    subst AllInner (sym (spelled_append (parts x) (Fixed (44 ∷ []) ∷ list_parts parts 41 (y ∷ ys))))
    (all_join (spelled (parts x)) _ (law x good.0) ((refl, refl), list_inner parts Good law (y ∷ ys) good.1))

-- some texts, and a semicolon behind them
pub record Shape (ws : List (List ℕ)) : Type 0 where
  pub front : List (List ℕ)
  pub is : ws ≡ front ++ (59 ∷ []) ∷ []
  pub inner : Each IsInner front

shape_more : (us ws : List (List ℕ)) → AllInner us → Shape ws → Shape (us ++ ws)
shape_more us ws inner s =
    record { front = us ++ s.front; is = ap (λ (l : List (List ℕ)). us ++ l) s.is ∙ sym (append_assoc us s.front ((59 ∷ []) ∷ [])); inner = all_join us s.front inner s.inner }

semicolon : Shape ((59 ∷ []) ∷ [])
semicolon = record { front = []; is = refl; inner = tt }

names_shape : (names : List (List ℕ)) → 0 < length names → Each IsName names → Shape (spelled (list_parts name_parts 59 names))
names_shape [] some good = absurd (omega arith)
names_shape (n ∷ []) some good = shape_more (n ∷ []) _ (one_inner n good.0) semicolon
names_shape (n ∷ m ∷ ms) some good = shape_more (n ∷ (44 ∷ []) ∷ []) _ (name_inner n good.0, ((refl, refl), tt)) (names_shape (m ∷ ms) (omega arith) good.1)

kind_inner : (kind : Declared) → IsInner (declared_text kind)
kind_inner declared.Input = (refl, refl)
kind_inner declared.Output = (refl, refl)
kind_inner declared.Inout = (refl, refl)
kind_inner declared.Wire = (refl, refl)
kind_inner declared.Tri = (refl, refl)
kind_inner declared.Supply0 = (refl, refl)
kind_inner declared.Supply1 = (refl, refl)

range_inner : (range : Option Range) → IsGoodRange range → AllInner (spelled (range_parts range))
range_inner None good = tt
range_inner (Some range) good = ((refl, refl), (decimal_inner range.left good.0, ((refl, refl), (decimal_inner range.right good.1, ((refl, refl), tt)))))

-- parts, and others behind them
parts_shape : (ps qs : List Part) → AllInner (spelled ps) → Shape (spelled qs) → Shape (spelled (ps ++ qs))
parts_shape ps qs inner s = subst Shape (sym (spelled_append ps qs)) (shape_more (spelled ps) (spelled qs) inner s)

header_shape : (listed : Bool) (ports : List (List ℕ)) → IsGoodHeader listed ports → Shape (spelled (header_parts listed ports))
header_shape false ports good = semicolon
header_shape true ports good =
    shape_more ((40 ∷ []) ∷ []) _ ((refl, refl), tt) (parts_shape (list_parts name_parts 41 ports) (Fixed (59 ∷ []) ∷ []) (list_inner name_parts IsName one_inner ports good) semicolon)

pub statement_shape : (listed : Bool) (s : Statement) → IsGoodStatement listed s → Shape (spelled (statement_parts listed s))
statement_shape listed (statements.Module name ports) good =
    shape_more (codes "module" ∷ name ∷ []) _ ((refl, refl), (name_inner name good.0, tt)) (header_shape listed ports good.1)
statement_shape listed (statements.Declare kind range names) good =
    shape_more (declared_text kind ∷ []) _ (kind_inner kind, tt)
    (parts_shape (range_parts range) (list_parts name_parts 59 names) (range_inner range good.0) (names_shape names good.1 good.2))
statement_shape listed (statements.Assign left right) good =
    let target = subst AllInner (sym (spelled_texts (expression_texts left))) (expression_inner left.items good.0) in
    let source = shape_more ((61 ∷ []) ∷ []) _ ((refl, refl), tt) (shape_more (expression_texts right) _ (expression_inner right.items good.2) semicolon) in
    shape_more (codes "assign" ∷ []) _ ((refl, refl), tt) (parts_shape (texts_parts (expression_texts left)) (Slot 61 right.span (expression_texts right) 59 ∷ []) target source)
statement_shape listed (statements.Instance cell name connections) good =
    shape_more (cell ∷ name ∷ (40 ∷ []) ∷ []) _ (name_inner cell good.0, (name_inner name good.1, ((refl, refl), tt)))
    (parts_shape (list_parts connection_parts 41 connections) (Fixed (59 ∷ []) ∷ []) (list_inner connection_parts IsGoodConnection connection_inner connections good.2) semicolon)
