-- Parts with other texts at the places of some edits, and that these spell the changed statements.
use Rattle.std.proofs.Common.{◌≡◌, ℕ, Bool, true, false, cond, List, [], ◌∷◌, ◌++◌, map, codes, Option, Some, None, refl, sym, ap, ◌∙◌}
use Rattle.std.specs.Prelude.{if◌then◌else◌}
use Rattle.std.specs.List.{flat_map}
use Rattle.std.proofs.lemmas.List.{append-nil}
use Rattle.base_types.specs.declared.span.Span.{Span}
use Rattle.token_forms.specs.Parts.{Part, Fixed, Slot, list_parts}
use Rattle.verilog_syntax.specs.declared.statement.Range.{Range}
use Rattle.verilog_syntax.specs.declared.statement.Item.{Item}
use Rattle.verilog_syntax.specs.declared.statement.Connection.{Connection}
use Rattle.verilog_syntax.specs.declared.statement.Statement.{Statement}
use Rattle.verilog_syntax.specs.declared.statement.Statement.TheVariants as statements
use Rattle.verilog_syntax.specs.declared.reading.Placed.{Placed}
use Rattle.verilog_syntax.specs.StatementParts.{item_texts, expression_texts, texts_parts, name_parts, declared_text, range_parts, connection_parts, header_parts, statement_parts}
use Rattle.verilog_syntax.specs.Laws.{module_parts}
use Rattle.verilog_writer.specs.VerilogText.{BitEdit, net_item, is_at, changed_items, changed_connection, changed_statement, changed_statements}

-- the texts of the tokens at a place
abbrev pub new_texts : List BitEdit → Span → List (List ℕ) → List (List ℕ)
new_texts [] place ws = ws
new_texts (e ∷ edits) place ws = if is_at e.span place then item_texts (net_item e.bit) else new_texts edits place ws

abbrev pub changed_parts : List BitEdit → List Part → List Part
changed_parts edits [] = []
changed_parts edits (Fixed w ∷ ps) = Fixed w ∷ changed_parts edits ps
changed_parts edits (Slot o place ws c ∷ ps) = Slot o place (new_texts edits place ws) c ∷ changed_parts edits ps

pub changed_none : (ps : List Part) → changed_parts [] ps ≡ ps
changed_none [] = refl
changed_none (Fixed w ∷ ps) = ap (λ (l : List Part). Fixed w ∷ l) (changed_none ps)
changed_none (Slot o place ws c ∷ ps) = ap (λ (l : List Part). Slot o place ws c ∷ l) (changed_none ps)

module _ (edits : List BitEdit) where
  changed_append : (ps qs : List Part) → changed_parts edits (ps ++ qs) ≡ changed_parts edits ps ++ changed_parts edits qs
  changed_append [] qs = refl
  changed_append (Fixed w ∷ ps) qs = ap (λ (l : List Part). Fixed w ∷ l) (changed_append ps qs)
  changed_append (Slot o place ws c ∷ ps) qs = ap (λ (l : List Part). Slot o place (new_texts edits place ws) c ∷ l) (changed_append ps qs)

  changed_list : {X : Type 0} (parts : X → List Part) (f : X → X) (closing : ℕ) (xs : List X) → ((x : X) → changed_parts edits (parts x) ≡ parts (f x))
      → changed_parts edits (list_parts parts closing xs) ≡ list_parts parts closing (map f xs)
  changed_list parts f closing [] each = refl
  changed_list parts f closing (x ∷ []) each = changed_append (parts x) (Fixed (closing ∷ []) ∷ []) ∙ ap (λ (l : List Part). l ++ Fixed (closing ∷ []) ∷ []) (each x)
  changed_list parts f closing (x ∷ y ∷ ys) each =
      changed_append (parts x) (Fixed (44 ∷ []) ∷ list_parts parts closing (y ∷ ys))
      ∙ ap (λ (l : List Part). l ++ Fixed (44 ∷ []) ∷ changed_parts edits (list_parts parts closing (y ∷ ys))) (each x)
      ∙ ap (λ (l : List Part). parts (f x) ++ Fixed (44 ∷ []) ∷ l) (changed_list parts f closing (y ∷ ys) each)

  changed_names : (closing : ℕ) (names : List (List ℕ)) → changed_parts edits (list_parts name_parts closing names) ≡ list_parts name_parts closing names
  changed_names closing [] = refl
  changed_names closing (x ∷ []) = refl
  changed_names closing (x ∷ y ∷ ys) = ap (λ (l : List Part). Fixed x ∷ Fixed (44 ∷ []) ∷ l) (changed_names closing (y ∷ ys))

  -- tokens that stay
  kept_texts : (ws : List (List ℕ)) → changed_parts edits (texts_parts ws) ≡ texts_parts ws
  kept_texts [] = refl
  kept_texts (w ∷ ws) = ap (λ (l : List Part). Fixed w ∷ l) (kept_texts ws)

  kept_range : (range : Option Range) → changed_parts edits (range_parts range) ≡ range_parts range
  kept_range None = refl
  kept_range (Some range) = refl

  kept_header : (listed : Bool) (ports : List (List ℕ)) → changed_parts edits (header_parts listed ports) ≡ header_parts listed ports
  kept_header false ports = refl
  kept_header true ports =
      ap (λ (l : List Part). Fixed (40 ∷ []) ∷ l) (changed_append (list_parts name_parts 41 ports) (Fixed (59 ∷ []) ∷ []) ∙ ap (λ (l : List Part). l ++ Fixed (59 ∷ []) ∷ []) (changed_names 41 ports))

-- an expression's tokens are those of its items
items_changed : (edits : List BitEdit) (place : Span) (old : List Item) → flat_map item_texts (changed_items edits place old) ≡ new_texts edits place (flat_map item_texts old)
items_changed [] place old = refl
items_changed (e ∷ edits) place old =
    elim (is_at e.span place) as (λ t. flat_map item_texts (cond t (net_item e.bit ∷ []) (changed_items edits place old)) ≡ cond t (item_texts (net_item e.bit)) (new_texts edits place (flat_map item_texts old))) [
      | true ↦ append-nil (item_texts (net_item e.bit))
      | false ↦ items_changed edits place old
    ]

connection_changed : (edits : List BitEdit) (c : Connection) → changed_parts edits (connection_parts c) ≡ connection_parts (changed_connection edits c)
connection_changed edits c = ap (λ (ws : List (List ℕ)). Fixed (46 ∷ []) ∷ Fixed c.pin ∷ Slot 40 c.expression.span ws 41 ∷ []) (sym (items_changed edits c.expression.span c.expression.items))

statement_changed : (edits : List BitEdit) (listed : Bool) (s : Statement) → changed_parts edits (statement_parts listed s) ≡ statement_parts listed (changed_statement edits s)
statement_changed edits listed (statements.Module name ports) = ap (λ (l : List Part). Fixed (codes "module") ∷ Fixed name ∷ l) (kept_header edits listed ports)
statement_changed edits listed (statements.Declare kind range names) =
    ap (λ (l : List Part). Fixed (declared_text kind) ∷ l)
    (changed_append edits (range_parts range) (list_parts name_parts 59 names)
    ∙ ap (λ (l : List Part). l ++ changed_parts edits (list_parts name_parts 59 names)) (kept_range edits range)
    ∙ ap (λ (l : List Part). range_parts range ++ l) (changed_names edits 59 names))
statement_changed edits listed (statements.Assign left right) =
    ap (λ (l : List Part). Fixed (codes "assign") ∷ l)
    (changed_append edits (texts_parts (expression_texts left)) (Slot 61 right.span (expression_texts right) 59 ∷ [])
    ∙ ap (λ (l : List Part). l ++ Slot 61 right.span (new_texts edits right.span (expression_texts right)) 59 ∷ []) (kept_texts edits (expression_texts left))
    ∙ ap (λ (ws : List (List ℕ)). texts_parts (expression_texts left) ++ Slot 61 right.span ws 59 ∷ []) (sym (items_changed edits right.span right.items)))
statement_changed edits listed (statements.Instance cell name connections) =
    ap (λ (l : List Part). Fixed cell ∷ Fixed name ∷ Fixed (40 ∷ []) ∷ l)
    (changed_append edits (list_parts connection_parts 41 connections) (Fixed (59 ∷ []) ∷ [])
    ∙ ap (λ (l : List Part). l ++ Fixed (59 ∷ []) ∷ []) (changed_list edits connection_parts (changed_connection edits) 41 connections (connection_changed edits)))

pub module_changed : (edits : List BitEdit) (listed : Bool) (ps : List Placed) → changed_parts edits (module_parts listed ps) ≡ module_parts listed (changed_statements edits ps)
module_changed edits listed [] = refl
module_changed edits listed (p ∷ ps) =
    changed_append edits (statement_parts listed p.statement) (module_parts listed ps)
    ∙ ap (λ (l : List Part). l ++ changed_parts edits (module_parts listed ps)) (statement_changed edits listed p.statement)
    ∙ ap (λ (l : List Part). statement_parts listed (changed_statement edits p.statement) ++ l) (module_changed edits listed ps)
