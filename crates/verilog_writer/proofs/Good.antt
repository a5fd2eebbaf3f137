-- The changed statements are good ones.
use Rattle.std.proofs.Common.{◌≡◌, Bool, true, false, cond, List, [], ◌∷◌, map, refl, ◌∙◌}
use Rattle.std.specs.List.{AllByRecursion as Each}
use Rattle.base_types.specs.declared.span.Span.{Span}
use Rattle.verilog_syntax.specs.declared.statement.Item.{Item}
use Rattle.verilog_syntax.specs.declared.statement.Connection.{Connection}
use Rattle.verilog_syntax.specs.declared.statement.Statement.{Statement}
use Rattle.verilog_syntax.specs.declared.statement.Statement.TheVariants as statements
use Rattle.verilog_syntax.specs.declared.reading.Placed.{Placed}
use Rattle.verilog_syntax.specs.StatementParts.{Operand, IsExpression, IsAnyExpression, IsGoodConnection, IsGoodStatement, is_header}
use Rattle.verilog_syntax.specs.Laws.{AreInOrder, AreGood}
use Rattle.verilog_writer.specs.VerilogText.{NetBit, BitEdit, net_item, is_at, changed_items, changed_connection, changed_statement, changed_statements, IsNetBit}
use Rattle.verilog_writer.proofs.Bits.{bit_item}

abbrev AreBits : List BitEdit → Type 0
AreBits edits = Each (λ (e : BitEdit). IsNetBit e.bit) edits

pub one_item : (bit : NetBit) → IsNetBit bit → IsExpression (net_item bit ∷ [])
one_item bit is = record { tree = Operand (net_item bit); is = refl; operands = (bit_item bit is).operand }

-- any fact of a list of items that also a net bit's item has
items_keep : (P : List Item → Type 0) (edits : List BitEdit) (place : Span) (old : List Item) → ((bit : NetBit) → IsNetBit bit → P (net_item bit ∷ [])) → AreBits edits → P old → P (changed_items edits place old)
items_keep P [] place old one bits good = good
items_keep P (e ∷ edits) place old one bits good =
    elim (is_at e.span place) as (λ t. P (cond t (net_item e.bit ∷ []) (changed_items edits place old))) [
      | true ↦ one e.bit bits.0
      | false ↦ items_keep P edits place old one bits.1 good
    ]

module _ (edits : List BitEdit) (bits : AreBits edits) where
  connections_good : (cs : List Connection) → Each IsGoodConnection cs → Each IsGoodConnection (map (changed_connection edits) cs)
  connections_good [] good = tt
  connections_good (c ∷ cs) good =
      (record { pin = good.0.pin; expression = items_keep IsAnyExpression edits c.expression.span c.expression.items one_item bits good.0.expression }, connections_good cs good.1)

  statement_good : (listed : Bool) (s : Statement) → IsGoodStatement listed s → IsGoodStatement listed (changed_statement edits s)
  statement_good listed (statements.Module name ports) good = good
  statement_good listed (statements.Declare kind range names) good = good
  statement_good listed (statements.Assign left right) good = (good.0, good.1, items_keep IsExpression edits right.span right.items one_item bits good.2)
  statement_good listed (statements.Instance cell name connections) good = (good.0, good.1, connections_good connections good.2)

  same_header : (s : Statement) → is_header (changed_statement edits s) ≡ is_header s
  same_header (statements.Module name ports) = refl
  same_header (statements.Declare kind range names) = refl
  same_header (statements.Assign left right) = refl
  same_header (statements.Instance cell name connections) = refl

  all_good : (listed : Bool) (ps : List Placed) → Each (λ (p : Placed). IsGoodStatement listed p.statement) ps → Each (λ (p : Placed). IsGoodStatement listed p.statement) (changed_statements edits ps)
  all_good listed [] good = tt
  all_good listed (p ∷ ps) good = (statement_good listed p.statement good.0, all_good listed ps good.1)

  others_behind : (ps : List Placed) → Each (λ (p : Placed). is_header p.statement ≡ false) ps → Each (λ (p : Placed). is_header p.statement ≡ false) (changed_statements edits ps)
  others_behind [] behind = tt
  others_behind (p ∷ ps) behind = (same_header p.statement ∙ behind.0, others_behind ps behind.1)

  in_order : (ps : List Placed) → AreInOrder ps → AreInOrder (changed_statements edits ps)
  in_order [] order = absurd order
  in_order (p ∷ ps) order = (same_header p.statement ∙ order.0, others_behind ps order.1)

  pub changed_good : (listed : Bool) (ps : List Placed) → AreGood listed ps → AreGood listed (changed_statements edits ps)
  changed_good listed ps good = record { order = in_order ps good.order; good = all_good listed ps good.good }
