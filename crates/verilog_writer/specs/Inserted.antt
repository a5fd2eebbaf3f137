-- A Verilog text in which expressions are replaced and lines are put in: a wire each behind the header, and assigns of net bits
-- before endmodule.
use Rattle.std.specs.Prelude.{◌≡◌, ◌<◌, ℕ, true, false, if◌then◌else◌, List, [], ◌∷◌, ◌++◌, length, map, codes, None, Ok}
use Rattle.std.specs.List.{flat_map, AllByRecursion as Each}
use Rattle.base_types.specs.declared.span.Span.{Span}
use Rattle.token_forms.specs.Tokens.{Token}
use Rattle.token_forms.specs.Statements.{is_semicolon}
use Rattle.splice.specs.declared.Edit.{Edit}
use Rattle.splice.specs.Spliced.{spliced, AreRising}
use Rattle.verilog_syntax.specs.Seams.{is_identifier}
use Rattle.verilog_syntax.specs.Words.{is_reserved}
use Rattle.verilog_syntax.specs.declared.statement.Declared.TheVariants.{Wire}
use Rattle.verilog_syntax.specs.declared.statement.Expression.{Expression}
use Rattle.verilog_syntax.specs.declared.statement.Statement.TheVariants as statements
use Rattle.verilog_syntax.specs.declared.reading.Placed.{Placed}
use Rattle.verilog_syntax.specs.Reading.{read_statements}
use Rattle.verilog_syntax.specs.Laws.{tokens_in, nowhere, AreRead}
use Rattle.verilog_writer.specs.VerilogText.{NetBit, BitEdit, net_text, net_item, text_edits, changed_statements, IsNetBit, AreVerilogEdits}

-- an assign of one net bit from one net bit
pub record BitAssign : Type 0 where
  pub left : NetBit
  pub right : NetBit

-- the line of a wire: a line feed, two blanks and its declaration
abbrev pub wire_line : List ℕ → List ℕ
wire_line name = 10 ∷ (codes "  wire " ++ (name ++ codes ";"))

-- the line of an assign: two blanks, the assign and a line feed, behind these bytes of both its sides
abbrev pub assign_line : List ℕ → List ℕ → List ℕ
assign_line left right = codes "  assign " ++ (left ++ (codes " = " ++ (right ++ 59 ∷ 10 ∷ [])))

-- the line of an assign of net bits
abbrev pub bit_line : BitAssign → List ℕ
bit_line a = assign_line (net_text a.left) (net_text a.right)

-- where the first semicolon ends, which ends the header
abbrev pub header_end : List Token → ℕ
header_end [] = 0
header_end (t ∷ ts) = if is_semicolon t then t.end else header_end ts

-- where the last token begins, which is endmodule
abbrev pub last_start : List Token → ℕ
last_start [] = 0
last_start (t ∷ []) = t.start
last_start (t ∷ u ∷ us) = last_start (u ∷ us)

-- a text that is put in at a place
abbrev pub put_in : ℕ → List ℕ → Edit
put_in at new = record { span = record { start = at; end = at }; text = new }

-- the edits, with lines put in behind the header and before endmodule
abbrev pub with_lines : List ℕ → List ℕ → List ℕ → List Edit → List Edit
with_lines text wires assigns edits = put_in (header_end (tokens_in text)) wires ∷ (edits ++ put_in (last_start (tokens_in text)) assigns ∷ [])

-- the declaration of a wire, without a place
abbrev pub wire_statement : List ℕ → Placed
wire_statement name = record { statement = statements.Declare Wire None (name ∷ []); line = 0 }

-- the expression that is a net bit, without a place
abbrev pub bit_expression : NetBit → Expression
bit_expression bit = record { items = net_item bit ∷ []; span = nowhere }

-- an assign of net bits, without a place
abbrev pub assign_statement : BitAssign → Placed
assign_statement a = record { statement = statements.Assign (bit_expression a.left) (bit_expression a.right); line = 0 }

-- the statements with wires behind the first, and assigns behind all
abbrev pub extended : List (List ℕ) → List BitAssign → List Placed → List Placed
extended names assigns [] = []
extended names assigns (p ∷ ps) = p ∷ (map wire_statement names ++ (ps ++ map assign_statement assigns))

-- an identifier, so a name that is written as it is
pub record IsPlainName (name : List ℕ) : Type 0 where
  pub identifier : is_identifier name ≡ true
  pub free : is_reserved name ≡ false

-- both sides have a text
pub record IsBitAssign (a : BitAssign) : Type 0 where
  pub left : IsNetBit a.left
  pub right : IsNetBit a.right

-- the edits of a text by net bits, with these wires and assigns
abbrev pub inserted_verilog : List ℕ → List (List ℕ) → List BitEdit → List BitAssign → List Edit
inserted_verilog text names edits assigns = with_lines text (flat_map wire_line names) (flat_map bit_line assigns) (text_edits edits)

-- the written text is read as the changed statements with the wires and the assigns, but for places and lines
abbrev pub InsertedLaw : Type 0
InsertedLaw = (text : List ℕ) (ps : List Placed) (edits : List BitEdit) (names : List (List ℕ)) (assigns : List BitAssign) → read_statements text ≡ Ok ps
    → AreVerilogEdits text ps edits → Each IsPlainName names → Each IsBitAssign assigns → 0 < length assigns → AreRising 0 (length text) (inserted_verilog text names edits assigns)
    → AreRead (spliced text (inserted_verilog text names edits assigns)) (extended names assigns (changed_statements edits ps))
