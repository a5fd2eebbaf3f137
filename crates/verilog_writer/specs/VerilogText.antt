-- A Verilog text in which some expressions are replaced by net bits, and the statements that it has then.
use Rattle.std.specs.Prelude.{◌≡◌, ◌<◌, ◌^◌, ℕ, Bool, true, ◌&&◌, ◌==◌, ◌⊎◌, if◌then◌else◌, List, [], ◌∷◌, length, map, decimal, Option, Some, None, Ok}
use Rattle.std.specs.List.{AllByRecursion as Each}
use Rattle.verilog_syntax.specs.Seams.{is_escapable}
use Rattle.base_types.specs.declared.span.Span.{Span}
use Rattle.splice.specs.declared.Edit.{Edit}
use Rattle.splice.specs.Spliced.{spliced, AreRising}
use Rattle.verilog_syntax.specs.declared.statement.Item.{Item}
use Rattle.verilog_syntax.specs.declared.statement.Item.TheVariants as items
use Rattle.verilog_syntax.specs.declared.statement.Expression.{Expression}
use Rattle.verilog_syntax.specs.declared.statement.Connection.{Connection}
use Rattle.verilog_syntax.specs.declared.statement.Statement.{Statement}
use Rattle.verilog_syntax.specs.declared.statement.Statement.TheVariants as statements
use Rattle.verilog_syntax.specs.declared.reading.Placed.{Placed}
use Rattle.verilog_syntax.specs.Reading.{read_statements}
use Rattle.verilog_syntax.specs.Laws.{AreRead}
use Rattle.verilog_names.specs.Values.{name_text}
use Rattle.verilog_reader.specs.Denoted.{bit_text}

-- a net bit: a scalar net, or the bit of a vector at an index, by the plain name of the net or the vector
pub record NetBit : Type 0 where
  pub name : List ℕ
  pub index : Option ℕ

-- the place of an expression, and the net bit that stands there instead
pub record BitEdit : Type 0 where
  pub span : Span
  pub bit : NetBit

-- the text of a net or of a bit of a vector
abbrev pub indexed_text : List ℕ → Option ℕ → List ℕ
indexed_text name None = name_text name
indexed_text name (Some index) = bit_text name index

-- the item of a net or of a bit of a vector
abbrev pub indexed_item : List ℕ → Option ℕ → Item
indexed_item name None = items.Name (name_text name)
indexed_item name (Some index) = items.Bit (name_text name) (decimal index)

-- how a net bit is written
abbrev pub net_text : NetBit → List ℕ
net_text bit = indexed_text bit.name bit.index

-- and the item that this is read as
abbrev pub net_item : NetBit → Item
net_item bit = indexed_item bit.name bit.index

-- an edit by a net bit, as one by a text
abbrev pub text_edit : BitEdit → Edit
text_edit e = record { span = e.span; text = net_text e.bit }

-- edits by net bits, as edits by texts
abbrev pub text_edits : List BitEdit → List Edit
text_edits edits = map text_edit edits

-- the text with the net bits in place of the expressions
abbrev pub written_verilog : List ℕ → List BitEdit → List ℕ
written_verilog text edits = spliced text (text_edits edits)

-- the same place
abbrev pub is_at : Span → Span → Bool
is_at place other = place.start == other.start && place.end == other.end

-- what stands at a place: the net bit of the edit there, else the items as they are
abbrev pub changed_items : List BitEdit → Span → List Item → List Item
changed_items [] place old = old
changed_items (e ∷ edits) place old = if is_at e.span place then net_item e.bit ∷ [] else changed_items edits place old

-- an expression with the edit at its place
abbrev pub changed_expression : List BitEdit → Expression → Expression
changed_expression edits x = record { items = changed_items edits x.span x.items; span = x.span }

-- a connection with the edit at its expression
abbrev pub changed_connection : List BitEdit → Connection → Connection
changed_connection edits c = record { pin = c.pin; expression = changed_expression edits c.expression }

-- a statement with the expressions of connections and the right sides of assigns that the edits give
abbrev pub changed_statement : List BitEdit → Statement → Statement
changed_statement edits (statements.Module name ports) = statements.Module name ports
changed_statement edits (statements.Declare kind range names) = statements.Declare kind range names
changed_statement edits (statements.Assign left right) = statements.Assign left (changed_expression edits right)
changed_statement edits (statements.Instance cell name connections) = statements.Instance cell name (map (changed_connection edits) connections)

-- a statement with the edits at its places, on its line
abbrev pub changed_placed : List BitEdit → Placed → Placed
changed_placed edits p = record { statement = changed_statement edits p.statement; line = p.line }

-- statements with the edits at their places
abbrev pub changed_statements : List BitEdit → List Placed → List Placed
changed_statements edits ps = map (changed_placed edits) ps

-- the places of a statement's expressions that an edit may replace
abbrev pub places_in : Statement → List Span
places_in (statements.Module name ports) = []
places_in (statements.Declare kind range names) = []
places_in (statements.Assign left right) = right.span ∷ []
places_in (statements.Instance cell name connections) = map (λ (c : Connection). c.expression.span) connections

-- the place is one of these
abbrev pub IsOneOf : Span → List Span → Type 0
IsOneOf place [] = ⊥
IsOneOf place (s ∷ ss) = (place ≡ s) ⊎ IsOneOf place ss

-- the place is that of such an expression of one of the statements
abbrev pub IsPlaceIn : Span → List Placed → Type 0
IsPlaceIn place [] = ⊥
IsPlaceIn place (p ∷ ps) = IsOneOf place (places_in p.statement) ⊎ IsPlaceIn place ps

-- the index fits 32 bits
abbrev pub IsIndex : Option ℕ → Type 0
IsIndex None = Unit {0}
IsIndex (Some index) = index < 2 ^ 32

-- the net bit has a text: its name is one or more bytes that aren't blanks, so an identifier or escaped to one
pub record IsNetBit (bit : NetBit) : Type 0 where
  pub name : is_escapable bit.name ≡ true
  pub index : IsIndex bit.index

-- the edits of a text that is read as these statements: in their order, each at the place of an expression
pub record AreVerilogEdits (text : List ℕ) (ps : List Placed) (edits : List BitEdit) : Type 0 where
  pub rising : AreRising 0 (length text) (text_edits edits)
  pub places : Each (λ e. IsPlaceIn e.span ps) edits
  pub bits : Each (λ e. IsNetBit e.bit) edits

-- the written text is read as the changed statements, but for places and lines
abbrev pub WrittenLaw : Type 0
WrittenLaw = (text : List ℕ) (ps : List Placed) (edits : List BitEdit) → read_statements text ≡ Ok ps → AreVerilogEdits text ps edits
    → AreRead (written_verilog text edits) (changed_statements edits ps)
