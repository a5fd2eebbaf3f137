-- The laws of the definitions, which know nothing of the code.
use Rattle.std.specs.Prelude.{◌≡◌, ◌≢◌, ℕ, Bool, true, false, List, [], ◌∷◌, ◌++◌, map, codes, None, Ok}
use Rattle.std.specs.List.{AllByRecursion as Each}
use Rattle.token_forms.specs.Tokens.{Token, tokens_of}
use Rattle.verilog_syntax.specs.VerilogTokens.{verilog_tokens}
use Rattle.token_forms.specs.Parts.{Part, Fixed, spelled, token_texts, Fits}
use Rattle.base_types.specs.declared.span.Span.{Span}
use Rattle.verilog_syntax.specs.declared.statement.Expression.{Expression}
use Rattle.verilog_syntax.specs.declared.statement.Connection.{Connection}
use Rattle.verilog_syntax.specs.declared.statement.Statement.{Statement}
use Rattle.verilog_syntax.specs.declared.statement.Statement.TheVariants as statements
use Rattle.verilog_syntax.specs.declared.reading.Placed.{Placed}
use Rattle.verilog_syntax.specs.StatementParts.{statement_parts, IsGoodStatement, is_header}
use Rattle.verilog_syntax.specs.Reading.{statement_of, header_of, read_statements}

-- the tokens of a text
abbrev pub tokens_in : List ℕ → List Token
tokens_in text = tokens_of text (verilog_tokens text)

-- statements, and endmodule behind the last one
abbrev pub module_parts : Bool → List Placed → List Part
module_parts listed [] = Fixed (codes "endmodule") ∷ []
module_parts listed (p ∷ ps) = statement_parts listed p.statement ++ module_parts listed ps

-- the header stands first, and only there
abbrev pub AreInOrder : List Placed → Type 0
AreInOrder [] = ⊥
AreInOrder (p ∷ ps) = (is_header p.statement ≡ true) × Each (λ q. is_header q.statement ≡ false) ps

-- the statements are good ones
pub record AreGood (listed : Bool) (ps : List Placed) : Type 0 where
  pub order : AreInOrder ps
  pub good : Each (λ p. IsGoodStatement listed p.statement) ps

-- the tokens of a text spell these statements, and each expression between two marks stands where its span says
pub record AreSpelled (text : List ℕ) (ps : List Placed) : Type 0 where
  pub listed : Bool
  pub good : AreGood listed ps
  pub fits : Fits (module_parts listed ps) [] (tokens_in text)

-- what a text is read as is spelled by its tokens
abbrev pub SpelledLaw : Type 0
SpelledLaw = (text : List ℕ) (ps : List Placed) → read_statements text ≡ Ok ps → AreSpelled text ps

-- no place
abbrev pub nowhere : Span
nowhere = record { start = 0; end = 0 }

-- an expression without its place
abbrev pub bare_expression : Expression → Expression
bare_expression e = record { items = e.items; span = nowhere }

-- a connection without places
abbrev pub bare_connection : Connection → Connection
bare_connection c = record { pin = c.pin; expression = bare_expression c.expression }

-- a statement without places
abbrev pub bare_statement : Statement → Statement
bare_statement (statements.Module name ports) = statements.Module name ports
bare_statement (statements.Declare kind range names) = statements.Declare kind range names
bare_statement (statements.Assign left right) = statements.Assign (bare_expression left) (bare_expression right)
bare_statement (statements.Instance cell name connections) = statements.Instance cell name (map bare_connection connections)

-- the statements without places and lines
abbrev pub bare : List Placed → List Statement
bare ps = map (λ p. bare_statement p.statement) ps

-- a text is read as these statements, but for places and lines
pub record AreRead (text : List ℕ) (ps : List Placed) : Type 0 where
  pub values : List Placed
  pub is : read_statements text ≡ Ok values
  pub same : bare values ≡ bare ps

-- and what its tokens spell is what it is read as
abbrev pub ReadLaw : Type 0
ReadLaw = (text : List ℕ) (listed : Bool) (ps : List Placed) → AreGood listed ps → token_texts (tokens_in text) ≡ spelled (module_parts listed ps) → AreRead text ps

-- tokens that match no form spell no statement
abbrev pub NoStatementLaw : Type 0
NoStatementLaw = (ts : List Token) (listed : Bool) (s : Statement) → statement_of ts ≡ None → is_header s ≡ false → IsGoodStatement listed s
    → token_texts ts ≢ spelled (statement_parts listed s)

-- tokens that are read as no header are spelled by none
abbrev pub NoHeaderLaw : Type 0
NoHeaderLaw = (ts : List Token) (listed : Bool) (s : Statement) → header_of ts ≡ None → is_header s ≡ true → IsGoodStatement listed s
    → token_texts ts ≢ spelled (statement_parts listed s)
