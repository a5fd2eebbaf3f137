-- What a text is read as, as a function: its statements, or the first fault of its form. Meaning: Module.
use Rattle.std.specs.Prelude.{◌≡◌, ℕ, ◌+◌, Bool, ◌==◌, if◌then◌else◌, List, [], ◌∷◌, length, take, drop, codes, Option, Some, None, Result, Ok, Err}
use Rattle.std.specs.Str.{bytes_eq}
use Rattle.base_types.specs.Lines.{line_at}
use Rattle.token_forms.specs.Statements.{statements_of}
use Rattle.token_forms.specs.Tokens.{Token, tokens_of}
use Rattle.verilog_syntax.specs.VerilogTokens.{verilog_tokens}
use Rattle.token_forms.specs.Parsing.{◌>>=◌}
use Rattle.base_types.specs.declared.fault.Fault.{Fault}
use Rattle.base_types.specs.declared.fault.FileKind.TheVariants.{Verilog}
use Rattle.base_types.specs.declared.fault.Spot.TheVariants.{Line}
use Rattle.base_types.specs.declared.fault.ReadFault.{ReadFault}
use Rattle.base_types.specs.declared.fault.ReadFault.TheVariants as faults
use Rattle.base_types.specs.declared.kind.Kind.{Kind}
use Rattle.base_types.specs.declared.kind.Kind.TheVariants.{VerilogSyntax, SecondModule}
use Rattle.verilog_syntax.specs.declared.statement.Statement.{Statement}
use Rattle.verilog_syntax.specs.declared.reading.Placed.{Placed}
use Rattle.verilog_syntax.specs.Grammar.{statement, header}

-- the statement has these tokens, all of them
abbrev pub all_of : Option (Statement × List Token) → Option Statement
all_of read = do
  found ← read
  if length found.1 == 0 then Some found.0 else None

-- the statement that the tokens are
unfoldable pub statement_of : List Token → Option Statement
statement_of ts = all_of (statement.reads ts)

-- the header that the tokens are
unfoldable pub header_of : List Token → Option Statement
header_of ts = all_of (header.reads ts)

-- a call answers what is defined, unless memory runs out
abbrev pub Answers : {X : Type 0} → Result X ReadFault → Result X Fault → Type 0
Answers (Ok x) read = read ≡ Ok x
Answers (Err (faults.Fault f)) read = read ≡ Err f
Answers (Err faults.NoMemory) read = Unit {0}

-- what a value leads to, or the fault
abbrev pub result_and_then : {A B : Type 0} → (A → Result B Fault) → Result A Fault → Result B Fault
result_and_then f (Ok x) = f x
result_and_then f (Err e) = Err e

-- a fault of the Verilog at a line
abbrev pub fault_at : Kind → ℕ → Fault
fault_at kind line = record { kind = kind; file = Verilog; spot = Line line }

-- the line of a statement is that of its first token; where there is none, the file's first line
abbrev pub line_of_tokens : List ℕ → List Token → ℕ
line_of_tokens text [] = 1
line_of_tokens text (t ∷ ts) = line_at text t.start

-- the statement on its line, or VerilogSyntax there
abbrev pub placed_or : ℕ → Option Statement → Result Placed Fault
placed_or line (Some statement) = Ok (record { statement = statement; line = line })
placed_or line None = Err (fault_at VerilogSyntax line)

-- a statement on its line, or VerilogSyntax
unfoldable pub read_statement : ℕ → List Token → Result Placed Fault
read_statement line ts = placed_or line (statement_of ts)

-- a header on its line, or VerilogSyntax
unfoldable pub read_header : ℕ → List Token → Result Placed Fault
read_header line ts = placed_or line (header_of ts)

-- statements behind the header, or the first one that matches no form
unfoldable pub read_others : List ℕ → List (List Token) → Result (List Placed) Fault
read_others text [] = Ok []
read_others text (s ∷ ss) =
    result_and_then (λ first. result_and_then (λ others. Ok (first ∷ others)) (read_others text ss)) (read_statement (line_of_tokens text s) s)

-- the statements of a body, whose first token stands on a line; one that isn't ended by a semicolon matches no form
unfoldable pub read_body : ℕ → List ℕ → List (List Token) → Result (List Placed) Fault
read_body line text [] = Err (fault_at VerilogSyntax line)
read_body line text (s ∷ ss) =
    result_and_then (λ header. result_and_then (λ others. Ok (header ∷ others)) (read_others text ss)) (read_header line s)

-- the token is `endmodule`
abbrev pub ends_module : Token → Bool
ends_module t = bytes_eq t.text (codes "endmodule")

-- how many tokens stand before the first endmodule; all where there is none
abbrev pub body_len : List Token → ℕ
body_len [] = 0
body_len (t ∷ ts) = if ends_module t then 0 else 1 + body_len ts

-- behind endmodule nothing stands
unfoldable pub read_end : List ℕ → List Token → Result (Unit {0}) Fault
read_end text [] = Ok tt
read_end text (t ∷ ts) =
    if bytes_eq t.text (codes "module") then Err (fault_at SecondModule (line_at text t.start)) else Err (fault_at VerilogSyntax (line_at text t.start))

-- the statements of a module, up to the first endmodule, and nothing behind it; or the first fault of its form
unfoldable pub read_module : List ℕ → List Token → Result (List Placed) Fault
read_module text ts =
    if body_len ts == length ts then Err (fault_at VerilogSyntax (line_of_tokens text ts))
    else result_and_then (λ statements. result_and_then (λ done. Ok statements) (read_end text (drop (body_len ts + 1) ts)))
    (read_body (line_of_tokens text ts) text (statements_of (take (body_len ts) ts)))

-- the statements of a text, the header first, each with its line; or VerilogSyntax at the first that matches no form, or
-- SecondModule
abbrev pub read_statements : List ℕ → Result (List Placed) Fault
read_statements text = read_module text (tokens_of text (verilog_tokens text))
