-- What the statements of a text are, and the first fault of its form.
use Rattle.std.specs.Prelude.{◌≡◌, ℕ, false, List, [], ◌∷◌, ◌++◌, codes, Result, Ok, Err}
use Rattle.std.specs.Str.{bytes_eq}
use Rattle.std.specs.List.{AllByRecursion as Each}
use Rattle.base_types.specs.Lines.{line_at}
use Rattle.base_types.specs.declared.fault.Fault.{Fault}
use Rattle.base_types.specs.declared.fault.ReadFault.{ReadFault}
use Rattle.base_types.specs.declared.fault.ReadFault.TheVariants as faults
use Rattle.base_types.specs.declared.kind.Kind.TheVariants.{VerilogSyntax, SecondModule}
use Rattle.token_forms.specs.Tokens.{Token}
use Rattle.token_forms.specs.Statements.{statements_of}
use Rattle.token_forms.specs.Forms.{Form}
use Rattle.verilog_syntax.specs.declared.statement.Statement.{Statement}
use Rattle.verilog_syntax.specs.declared.reading.Placed.{Placed}
use Rattle.verilog_syntax.specs.Grammar.{header, statement}
use Rattle.verilog_syntax.specs.Reading.{fault_at, line_of_tokens, ends_module, read_statements}
use Rattle.verilog_syntax.specs.Laws.{tokens_in}

-- none of the tokens is endmodule
abbrev pub IsOpen : List Token → Type 0
IsOpen ts = Each (λ t. ends_module t ≡ false) ts

-- a text's tokens up to the first endmodule, and those behind it
pub record IsClosed (text : List ℕ) (body behind : List Token) : Type 0 where
  pub end : Token
  pub is : tokens_in text ≡ body ++ end ∷ behind
  pub text_is : end.text ≡ codes "endmodule"
  pub first : IsOpen body

-- a form spells the value by these tokens, and its line is that of the first
pub record IsLocated (form : Form Statement) (text : List ℕ) (ts : List Token) (p : Placed) : Type 0 where
  pub spelled : form.spells p.statement ts
  pub line : p.line ≡ line_of_tokens text ts

-- each statement is spelled by its tokens and stands on its line
abbrev pub AreStatements : List ℕ → List (List Token) → List Placed → Type 0
AreStatements text [] [] = Unit {0}
AreStatements text [] (p ∷ ps) = ⊥
AreStatements text (s ∷ ss) [] = ⊥
AreStatements text (s ∷ ss) (p ∷ ps) = IsLocated statement text s p × AreStatements text ss ps

-- the header first, and statements behind it
abbrev pub IsBody : List ℕ → List (List Token) → List Placed → Type 0
IsBody text [] ps = ⊥
IsBody text (s ∷ ss) [] = ⊥
IsBody text (s ∷ ss) (p ∷ ps) = IsLocated header text s p × AreStatements text ss ps

-- up to the first endmodule the tokens, cut at semicolons, are the header and statements; behind it stands nothing
pub record IsModule (text : List ℕ) (ps : List Placed) : Type 0 where
  pub body : List Token
  pub closed : IsClosed text body []
  pub statements : IsBody text (statements_of body) ps

-- no value is spelled by the tokens
abbrev pub HasNoForm : Form Statement → List Token → Type 0
HasNoForm form ts = (s : Statement) → form.spells s ts → ⊥

-- the first fault of form: no endmodule stands; the first statement that is of no form; or a token behind endmodule
pub data IsFormFault (text : List ℕ) (f : Fault) : Type 0 where
  Open : IsOpen (tokens_in text) → f ≡ fault_at VerilogSyntax (line_of_tokens text (tokens_in text)) → IsFormFault text f
  Empty : (behind : List Token) → IsClosed text [] behind → f ≡ fault_at VerilogSyntax (line_of_tokens text (tokens_in text)) → IsFormFault text f
  NoHeader : (body behind s : List Token) (ss : List (List Token)) → IsClosed text body behind → statements_of body ≡ s ∷ ss → HasNoForm header s → f ≡ fault_at VerilogSyntax (line_of_tokens text s) → IsFormFault text f
  NoStatement : (body behind s : List Token) (front ss : List (List Token)) (ps : List Placed) → IsClosed text body behind → statements_of body ≡ front ++ s ∷ ss → IsBody text front ps → HasNoForm statement s
      → f ≡ fault_at VerilogSyntax (line_of_tokens text s) → IsFormFault text f
  Second : (body behind : List Token) (t : Token) (ps : List Placed) → IsClosed text body (t ∷ behind) → IsBody text (statements_of body) ps → t.text ≡ codes "module" → f ≡ fault_at SecondModule (line_at text t.start) → IsFormFault text f
  Behind : (body behind : List Token) (t : Token) (ps : List Placed) → IsClosed text body (t ∷ behind) → IsBody text (statements_of body) ps → bytes_eq t.text (codes "module") ≡ false → f ≡ fault_at VerilogSyntax (line_at text t.start) → IsFormFault text f

-- the statements of the text and no others, or its first fault of form, where it has none; which want of memory may hide
abbrev pub IsExactModule : List ℕ → Result (List Placed) ReadFault → Type 0
IsExactModule text (Ok ps) = IsModule text ps × ((qs : List Placed) → IsModule text qs → qs ≡ ps)
IsExactModule text (Err (faults.Fault f)) = IsFormFault text f × ((qs : List Placed) → IsModule text qs → ⊥)
IsExactModule text (Err faults.NoMemory) = Unit {0}

-- what Reading says of a text is that, and no other: its statements, and its first fault of form
abbrev pub ModuleLaw : Type 0
ModuleLaw = (text : List ℕ) (ps : List Placed) → (read_statements text ≡ Ok ps → IsModule text ps) × (IsModule text ps → read_statements text ≡ Ok ps)

-- what is refused is the first fault of form, and there is no other
abbrev pub FormFaultLaw : Type 0
FormFaultLaw = (text : List ℕ) (f : Fault) → (read_statements text ≡ Err f → IsFormFault text f) × (IsFormFault text f → read_statements text ≡ Err f)

-- so a text has one first fault of form at most
abbrev pub OneFormFaultLaw : Type 0
OneFormFaultLaw = (text : List ℕ) (f g : Fault) → IsFormFault text f → IsFormFault text g → f ≡ g

-- and none where it is a module, whose statements are one list only
abbrev pub OneModuleLaw : Type 0
OneModuleLaw = (text : List ℕ) (ps : List Placed) → IsModule text ps → ((f : Fault) → IsFormFault text f → ⊥) × ((qs : List Placed) → IsModule text qs → qs ≡ ps)
