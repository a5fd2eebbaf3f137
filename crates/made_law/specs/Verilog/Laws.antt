-- What the made Verilog is, for every number of units that `make_design` takes.
use Rattle.std.specs.Prelude.{◌≡◌, ℕ, ◌≤◌, List, [], ◌∷◌, ◌++◌, codes}
use Rattle.verilog_syntax.specs.VerilogTokens.{texts}
use Rattle.verilog_checks.specs.Faults.{HoldsInVerilog}
use Rattle.verilog_reader.specs.Denoted.{DenotesNetlist}
use Rattle.base_types.specs.declared.fault.Fault.{Fault}
use Rattle.made_law.specs.Paths.MadeNetlist.{NetlistPlaces, made_netlist}
use Rattle.design_maker.specs.MadeVerilog.{verilog_text}
use Rattle.made_law.specs.Designs.MadeStatements.{flat}
use Rattle.made_law.specs.Verilog.MadeWords.{made_words}
use Rattle.made_law.specs.Verilog.MadeModule.{IsMadeModule}

-- its tokens are the words of its statements, and endmodule
abbrev pub WordsLaw : Type 0
WordsLaw = (n : ℕ) → 8 ≤ n → texts (verilog_text n) ≡ flat (made_words n) ++ codes "endmodule" ∷ []

-- it is the module of these statements
abbrev pub ModuleLaw : Type 0
ModuleLaw = (n : ℕ) → 8 ≤ n → IsMadeModule (verilog_text n) n

-- a text denotes the netlist of n units
pub record DenotesMade (text : List ℕ) (n : ℕ) : Type 0 where
  pub at : NetlistPlaces
  pub is : DenotesNetlist text (made_netlist at n)

-- the text denotes the made netlist, whose statements stand at some places
abbrev pub NetlistLaw : Type 0
NetlistLaw = (n : ℕ) → 8 ≤ n → n ≤ 16384 → DenotesMade (verilog_text n) n

-- nothing is wrong with it by itself
abbrev pub NoVerilogFaultLaw : Type 0
NoVerilogFaultLaw = (n : ℕ) → 8 ≤ n → n ≤ 16384 → (f : Fault) → HoldsInVerilog (verilog_text n) f → ⊥
