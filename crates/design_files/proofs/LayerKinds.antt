-- The numbers of the kinds of each layer's faults.
use Rattle.std.proofs.Common.{◌≡◌, ◌<◌, ◌≤◌, inl, inr, ℕ, zero, suc, List, Option, ap, arith}
use Rattle.std.specs.Prelude.{Some, None, IsSomeAnd}
use Rattle.base_types.specs.declared.fault.Fault.{Fault}
use Rattle.base_types.specs.declared.fault.FileKind.{FileKind}
use Rattle.base_types.specs.declared.fault.FileKind.TheVariants.{Def, Verilog}
use Rattle.base_types.specs.declared.kind.Kind.{Kind}
use Rattle.base_types.specs.declared.kind.Kind.TheVariants as kinds
use Rattle.base_types.specs.Faults.{number_of, at_line}
use Rattle.cell_table.specs.Entries.{HoldsInTable, Syntax, Top, Cell}
use Rattle.lef_pins.specs.Faults.{HoldsInLef, Syntax as LefSyntax, Number as LefNumber, Twice as LefTwice}
use Rattle.verilog_checks.specs.Faults.{HoldsInVerilog}
use Rattle.verilog_checks.proofs.VerilogFaults.{late, early}
use Rattle.def_syntax.specs.Designs.{IsFirstFault as IsFirstOfForm}
use Rattle.def_reader.specs.Faults.{HoldsInDesign, Form, Number, Twice}
use Rattle.def_reader.specs.Agreement.{HoldsInAgreement, Missing, Differs, Split, Shared}
use Rattle.chain_trace.proofs.TraceKinds.{trace_late, trace_early}
use Rattle.chain_rules.specs.declared.spec.PathSpec.{PathSpec}
use Rattle.chain_rules.specs.declared.spec.ChainSpec.{ChainSpec}
use Rattle.chain_rules.specs.ChainFaults.{IsFaulty}
use Rattle.traced_paths.specs.Traced.{HoldsInPaths, OfPort, OfCount, OfTrace, OfCell}
use Rattle.design_elements.specs.Faults.{HoldsInElements, Unknown, Twice as ElementTwice, Unplaced, Pin, Bits, Macro as NoMacro, TooMany}
use Rattle.design_places.specs.NetPins.{HoldsInNets, InPin, OutPin, AtPort}
use Rattle.head_checks.specs.Heads.{HoldsInHeads, OfPort as OfScanIn, OfLength, OfInversion, OfCells}
use Rattle.head_chains.specs.Chains.{HoldsInChains, Undeclared}
use Rattle.stil_types.specs.declared.head.StilHead.{StilHead}
use Rattle.stil_head.specs.Ends.{head_text}
use Rattle.stil_head.specs.Faults.{HoldsInHead, HoldsInText, Syntax as HeadSyntax, Twice as HeadTwice, Barred}
use Rattle.design_files.specs.Files.{Texts}
use Rattle.design_files.proofs.Layers.{least_number, Layer}

-- the kind of the fault is one of these
pub record IsAmong (from to : ℕ) (f : Fault) : Type 0 where
  pub low : from ≤ number_of f.kind
  pub high : number_of f.kind < to

of_line : (kind : Kind) (file : FileKind) (line : ℕ) (f : Fault) → f ≡ at_line kind file line → number_of f.kind ≡ number_of kind
of_line kind file line f is = ap (λ (x : Fault). number_of x.kind) is

of_table : (t : List ℕ) (f : Fault) → HoldsInTable t f → IsAmong 0 10 f
of_table t _ (Syntax none) = record { low = omega arith; high = omega arith }
of_table t _ (Top document is wrong) = record { low = omega arith; high = omega arith }
of_table t _ (Cell document entries name is has least) = record { low = omega arith; high = omega arith }

of_lef : (t : List ℕ) (f : Fault) → HoldsInLef t f → IsAmong 10 20 f
of_lef t _ (LefSyntax items place are there) = record { low = omega arith; high = omega arith }
of_lef t _ (LefNumber items place are there) = record { low = omega arith; high = omega arith }
of_lef t _ (LefTwice items place are there) = record { low = omega arith; high = omega arith }

of_verilog : (t : List ℕ) (f : Fault) → HoldsInVerilog t f → IsAmong 20 30 f
of_verilog t f h = let low = late t f h in let high = early t f h in record { low = omega arith; high = omega arith }

of_design : (t : List ℕ) (f : Fault) → HoldsInDesign t f → IsAmong 30 33 f
of_design t f (Form _ first) = let kind = ap (λ (x : Fault). number_of x.kind) first.is in record { low = omega arith; high = omega arith }
of_design t _ (Number text line are is) = record { low = omega arith; high = omega arith }
of_design t _ (Twice text line are is) = record { low = omega arith; high = omega arith }

of_elements : (cells : _) (macros : _) (d : _) (f : Fault) → HoldsInElements cells macros d f → IsAmong 33 40 f
of_elements cells macros d _ (Unknown line is) = record { low = omega arith; high = omega arith }
of_elements cells macros d _ (ElementTwice line is) = record { low = omega arith; high = omega arith }
of_elements cells macros d _ (Unplaced line is) = record { low = omega arith; high = omega arith }
of_elements cells macros d _ (Pin line is) = record { low = omega arith; high = omega arith }
of_elements cells macros d _ (Bits line is) = record { low = omega arith; high = omega arith }
of_elements cells macros d _ (NoMacro line is) = record { low = omega arith; high = omega arith }
of_elements cells macros d _ (TooMany line is) = record { low = omega arith; high = omega arith }

of_agreement : (n : _) (d : _) (f : Fault) → HoldsInAgreement n d f → IsAmong 40 50 f
of_agreement n d _ (Missing line is) = record { low = omega arith; high = omega arith }
of_agreement n d _ (Differs line is) = record { low = omega arith; high = omega arith }
of_agreement n d _ (Split line is) = record { low = omega arith; high = omega arith }
of_agreement n d _ (Shared line is) = record { low = omega arith; high = omega arith }

of_text : (text : List ℕ) (f : Fault) → HoldsInText text f → IsAmong 50 53 f
of_text text _ (HeadSyntax place there) = record { low = omega arith; high = omega arith }
of_text text _ (HeadTwice place there) = record { low = omega arith; high = omega arith }
of_text text _ (Barred place there) = record { low = omega arith; high = omega arith }

of_head : (head : Option (List ℕ)) (f : Fault) → IsSomeAnd head (λ text. HoldsInHead text f) → IsAmong 50 53 f
of_head None f h = absurd h
of_head (Some text) f h = of_text (head_text text) f h

of_chains : (d : _) (head : Option StilHead) (f : Fault) → IsSomeAnd head (λ h. HoldsInChains d h f) → IsAmong 53 58 f
of_chains d None f h = absurd h
of_chains d (Some head) _ (Undeclared line is) = record { low = omega arith; high = omega arith }

of_paths : (n : _) (cells : _) (file : FileKind) (asked : _) (f : Fault) → HoldsInPaths n cells file asked f → IsAmong 58 64 f
of_paths n cells file asked f (OfPort line is at) = let kind = of_line kinds.NoPort file line f at in record { low = omega arith; high = omega arith }
of_paths n cells file asked f (OfCount line is at) = let kind = of_line kinds.TooManyPaths file line f at in record { low = omega arith; high = omega arith }
of_paths n cells file asked f (OfTrace met) =
    let low = trace_late n cells met.net f met.met in
    let high = trace_early n cells met.net f met.met in
    record { low = omega arith; high = omega arith }
of_paths n cells file asked f (OfCell line is at) = let kind = of_line kinds.SharedCell Verilog line f at in record { low = omega arith; high = omega arith }

of_declared : (n : _) (cells : _) (paths : _) (head : Option StilHead) (f : Fault) → IsSomeAnd head (λ h. HoldsInHeads n cells paths h f) → IsAmong 64 68 f
of_declared n cells paths None f h = absurd h
of_declared n cells paths (Some head) _ (OfScanIn line is) = record { low = omega arith; high = omega arith }
of_declared n cells paths (Some head) _ (OfLength line is) = record { low = omega arith; high = omega arith }
of_declared n cells paths (Some head) _ (OfInversion line is) = record { low = omega arith; high = omega arith }
of_declared n cells paths (Some head) _ (OfCells line is) = record { low = omega arith; high = omega arith }

of_nets : (n : _) (cells : _) (d : _) (paths : _) (f : Fault) → HoldsInNets n cells d paths f → IsAmong 69 70 f
of_nets n cells d paths _ (InPin path step there on lacks) = record { low = omega arith; high = omega arith }
of_nets n cells d paths _ (OutPin path step there on lacks) = record { low = omega arith; high = omega arith }
of_nets n cells d paths _ (AtPort path net there on lacks) = record { low = omega arith; high = omega arith }

-- the kinds of the chains' faults
pub record IsChainKind (k : Kind) : Type 0 where
  pub low : 70 ≤ number_of k
  pub high : number_of k < 80

pub chain_kind : (paths : List PathSpec) (chains : List ChainSpec) (k : Kind) (c : ℕ) → IsFaulty paths chains k c → IsChainKind k
chain_kind paths chains kinds.NotAStretch c h = record { low = omega arith; high = omega arith }
chain_kind paths chains kinds.UnlistedBits c h = record { low = omega arith; high = omega arith }
chain_kind paths chains kinds.OrderBroken c h = record { low = omega arith; high = omega arith }
chain_kind paths chains kinds.OverMaxBits c h = record { low = omega arith; high = omega arith }
chain_kind paths chains kinds.TooManyUnits c h = record { low = omega arith; high = omega arith }
chain_kind paths chains kind c h = absurd h

-- the faults of a layer are of its kinds
pub among : (t : Texts) (k : ℕ) (f : Fault) → Layer t k f → IsAmong (least_number k) (least_number (suc k)) f
among t zero f h = of_table t.table f h
among t (suc zero) f h = of_lef t.lef f h
among t (suc (suc zero)) f h = of_verilog t.verilog f h
among t (suc (suc (suc zero))) f h = of_design t.def f h
among t (suc (suc (suc (suc zero)))) f h = of_elements h.cells h.macros h.design f h.holds
among t (suc (suc (suc (suc (suc zero))))) f h = of_agreement h.netlist h.design f h.holds
among t (suc (suc (suc (suc (suc (suc zero)))))) f h = of_head t.head f h
among t (suc (suc (suc (suc (suc (suc (suc zero))))))) f h = of_chains h.design h.head f h.holds
among t (suc (suc (suc (suc (suc (suc (suc (suc zero)))))))) f h = of_paths h.netlist h.cells _ _ f h.holds
among t (suc (suc (suc (suc (suc (suc (suc (suc (suc zero))))))))) f h = of_declared h.netlist h.cells h.paths h.head f h.holds
among t (suc (suc (suc (suc (suc (suc (suc (suc (suc (suc zero)))))))))) f h = let kind = of_line kinds.TooManyBits Verilog h.netlist.line f h.holds.is in record { low = omega arith; high = omega arith }
among t (suc (suc (suc (suc (suc (suc (suc (suc (suc (suc (suc zero))))))))))) f h = of_nets h.netlist h.cells h.design h.paths f h.holds
among t (suc (suc (suc (suc (suc (suc (suc (suc (suc (suc (suc (suc zero)))))))))))) f h =
    elim h.holds [
      | inl refused ↦ let kind = chain_kind _ _ f.kind refused.chain refused.first.faulty in record { low = kind.low; high = kind.high }
      | inr place ↦ let kind = of_line kinds.PlaceUnknown Verilog _ f place.is in record { low = omega arith; high = omega arith }
    ]
among t (suc (suc (suc (suc (suc (suc (suc (suc (suc (suc (suc (suc (suc k))))))))))))) f h = absurd h
