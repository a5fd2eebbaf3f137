-- The faults of the files in layers, by their numbers: a fault of one layer comes first where no layer before it has one, and none of
-- its own comes before it.
use Rattle.std.proofs.Common.{◌≡◌, ◌⊎◌, ℕ, zero, suc, ◌+◌, ◌-◌, ◌≤◌, List, [], ◌∷◌, get_or, Option, inl, inr, refl, ap, arith}
use Rattle.std.specs.Prelude.{Some, IsSomeAnd}
use Rattle.base_types.specs.declared.fault.Fault.{Fault}
use Rattle.netlist_core.specs.declared.netlist.Netlist.{Netlist}
use Rattle.cell_table.specs.Cells.{Cells}
use Rattle.cell_table.specs.Entries.{HoldsInTable}
use Rattle.lef_pins.specs.Macros.{NamedMacros}
use Rattle.lef_pins.specs.Faults.{HoldsInLef}
use Rattle.verilog_checks.specs.Faults.{HoldsInVerilog}
use Rattle.def_reader.specs.declared.design.Design.{Design}
use Rattle.def_reader.specs.Faults.{HoldsInDesign}
use Rattle.chain_trace.specs.declared.path.Path.{Path}
use Rattle.chain_rules.specs.ChainFaults.{IsRefusal}
use Rattle.path_numbers.specs.Numbers.{path_specs}
use Rattle.traced_paths.specs.Bits.{HaveTooManyBits}
use Rattle.design_elements.specs.Elements.{chain_specs}
use Rattle.design_places.specs.NetPins.{HoldsInNets}
use Rattle.design_places.specs.Ends.{HoldsInPlaces}
use Rattle.head_checks.specs.Heads.{HoldsInHeads}
use Rattle.stil_types.specs.declared.head.StilHead.{StilHead}
use Rattle.stil_head.specs.Faults.{HoldsInHead}
use Rattle.design_files.specs.Files.{Texts}
use Rattle.design_files.specs.Faults.{ArePathsFor, IsElementFault, IsAgreementFault, IsUndeclaredFault, IsPathFault, IsTracedFault, OfHeads, OfBits, OfNets, OfChains, OfPlaces, HoldsInFiles, OfTable, OfLef, OfVerilog, OfDesign, OfElements, OfAgreement, OfHead, OfDeclared, OfPaths, OfTraced}

-- the least number of the kinds of a layer
abbrev pub least_number : ℕ → ℕ
least_number k = get_or (0 ∷ 10 ∷ 20 ∷ 30 ∷ 33 ∷ 40 ∷ 50 ∷ 53 ∷ 58 ∷ 64 ∷ 68 ∷ 69 ∷ 70 ∷ []) k 80

rises_once : (k : ℕ) → least_number k ≤ least_number (suc k)
rises_once zero = omega arith
rises_once (suc zero) = omega arith
rises_once (suc (suc zero)) = omega arith
rises_once (suc (suc (suc zero))) = omega arith
rises_once (suc (suc (suc (suc zero)))) = omega arith
rises_once (suc (suc (suc (suc (suc zero))))) = omega arith
rises_once (suc (suc (suc (suc (suc (suc zero)))))) = omega arith
rises_once (suc (suc (suc (suc (suc (suc (suc zero))))))) = omega arith
rises_once (suc (suc (suc (suc (suc (suc (suc (suc zero)))))))) = omega arith
rises_once (suc (suc (suc (suc (suc (suc (suc (suc (suc zero))))))))) = omega arith
rises_once (suc (suc (suc (suc (suc (suc (suc (suc (suc (suc zero)))))))))) = omega arith
rises_once (suc (suc (suc (suc (suc (suc (suc (suc (suc (suc (suc zero))))))))))) = omega arith
rises_once (suc (suc (suc (suc (suc (suc (suc (suc (suc (suc (suc (suc zero)))))))))))) = omega arith
rises_once (suc (suc (suc (suc (suc (suc (suc (suc (suc (suc (suc (suc (suc k))))))))))))) = omega arith

rises_by : (m k j : ℕ) → j ≡ m + k → least_number k ≤ least_number j
rises_by zero k j is =
    let e : j ≡ k = omega arith in
    let same : least_number j ≡ least_number k = ap least_number e in
    omega arith
rises_by (suc m) k j is =
    let e : j ≡ suc (m + k) = omega arith in
    let same : least_number j ≡ least_number (suc (m + k)) = ap least_number e in
    let one = rises_once (m + k) in
    let more = rises_by m k (m + k) refl in
    omega arith

pub rises : (k j : ℕ) → k ≤ j → least_number k ≤ least_number j
rises k j le = rises_by (j - k) k j (omega arith)

-- what holds of paths of the files
abbrev pub OfPath : Type 1
OfPath = Cells → NamedMacros → Netlist → Design → Option StilHead → List Path → Fault → Type 0

-- the faults that paths may have
abbrev pub Declared : OfPath
Declared cells macros n d head paths f = IsSomeAnd head (λ h. HoldsInHeads n cells paths h f)

abbrev pub Bits : OfPath
Bits cells macros n d head paths f = HaveTooManyBits n cells paths f

abbrev pub Nets : OfPath
Nets cells macros n d head paths f = HoldsInNets n cells d paths f

-- those of the chains beside the paths, and of the places of their cells
abbrev pub ChainsOrPlaces : OfPath
ChainsOrPlaces cells macros n d head paths f = IsRefusal (path_specs n cells (Some d) paths) (chain_specs n cells d) f ⊎ HoldsInPlaces n macros d paths f

module _ (t : Texts) where
  -- paths of the files with a fault of theirs
  pub record OnPaths (Holds : OfPath) (f : Fault) : Type 0 where
    pub cells : Cells
    pub macros : NamedMacros
    pub netlist : Netlist
    pub design : Design
    pub head : Option StilHead
    pub paths : List Path
    pub are : ArePathsFor t cells macros netlist design head paths
    pub holds : Holds cells macros netlist design head paths f

  -- the faults of a layer
  abbrev pub Layer : ℕ → Fault → Type 0
  Layer zero f = HoldsInTable t.table f
  Layer (suc zero) f = HoldsInLef t.lef f
  Layer (suc (suc zero)) f = HoldsInVerilog t.verilog f
  Layer (suc (suc (suc zero))) f = HoldsInDesign t.def f
  Layer (suc (suc (suc (suc zero)))) f = IsElementFault t f
  Layer (suc (suc (suc (suc (suc zero))))) f = IsAgreementFault t f
  Layer (suc (suc (suc (suc (suc (suc zero)))))) f = IsSomeAnd t.head (λ text. HoldsInHead text f)
  Layer (suc (suc (suc (suc (suc (suc (suc zero))))))) f = IsUndeclaredFault t f
  Layer (suc (suc (suc (suc (suc (suc (suc (suc zero)))))))) f = IsPathFault t f
  Layer (suc (suc (suc (suc (suc (suc (suc (suc (suc zero))))))))) f = OnPaths Declared f
  Layer (suc (suc (suc (suc (suc (suc (suc (suc (suc (suc zero)))))))))) f = OnPaths Bits f
  Layer (suc (suc (suc (suc (suc (suc (suc (suc (suc (suc (suc zero))))))))))) f = OnPaths Nets f
  Layer (suc (suc (suc (suc (suc (suc (suc (suc (suc (suc (suc (suc zero)))))))))))) f = OnPaths ChainsOrPlaces f
  Layer (suc (suc (suc (suc (suc (suc (suc (suc (suc (suc (suc (suc (suc k))))))))))))) f = ⊥

  pub record Layered (f : Fault) : Type 0 where
    pub number : ℕ
    pub here : Layer number f

  traced : (f : Fault) → IsTracedFault t f → Layered f
  traced f (OfHeads cells macros n d head paths are h) = record { number = 9; here = record { cells = cells; macros = macros; netlist = n; design = d; head = head; paths = paths; are = are; holds = h } }
  traced f (OfBits cells macros n d head paths are h) = record { number = 10; here = record { cells = cells; macros = macros; netlist = n; design = d; head = head; paths = paths; are = are; holds = h } }
  traced f (OfNets cells macros n d head paths are h) = record { number = 11; here = record { cells = cells; macros = macros; netlist = n; design = d; head = head; paths = paths; are = are; holds = h } }
  traced f (OfChains cells macros n d head paths are h) = record { number = 12; here = record { cells = cells; macros = macros; netlist = n; design = d; head = head; paths = paths; are = are; holds = inl h } }
  traced f (OfPlaces cells macros n d head paths are h) = record { number = 12; here = record { cells = cells; macros = macros; netlist = n; design = d; head = head; paths = paths; are = are; holds = inr h } }

  pub layered : (f : Fault) → HoldsInFiles t f → Layered f
  layered f (OfTable h) = record { number = 0; here = h }
  layered f (OfLef h) = record { number = 1; here = h }
  layered f (OfVerilog h) = record { number = 2; here = h }
  layered f (OfDesign h) = record { number = 3; here = h }
  layered f (OfElements h) = record { number = 4; here = h }
  layered f (OfAgreement h) = record { number = 5; here = h }
  layered f (OfHead h) = record { number = 6; here = h }
  layered f (OfDeclared h) = record { number = 7; here = h }
  layered f (OfPaths h) = record { number = 8; here = h }
  layered f (OfTraced h) = traced f h
