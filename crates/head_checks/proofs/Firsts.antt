-- The first fault of a head's declarations.
use Rattle.std.proofs.Common.{ℕ, ◌≤◌, List, Some, None, refl, arith}
use Rattle.std.specs.Ordering.{nat_cmp}
use Rattle.std.specs.declared.cmp.Ordering.TheVariants.{Equal}
use Rattle.base_types.specs.Faults.{at_line}
use Rattle.base_types.specs.FirstFault.{ComesBefore, IsFirstFault}
use Rattle.base_types.specs.declared.fault.Fault.{Fault}
use Rattle.base_types.specs.declared.fault.FileKind.TheVariants.{Stil}
use Rattle.base_types.specs.declared.kind.Kind.TheVariants.{WrongPort, LengthDiffers, InversionDiffers, CellsDiffer}
use Rattle.base_types.proofs.FirstFaults.{later}
use Rattle.netlist_core.specs.declared.netlist.Netlist.{Netlist}
use Rattle.cell_table.specs.Cells.{Cells}
use Rattle.chain_trace.specs.declared.path.Path.{Path}
use Rattle.std.specs.List.{zip}
use Rattle.list_laws.specs.Leasts.{IsLeast}
use Rattle.list_laws.proofs.LeastLines.{line_case}
use Rattle.stil_types.specs.declared.head.StilHead.{StilHead}
use Rattle.head_checks.specs.Heads.{FailsOn, line_of, begins_elsewhere, has_other_length, has_other_inversion, lists_others, are_listed, HoldsInHeads, OfPort, OfLength, OfInversion, OfCells}

port_line : (a b : ℕ) → a ≤ b → ComesBefore (at_line WrongPort Stil b) (at_line WrongPort Stil a) → ⊥
port_line a b le e = line_case a b (nat_cmp b a) Equal refl le refl e

length_line : (a b : ℕ) → a ≤ b → ComesBefore (at_line LengthDiffers Stil b) (at_line LengthDiffers Stil a) → ⊥
length_line a b le e = line_case a b (nat_cmp b a) Equal refl le refl e

inversion_line : (a b : ℕ) → a ≤ b → ComesBefore (at_line InversionDiffers Stil b) (at_line InversionDiffers Stil a) → ⊥
inversion_line a b le e = line_case a b (nat_cmp b a) Equal refl le refl e

cells_line : (a b : ℕ) → a ≤ b → ComesBefore (at_line CellsDiffer Stil b) (at_line CellsDiffer Stil a) → ⊥
cells_line a b le e = line_case a b (nat_cmp b a) Equal refl le refl e

module _ (n : Netlist) (cells : Cells) (paths : List Path) (head : StilHead) where
  abbrev Port : ℕ → Type 0
  Port = FailsOn (begins_elsewhere n) line_of (zip head.chains paths)

  abbrev Length : ℕ → Type 0
  Length = FailsOn (has_other_length n cells) line_of (zip head.chains paths)

  abbrev Inversion : ℕ → Type 0
  Inversion = FailsOn (has_other_inversion n cells) line_of (zip head.chains paths)

  abbrev Listed : ℕ → Type 0
  Listed = FailsOn (lists_others n cells (are_listed head.chains)) line_of (zip head.chains paths)

  port_leasts : (line : ℕ) → IsLeast Port (Some line) → (g : Fault) → HoldsInHeads n cells paths head g → ComesBefore g (at_line WrongPort Stil line) → ⊥
  port_leasts line least _ (OfPort other h) e = port_line line other (least.1 other h) e
  port_leasts line least _ (OfLength other h) e = later (at_line WrongPort Stil line) (at_line LengthDiffers Stil other) (omega arith) e
  port_leasts line least _ (OfInversion other h) e = later (at_line WrongPort Stil line) (at_line InversionDiffers Stil other) (omega arith) e
  port_leasts line least _ (OfCells other h) e = later (at_line WrongPort Stil line) (at_line CellsDiffer Stil other) (omega arith) e

  pub port_first : (line : ℕ) → IsLeast Port (Some line) → IsFirstFault (HoldsInHeads n cells paths head) (at_line WrongPort Stil line)
  port_first line least = record { holds = OfPort line least.0; least = port_leasts line least }

  length_leasts : (line : ℕ) → IsLeast Port None → IsLeast Length (Some line) → (g : Fault) → HoldsInHeads n cells paths head g → ComesBefore g (at_line LengthDiffers Stil line) → ⊥
  length_leasts line none least _ (OfPort other h) e = none other h
  length_leasts line none least _ (OfLength other h) e = length_line line other (least.1 other h) e
  length_leasts line none least _ (OfInversion other h) e = later (at_line LengthDiffers Stil line) (at_line InversionDiffers Stil other) (omega arith) e
  length_leasts line none least _ (OfCells other h) e = later (at_line LengthDiffers Stil line) (at_line CellsDiffer Stil other) (omega arith) e

  pub length_first : (line : ℕ) → IsLeast Port None → IsLeast Length (Some line) → IsFirstFault (HoldsInHeads n cells paths head) (at_line LengthDiffers Stil line)
  length_first line none least = record { holds = OfLength line least.0; least = length_leasts line none least }

  inversion_leasts : (line : ℕ) → IsLeast Port None → IsLeast Length None → IsLeast Inversion (Some line) → (g : Fault) → HoldsInHeads n cells paths head g → ComesBefore g (at_line InversionDiffers Stil line) → ⊥
  inversion_leasts line none same least _ (OfPort other h) e = none other h
  inversion_leasts line none same least _ (OfLength other h) e = same other h
  inversion_leasts line none same least _ (OfInversion other h) e = inversion_line line other (least.1 other h) e
  inversion_leasts line none same least _ (OfCells other h) e = later (at_line InversionDiffers Stil line) (at_line CellsDiffer Stil other) (omega arith) e

  pub inversion_first : (line : ℕ) → IsLeast Port None → IsLeast Length None → IsLeast Inversion (Some line) → IsFirstFault (HoldsInHeads n cells paths head) (at_line InversionDiffers Stil line)
  inversion_first line none same least = record { holds = OfInversion line least.0; least = inversion_leasts line none same least }

  cells_leasts : (line : ℕ) → IsLeast Port None → IsLeast Length None → IsLeast Inversion None → IsLeast Listed (Some line) → (g : Fault) → HoldsInHeads n cells paths head g → ComesBefore g (at_line CellsDiffer Stil line) → ⊥
  cells_leasts line none same alike least _ (OfPort other h) e = none other h
  cells_leasts line none same alike least _ (OfLength other h) e = same other h
  cells_leasts line none same alike least _ (OfInversion other h) e = alike other h
  cells_leasts line none same alike least _ (OfCells other h) e = cells_line line other (least.1 other h) e

  pub cells_first : (line : ℕ) → IsLeast Port None → IsLeast Length None → IsLeast Inversion None → IsLeast Listed (Some line) → IsFirstFault (HoldsInHeads n cells paths head) (at_line CellsDiffer Stil line)
  cells_first line none same alike least = record { holds = OfCells line least.0; least = cells_leasts line none same alike least }

  pub none_holds : IsLeast Port None → IsLeast Length None → IsLeast Inversion None → IsLeast Listed None → (g : Fault) → HoldsInHeads n cells paths head g → ⊥
  none_holds none same alike listed _ (OfPort other h) = none other h
  none_holds none same alike listed _ (OfLength other h) = same other h
  none_holds none same alike listed _ (OfInversion other h) = alike other h
  none_holds none same alike listed _ (OfCells other h) = listed other h
