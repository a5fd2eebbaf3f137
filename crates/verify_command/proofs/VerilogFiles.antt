-- The faults of a Verilog text stand in it.
use Rattle.std.proofs.Common.{◌≡◌, ℕ, List, refl, ap}
use Rattle.base_types.specs.declared.fault.Fault.{Fault}
use Rattle.base_types.specs.declared.fault.FileKind.{FileKind}
use Rattle.base_types.specs.declared.fault.FileKind.TheVariants.{Verilog}
use Rattle.verilog_syntax.specs.Module.{IsFormFault, Open, Empty, NoHeader, NoStatement, Second, Behind}
use Rattle.verilog_checks.specs.Faults.{HoldsInVerilog, Form, Number, Twice, Select}

-- the file of a fault
abbrev file_of : Fault → FileKind
file_of f = f.file

form_in : (text : List ℕ) (f : Fault) → IsFormFault text f → f.file ≡ Verilog
form_in text f (Open none is) = ap file_of is
form_in text f (Empty behind closed is) = ap file_of is
form_in text f (NoHeader body behind s ss closed are none is) = ap file_of is
form_in text f (NoStatement body behind s front ss ps closed are front_is none is) = ap file_of is
form_in text f (Second body behind t ps closed are word is) = ap file_of is
form_in text f (Behind body behind t ps closed are word is) = ap file_of is

pub in_verilog : (text : List ℕ) (f : Fault) → HoldsInVerilog text f → f.file ≡ Verilog
in_verilog text f (Form _ form) = form_in text f form
in_verilog text _ (Number ps i p are bad) = refl
in_verilog text _ (Twice ps i p are bad) = refl
in_verilog text _ (Select ps i p are bad) = refl
