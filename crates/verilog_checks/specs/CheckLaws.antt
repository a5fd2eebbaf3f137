-- What the functions of Checks are by the words of Faults.
use Rattle.std.specs.Prelude.{◌≡◌, ℕ, true, List, Result, Ok, Err}
use Rattle.base_types.specs.declared.fault.Fault.{Fault}
use Rattle.base_types.specs.declared.kind.Kind.{Kind}
use Rattle.base_types.specs.declared.kind.Kind.TheVariants.{VerilogNumber, VerilogTwice, BadSelect}
use Rattle.verilog_syntax.specs.declared.reading.Placed.{Placed}
use Rattle.verilog_syntax.specs.Reading.{fault_at}
use Rattle.verilog_checks.specs.Faults.{IsFirstBad, HasNoBad, IsBadNumber, IsTwice, IsBadSelect}
use Rattle.verilog_checks.specs.Checks.{bad_twice, check_number, check_twice, check_select}

-- the function passes exactly where no statement is bad, and else answers the first that is
pub record IsJudged (IsBad : List Placed → Placed → Type 0) (kind : Kind) (ps : List Placed) (judged : Result (Unit {0}) Fault) : Type 0 where
  pub passed : judged ≡ Ok tt → HasNoBad IsBad ps
  pub passes : HasNoBad IsBad ps → judged ≡ Ok tt
  pub refused : (f : Fault) → judged ≡ Err f → (i : ℕ) × (p : Placed) × IsFirstBad IsBad ps i p × (f ≡ fault_at kind p.line)

-- so the check of numbers is
abbrev pub NumberLaw : Type 0
NumberLaw = (ps : List Placed) → IsJudged IsBadNumber VerilogNumber ps (check_number ps)

-- and that of names
abbrev pub TwiceLaw : Type 0
TwiceLaw = (ps : List Placed) → IsJudged (IsTwice ps) VerilogTwice ps (check_twice ps)

-- and that of selects
abbrev pub SelectLaw : Type 0
SelectLaw = (ps : List Placed) → IsJudged (IsBadSelect ps) BadSelect ps (check_select ps)

-- a statement fails the test for names exactly where one of the cases holds
abbrev pub TestLaw : Type 0
TestLaw = (all before : List Placed) (p : Placed) → (bad_twice all before p ≡ true → IsTwice all before p) × (IsTwice all before p → bad_twice all before p ≡ true)
