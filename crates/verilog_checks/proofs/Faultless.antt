-- A text without a fault is read, and its statements pass the checks.
use Rattle.std.proofs.Common.{◌≡◌, ℕ, List, Ok}
use Rattle.verilog_syntax.specs.declared.reading.Placed.{Placed}
use Rattle.verilog_syntax.specs.Reading.{read_statements}
use Rattle.verilog_syntax.proofs.Modules.{module_law}
use Rattle.verilog_checks.specs.Faults.{IsFaultless}
use Rattle.verilog_checks.specs.Checks.{check_number, check_twice, check_select}
use Rattle.verilog_checks.proofs.CheckLaw.{number_law, twice_law, select_law}

-- what the functions say of such a text
pub record Passed (text : List ℕ) (ps : List Placed) : Type 0 where
  pub read : read_statements text ≡ Ok ps
  pub number : check_number ps ≡ Ok tt
  pub twice : check_twice ps ≡ Ok tt
  pub select : check_select ps ≡ Ok tt

pub passed : (text : List ℕ) (ps : List Placed) → IsFaultless text ps → Passed text ps
passed text ps is =
    record { read = (module_law text ps).1 is.form; number = (number_law ps).passes is.numbers; twice = (twice_law ps).passes is.once; select = (select_law ps).passes is.selects }

pub faultless : (text : List ℕ) (ps : List Placed) → read_statements text ≡ Ok ps → check_number ps ≡ Ok tt → check_twice ps ≡ Ok tt → check_select ps ≡ Ok tt → IsFaultless text ps
faultless text ps read number twice select =
    record { form = (module_law text ps).0 read; numbers = (number_law ps).passed number; once = (twice_law ps).passed twice; selects = (select_law ps).passed select }
