use Rattle.verilog_checks.proofs.Cases.{test_law}
use Rattle.verilog_checks.proofs.CheckLaw.{number_law, twice_law, select_law}
use Rattle.verilog_checks.proofs.laws.check_law.Goals as goal

pub returns-clause-number : goal.returns-clause-number
returns-clause-number c = number_law

pub returns-clause-twice : goal.returns-clause-twice
returns-clause-twice c = twice_law

pub returns-clause-select : goal.returns-clause-select
returns-clause-select c = select_law

pub returns-clause-test : goal.returns-clause-test
returns-clause-test c = test_law
