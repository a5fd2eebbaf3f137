use Rattle.verilog_syntax.proofs.SpelledLaw.{spelled_law}
use Rattle.verilog_syntax.proofs.ReadLaw.{read_law, no_statement_law, no_header_law}
use Rattle.verilog_syntax.proofs.Modules.{module_law, form_fault_law, one_form_fault, one_module}
use Rattle.verilog_syntax.proofs.laws.grammar_law.Goals as goal

pub returns-clause-module : goal.returns-clause-module
returns-clause-module c = module_law

pub returns-clause-form_fault : goal.returns-clause-form_fault
returns-clause-form_fault c = form_fault_law

pub returns-clause-one_form_fault : goal.returns-clause-one_form_fault
returns-clause-one_form_fault c = one_form_fault

pub returns-clause-one_module : goal.returns-clause-one_module
returns-clause-one_module c = one_module

pub returns-clause-spelled : goal.returns-clause-spelled
returns-clause-spelled c = spelled_law

pub returns-clause-read : goal.returns-clause-read
returns-clause-read c = read_law

pub returns-clause-no_statement : goal.returns-clause-no_statement
returns-clause-no_statement c = no_statement_law

pub returns-clause-no_header : goal.returns-clause-no_header
returns-clause-no_header c = no_header_law
