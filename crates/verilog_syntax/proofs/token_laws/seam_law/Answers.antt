use Rattle.verilog_syntax.proofs.VerilogLaws.{texts_law, replaced_law}
use Rattle.verilog_syntax.proofs.token_laws.seam_law.Goals as goal

pub returns-clause-texts : goal.returns-clause-texts
returns-clause-texts c = texts_law

pub returns-clause-replaced : goal.returns-clause-replaced
returns-clause-replaced c = replaced_law
