use Rattle.verilog_syntax.proofs.NameTokens.{plain_law, plain_bit_law, escaped_law, escaped_bit_law}
use Rattle.verilog_syntax.proofs.token_laws.name_law.Goals as goal

pub returns-clause-plain : goal.returns-clause-plain
returns-clause-plain c = plain_law

pub returns-clause-plain_bit : goal.returns-clause-plain_bit
returns-clause-plain_bit c = plain_bit_law

pub returns-clause-escaped : goal.returns-clause-escaped
returns-clause-escaped c = escaped_law

pub returns-clause-escaped_bit : goal.returns-clause-escaped_bit
returns-clause-escaped_bit c = escaped_bit_law
