use Rattle.stil_tokens.proofs.StilCuts.{statements_law, only_statements_law, first_law}
use Rattle.stil_tokens.proofs.laws.statement_law.Goals as goal

pub returns-clause-split : goal.returns-clause-split
returns-clause-split c = statements_law

pub returns-clause-only : goal.returns-clause-only
returns-clause-only c = only_statements_law

pub returns-clause-first : goal.returns-clause-first
returns-clause-first c = first_law
