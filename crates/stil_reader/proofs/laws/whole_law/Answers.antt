use Rattle.stil_reader.proofs.Whole.{end_law, whole_law}
use Rattle.stil_reader.proofs.laws.whole_law.Goals as goal

pub returns-clause-ends : goal.returns-clause-ends
returns-clause-ends c = end_law

pub returns-clause-whole : goal.returns-clause-whole
returns-clause-whole c = whole_law
