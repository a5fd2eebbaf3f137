use Rattle.stil_calls.specs.declared.judging.Judging.TheVariants.{Lengths}
use Rattle.stil_reader.specs.Patterns.{patterns_told}
use Rattle.same_files.proofs.Passed.{NamesSoFar, items_left}
use Rattle.same_files.proofs.set.read_names.Given as goal

abbrev pub invariant-loop-names : goal.invariant-loop-names
invariant-loop-names l = NamesSoFar (patterns_told Lengths l.head l.stil) l.names.items l.patterns

abbrev pub decreases-loop-names : goal.decreases-loop-names
decreases-loop-names l = items_left l.patterns
