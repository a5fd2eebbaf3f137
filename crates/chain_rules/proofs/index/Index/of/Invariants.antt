use Rattle.chain_rules.specs.Indexes.{AreFirstPlaces}
use Rattle.chain_rules.proofs.index.Index.of.Given as goal

abbrev pub invariant-loop-path : goal.invariant-loop-path
invariant-loop-path l = AreFirstPlaces l.paths l.path 0 l.places
