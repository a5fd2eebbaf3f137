use Rattle.chain_rules.specs.Indexes.{AreFirstPlaces}
use Rattle.chain_rules.proofs.index.put_path.Given as goal

abbrev pub invariant-loop-place : goal.invariant-loop-place
invariant-loop-place l = AreFirstPlaces l.paths l.path l.place l.places
