use Rattle.std.proofs.Common.{◌-◌}
use Rattle.chain_rules.specs.Runs.{stretch}
use Rattle.chain_rules.proofs.Cutting.{SoFar}
use Rattle.chain_rules.proofs.cuts.cuts_of.Given as goal

abbrev pub invariant-cuts : goal.invariant-cuts
invariant-cuts l = SoFar (stretch l.listing.run) l.listing.marks.items l.cuts.items l.first l.last

abbrev pub decreases-cuts : goal.decreases-cuts
decreases-cuts l = l.listing.run.to - l.last
