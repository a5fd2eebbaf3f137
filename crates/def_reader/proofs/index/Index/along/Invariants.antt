use Rattle.std.proofs.Common.{◌≤◌, ℕ, length, Option}
use Rattle.def_reader.specs.NamedRows.{Leads}
use Rattle.def_reader.proofs.index.Index.along.Given as goal

abbrev pub invariant-loop-link : goal.invariant-loop-link
invariant-loop-link g l = record {
  within : l.link ≤ length l.self.links.items;
  leads : (found : Option ℕ) → Leads g.T.Named.name_of l.rows l.self.links.items l.name l.head found → Leads g.T.Named.name_of l.rows l.self.links.items l.name l.link found;
}

abbrev pub decreases-loop-link : goal.decreases-loop-link
decreases-loop-link g l = l.link
