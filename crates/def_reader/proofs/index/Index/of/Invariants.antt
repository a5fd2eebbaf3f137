use Rattle.std.proofs.Common.{◌≡◌, length, map, take}
use Rattle.def_reader.specs.NamedRows.{key_of, AreEntered}
use Rattle.def_reader.specs.Steps.{IsSeen}
use Rattle.def_reader.proofs.Chained.{has_row}
use Rattle.def_reader.proofs.index.Index.of.Given as goal

abbrev pub invariant-loop-row : goal.invariant-loop-row
invariant-loop-row g l = record {
  entered : AreEntered g.T.Named.name_of l.index l.rows;
  count : length l.index.links.items ≡ l.row-index;
  key : l.index.key ≡ key_of g.T.Named.name_of l.rows;
  seen : IsSeen (λ q. q) (has_row g.T.Named.name_of (take l.row-index l.rows)) l.least (map (λ r. (g.T.Named.name_of r, g.T.Named.line_of r)) (take l.row-index l.rows));
}
