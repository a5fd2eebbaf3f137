use Rattle.std.proofs.Common.{◌≡◌, take}
use Rattle.std.specs.Hash.DefaultHasher as sip
use Rattle.std.specs.List.{fold}
use Rattle.def_reader.proofs.index.key_of.Given as goal

abbrev pub invariant-loop-row : goal.invariant-loop-row
invariant-loop-row g l = l.hasher ≡ fold (λ h row. sip.write h (g.T.Named.name_of row)) sip.initial (take l.row-index l.rows)
