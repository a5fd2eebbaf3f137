use Rattle.std.proofs.Common.{◌≡◌, List, ℕ, take, drop, Bor}
use Rattle.std.specs.List.{list_any}
use Rattle.std.specs.Str.{bytes_eq}
use Rattle.std.specs.HashSet.{contains}
use Rattle.cell_table.specs.Cells.{twice_behind, has_twice}
use Rattle.cell_table.proofs.Names.{texts}
use Rattle.cell_table.proofs.pins.has_twice.Given as goal

abbrev pub invariant-loop-name : goal.invariant-loop-name
invariant-loop-name l = record {
  same : twice_behind (texts (take l.name-index l.names)) (texts (drop l.name-index l.names)) ≡ has_twice (texts l.names);
  seen : (q : Bor (List ℕ)) → contains (λ x y. bytes_eq x.now y.now) l.seen q ≡ list_any (λ m. bytes_eq m q.now) (texts (take l.name-index l.names));
}
