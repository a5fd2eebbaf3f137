use Rattle.std.proofs.Common.{◌≡◌, ◌++◌, map, take}
use Rattle.cell_table.specs.Cells.{pins_of}
use Rattle.cell_table.proofs.pins.pins_of.Given as goal

abbrev pub invariant-loop-path : goal.invariant-loop-path
invariant-loop-path l = map (λ pin. pin.now) l.pins.items ≡ pins_of (take l.path-index l.paths)

abbrev pub invariant-loop-out : goal.invariant-loop-out
invariant-loop-out l = map (λ pin. pin.now) l.pins.items ≡ map (λ pin. pin.now) l.initial.pins.items ++ map (λ out. out.pin) (take l.out-index l.out-items)
