use Rattle.std.proofs.Common.{◌≡◌, ◌++◌, drop}
use Rattle.chain_picture.specs.Pictures.{cells_from}
use Rattle.chain_picture.proofs.layers.push_cell_layer.Given as goal

abbrev pub invariant-loop-number : goal.invariant-loop-number
invariant-loop-number l = l.text.items ++ cells_from l.number (drop l.number l.chains) ≡ l.fn.text.items ++ cells_from 0 l.chains
