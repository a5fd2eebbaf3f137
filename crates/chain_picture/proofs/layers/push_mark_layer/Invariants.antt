use Rattle.std.proofs.Common.{◌≡◌, ◌++◌, drop}
use Rattle.chain_picture.specs.Pictures.{marks_from}
use Rattle.chain_picture.proofs.layers.push_mark_layer.Given as goal

abbrev pub invariant-loop-number : goal.invariant-loop-number
invariant-loop-number l = l.text.items ++ marks_from l.mark l.number (drop l.number l.chains) ≡ l.fn.text.items ++ marks_from l.mark 0 l.chains
