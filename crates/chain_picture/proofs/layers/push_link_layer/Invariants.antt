use Rattle.std.proofs.Common.{◌≡◌, ◌++◌, drop}
use Rattle.chain_picture.specs.Pictures.{links_from}
use Rattle.chain_picture.proofs.layers.push_link_layer.Given as goal

abbrev pub invariant-loop-number : goal.invariant-loop-number
invariant-loop-number l = l.text.items ++ links_from l.dash l.number (drop l.number l.chains) ≡ l.fn.text.items ++ links_from l.dash 0 l.chains
