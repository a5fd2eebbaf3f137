use Rattle.std.proofs.Common.{◌≡◌, ◌++◌, drop}
use Rattle.chain_picture.specs.Pictures.{links}
use Rattle.chain_picture.proofs.layers.push_links.Given as goal

abbrev pub invariant-loop-segment : goal.invariant-loop-segment
invariant-loop-segment l = l.text.items ++ links (drop l.segment-index l.segments) ≡ l.fn.text.items ++ links l.segments
