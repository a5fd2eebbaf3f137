use Rattle.std.proofs.Common.{◌≡◌, ◌++◌, drop}
use Rattle.chain_picture.specs.Pictures.{rows_from}
use Rattle.chain_picture.proofs.legend.push_rows.Given as goal

abbrev pub invariant-loop-number : goal.invariant-loop-number
invariant-loop-number l = l.text.items ++ rows_from l.totals l.number (drop l.number l.chains) ≡ l.fn.text.items ++ rows_from l.totals 0 l.chains
