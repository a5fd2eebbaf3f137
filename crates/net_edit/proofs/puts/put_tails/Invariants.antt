use Rattle.std.proofs.Common.{◌≡◌, take}
use Rattle.std.specs.HashMap.{get}
use Rattle.std.specs.Option.{option_or}
use Rattle.net_edit.specs.Applied.{PinKey, same_pin, tail_put}
use Rattle.net_edit.proofs.puts.put_tails.Given as goal

abbrev pub invariant-loop-place : goal.invariant-loop-place
invariant-loop-place l = (q : PinKey) → get same_pin l.puts q ≡ option_or (get same_pin l.fn.puts q) (tail_put l.netlist (take l.place l.tails) q.0 q.1.now)
