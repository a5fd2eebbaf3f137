use Rattle.std.proofs.Common.{◌≡◌, ◌++◌, length, drop}
use Rattle.draw_command.specs.Drawn.{drawn_from}
use Rattle.draw_command.proofs.drawn.drawn_of.Given as goal

abbrev pub invariant-loop-number : goal.invariant-loop-number
invariant-loop-number l = record {
  value :
      l.drawn.items ++ drawn_from l.macros l.design l.rules l.ends l.number (drop l.number l.design.chains) ≡ drawn_from l.macros l.design l.rules l.ends 0 l.design.chains;
  count : length l.drawn.items ≡ l.number;
}
