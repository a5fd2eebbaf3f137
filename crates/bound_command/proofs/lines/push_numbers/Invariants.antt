use Rattle.std.proofs.Common.{◌≡◌, ◌++◌, drop}
use Rattle.bound_command.specs.Bounds.{numbers_text}
use Rattle.bound_command.proofs.lines.push_numbers.Given as goal

abbrev pub invariant-loop-x : goal.invariant-loop-x
invariant-loop-x l = l.text.items ++ numbers_text (drop l.x-index l.numbers) ≡ l.fn.text.items ++ (l.word ++ numbers_text l.numbers)
