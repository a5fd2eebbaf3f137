use Rattle.std.proofs.Common.{◌≡◌, drop}
use Rattle.scan_words.specs.Command.{raw_of}
use Rattle.scan_words.specs.Table.{each_value}
use Rattle.scan_words.proofs.ValueLoops.{with_front}
use Rattle.scan_words.proofs.values.each_value.Given as goal

abbrev pub invariant-loop-option : goal.invariant-loop-option
invariant-loop-option l = with_front l.values (each_value (raw_of l.matches) (drop l.option-index l.table)) ≡ each_value (raw_of l.matches) l.table
