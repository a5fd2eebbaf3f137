use Rattle.std.proofs.Common.{◌≡◌, ◌++◌, map, drop}
use Rattle.scan_words.specs.Command.{raw_of}
use Rattle.scan_words.specs.Table.{values_like}
use Rattle.scan_words.proofs.values.values_like.Given as goal

abbrev pub invariant-loop-option : goal.invariant-loop-option
invariant-loop-option l = map (λ v. v.now) l.values.items ++ values_like l.form (raw_of l.matches) (drop l.option-index l.table) ≡ values_like l.form (raw_of l.matches) l.table
