use Rattle.stil_head.proofs.ends.begins_pattern.Given as goal
use Rattle.std.proofs.Common.{◌≡◌, ◌≤◌, ◌-◌, length, drop, true}
use Rattle.stil_parts.specs.Heads.{word_of}
use Rattle.stil_parts.specs.Parts.{begin}
use Rattle.stil_parts.specs.declared.word.Word.TheVariants.{Start}

abbrev pub invariant-loop-at : goal.invariant-loop-at
invariant-loop-at l = record { within : l.at ≤ length l.bytes; shallow : l.scan.depth ≤ l.at; same : word_of true l.scan (drop l.at l.bytes) ≡ word_of true (begin Start) l.bytes }

abbrev pub decreases-loop-at : goal.decreases-loop-at
decreases-loop-at l = length l.bytes - l.at
