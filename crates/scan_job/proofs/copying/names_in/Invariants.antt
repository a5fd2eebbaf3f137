use Rattle.std.proofs.Common.{◌≡◌, ◌++◌, drop}
use Rattle.scan_job.proofs.copying.names_in.Given as goal

abbrev pub invariant-loop-word : goal.invariant-loop-word
invariant-loop-word l = l.names ++ drop l.word-index l.words ≡ l.words
