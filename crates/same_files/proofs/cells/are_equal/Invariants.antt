use Rattle.std.proofs.Common.{◌≡◌, ℕ, ◌<◌, List, get_or}
use Rattle.same_files.specs.Cells.{seen}
use Rattle.same_files.proofs.Entries.{Held, Entry}
use Rattle.same_files.proofs.cells.are_equal.Given as goal

abbrev pub invariant-loop-index : goal.invariant-loop-index
invariant-loop-index l = (k : ℕ) (d : Held) → k < l.index → ◌≡◌ {A = Entry} (seen (get_or l.a k d)) (seen (get_or l.b k d))
