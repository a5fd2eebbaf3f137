use Rattle.std.proofs.Common.{◌≡◌, ◌<◌, ◌≤◌, ℕ, length, get_or}
use Rattle.desk_io.specs.Memory.{fresh_part}
use Rattle.desk_io.proofs.memory.MemoryDesk.new.Given as goal

abbrev pub invariant-loop-at : goal.invariant-loop-at
invariant-loop-at l = record {
  count : length l.parts.items ≡ l.at;
  inputs : (k : ℕ) → k < l.at → k < 8 → get_or l.parts.items k (fresh_part 0) ≡ fresh_part 0;
  outputs : (k : ℕ) → k < l.at → 8 ≤ k → get_or l.parts.items k (fresh_part 0) ≡ fresh_part l.room;
}
