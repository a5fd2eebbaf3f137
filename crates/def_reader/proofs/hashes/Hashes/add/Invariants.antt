use Rattle.std.proofs.Common.{◌≡◌, ◌≤◌, ◌<◌, ℕ, slice_index}
use Rattle.def_reader.specs.Hashes.{home_of}
use Rattle.def_reader.proofs.hashes.Hashes.add.Given as goal

abbrev pub invariant-loop-at : goal.invariant-loop-at
invariant-loop-at l = record {
  same : l.self ≡ l.fn.self;
  from : home_of l.self.slots.items l.hash ≤ l.at;
  others : (k : ℕ) → home_of l.self.slots.items l.hash ≤ k → k < l.at → (slice_index l.self.slots.items k ≡ 0 → ⊥) × (slice_index l.self.slots.items k ≡ l.tag → ⊥);
}
