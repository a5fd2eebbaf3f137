-- Which scan call does on new chains what another one does on old chains of the same cells.
use Rattle.std.specs.Prelude.{◌≡◌, ◌≢◌, ℕ, ◌<◌, ◌≤◌, ◌↔◌, ◌⊎◌, Bool, if◌then◌else◌, length, slice_index_or, None, IsSome, IfSome}
use Rattle.lane_kernels.specs.Kernels.{flipped}
use Rattle.stil_types.specs.declared.statement.ScanCall.{ScanCall}
use Rattle.stil_tester.specs.declared.chains.Chains.{Chains}
use Rattle.stil_tester.specs.Shifting.{AreChains}
use Rattle.retarget.specs.Places.{parity_to, parity_after, chain_bits, bits_at, StandsAt}
use Rattle.stil_tester.specs.Symbols.{differ}
use Rattle.stil_types.specs.Calls.{compare_at}
use Rattle.retarget.specs.Judging.{load_at, exit_of}

-- a character, with 0 and 1, and L and H, exchanged where the parity is 1
abbrev pub flip_character_if : Bool → ℕ → ℕ
flip_character_if parity character = if parity then flipped character else character

-- as many chains, and the same cells
pub record HaveSameCells (old new : Chains) : Type 0 where
  pub old_chains : AreChains old
  pub new_chains : AreChains new
  pub chains : length new.chains ≡ length old.chains
  pub cells : new.cells ≡ old.cells

-- every cell gets the character that gives it the same value: that of its old place, flipped where the parities from the scan inputs differ; all other places hold N (78)
pub record KeepsLoads (old new : Chains) (call written : ScanCall) : Type 0 where
  pub cells : (cell c i d j : ℕ) → StandsAt old cell c i → StandsAt new cell d j
      → load_at written d j ≡ flip_character_if (differ (parity_to (chain_bits old c) i) (parity_to (chain_bits new d) j)) (load_at call c i)
  pub others : (d j : ℕ) → d < length new.chains → bits_at new d ≤ j → load_at written d j ≡ 78

-- every expectation of a cell stands where that cell comes out, flipped where the parities to the scan outputs differ; all other places hold X (88)
pub record KeepsCompares (old new : Chains) (call written : ScanCall) : Type 0 where
  pub cells : (cell c i d j : ℕ) → StandsAt old cell c i → StandsAt new cell d j
      → compare_at written d (exit_of new d j) ≡ flip_character_if (differ (parity_after (chain_bits old c) i) (parity_after (chain_bits new d) j)) (compare_at call c (exit_of old c i))
  pub others : (d k : ℕ) → d < length new.chains → bits_at new d ≤ k → compare_at written d k ≡ 88

-- a load is written exactly where one was given, or where a character other than N falls on it
abbrev pub WritesLoads : Chains → ScanCall → ScanCall → Type 0
WritesLoads new call written =
    (d : ℕ) → d < length new.chains → IsSome (slice_index_or written.loads d None) ↔ (IsSome (slice_index_or call.loads d None) ⊎ ((j : ℕ) × (load_at written d j ≢ 78)))

-- a compare is written exactly where one was given, or where a character other than X falls on it
abbrev pub WritesCompares : Chains → ScanCall → ScanCall → Type 0
WritesCompares new call written =
    (d : ℕ) → d < length new.chains → IsSome (slice_index_or written.compares d None) ↔ (IsSome (slice_index_or call.compares d None) ⊎ ((k : ℕ) × (compare_at written d k ≢ 88)))

-- every string that is written has this length
pub record AreFull (written : ScanCall) (long : ℕ) : Type 0 where
  pub loads : (d : ℕ) → IfSome (slice_index_or written.loads d None) (λ text. length text ≡ long)
  pub compares : (d : ℕ) → IfSome (slice_index_or written.compares d None) (λ text. length text ≡ long)
