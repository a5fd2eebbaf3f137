-- Spans of numbers.
use Rattle.std.specs.Prelude.{◌≢◌, ℕ, ◌<◌, ◌≤◌, nat_lt, ◌&&◌, Bool, List, length, map, All, slice_index_or}
use Rattle.std.specs.List.Sorted.{IsNonDecreasing, IsPermutation}
use Rattle.chain_rules.specs.declared.spans.Span.{Span}

-- no number
abbrev pub no_span : Span
no_span = record { from = 0; to = 0 }

-- the span of a chain
abbrev pub span_at : List Span → ℕ → Span
span_at spans d = slice_index_or spans d no_span

-- the spans have a number in common
pub record Overlap (s t : Span) : Type 0 where
  pub first : s.from < t.to
  pub second : t.from < s.to

-- two spans have a place in common
abbrev pub overlap : Span → Span → Bool
overlap s t = nat_lt s.from t.to && nat_lt t.from s.to

-- where the spans begin, and where they end, each in order
pub record AreSorted (spans : List Span) (begins ends : List ℕ) : Type 0 where
  pub ordered : All (λ s. s.from ≤ s.to) spans
  pub begins_same : IsPermutation (map (λ s. s.from) spans) begins
  pub begins_rise : IsNonDecreasing begins
  pub ends_same : IsPermutation (map (λ s. s.to) spans) ends
  pub ends_rise : IsNonDecreasing ends

-- one of the spans has a number in common with this one
abbrev pub MeetsOne : Span → List Span → Type 0
MeetsOne span spans = (d : ℕ) × (d < length spans) × Overlap span (span_at spans d)

-- another one of the spans has a number in common with the one of a number
abbrev pub MeetsAnother : List Span → ℕ → Type 0
MeetsAnother spans c = (d : ℕ) × (d < length spans) × (d ≢ c) × Overlap (span_at spans c) (span_at spans d)
