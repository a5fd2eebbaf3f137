-- The stretches and the START and STOP cells of the chains, as spans of the numbers of their steps.
use Rattle.std.specs.Prelude.{◌≡◌, ℕ, ◌+◌, ◌<◌, ◌≤◌, ◌⊎◌, List, length, Option, MatchOption}
use Rattle.chain_rules.specs.declared.spans.Span.{Span}
use Rattle.chain_rules.specs.declared.meets.Spread.{Spread}
use Rattle.chain_rules.specs.declared.stretch.Run.{Run}
use Rattle.chain_rules.specs.declared.spec.PathSpec.{PathSpec}
use Rattle.chain_rules.specs.declared.spec.EndSpec.{EndSpec}
use Rattle.chain_rules.specs.declared.spec.ChainSpec.{ChainSpec}
use Rattle.chain_rules.specs.Stretches.{path_at, step_at, spec_at, IsPlace, IsEndStep, Stretch}
use Rattle.chain_rules.specs.Indexes.{steps_before}
use Rattle.chain_rules.specs.Runs.{stretch, run_at}
use Rattle.chain_rules.specs.Spans.{no_span, span_at, MeetsOne, MeetsAnother}

-- the stretch is on a path, and has a step
pub record IsOnPath (paths : List PathSpec) (s : Stretch) : Type 0 where
  pub path : s.path < length paths
  pub within : s.to ≤ length (path_at paths s.path).steps
  pub some : s.from < s.to

-- the numbers of the steps of a stretch
abbrev pub span_of : List PathSpec → Stretch → Span
span_of paths s = record { from = steps_before paths s.path + s.from; to = steps_before paths s.path + s.to }

-- the span of a chain's stretch, or none
abbrev pub IsSpanOfRun : List PathSpec → Option Run → Span → Type 0
IsSpanOfRun paths run span = MatchOption run (span ≡ no_span) (λ r. span ≡ span_of paths (stretch r))

-- the step of a START or STOP cell as a stretch
abbrev pub at_place : ℕ → ℕ → Stretch
at_place n k = record { path = n; from = k; to = k + 1 }

-- the number of the step of a START or STOP cell, where it stands on the paths
abbrev pub IsSpanOfEnd : List PathSpec → EndSpec → Span → Type 0
IsSpanOfEnd paths end span =
    ((span ≡ no_span) × ((n k : ℕ) → IsPlace paths n k → ¬ IsEndStep (step_at (path_at paths n) k) end))
    ⊎ ((n : ℕ) × (k : ℕ) × IsPlace paths n k × IsEndStep (step_at (path_at paths n) k) end × (span ≡ span_of paths (at_place n k)))

-- so many spans, each of its number
pub record AreSpansOf (P : ℕ → Span → Type 0) (count : ℕ) (spans : List Span) : Type 0 where
  pub long : length spans ≡ count
  pub each : (c : ℕ) → c < count → P c (span_at spans c)

-- the spans of the stretches, of the START cells and of the STOP cells of the chains
pub record IsSpread (paths : List PathSpec) (chains : List ChainSpec) (runs : List (Option Run)) (spread : Spread) : Type 0 where
  pub stretches : AreSpansOf (λ c. IsSpanOfRun paths (run_at runs c)) (length chains) spread.stretches
  pub starts : AreSpansOf (λ c. IsSpanOfEnd paths (spec_at chains c).start) (length chains) spread.starts
  pub stops : AreSpansOf (λ c. IsSpanOfEnd paths (spec_at chains c).stop) (length chains) spread.stops

-- another chain's stretch, or a START or STOP cell, has a step in the chain's stretch
abbrev pub HoldsAnother : Spread → ℕ → Type 0
HoldsAnother spread c =
    (MeetsAnother spread.stretches c ⊎ MeetsOne (span_at spread.stretches c) spread.starts) ⊎ MeetsOne (span_at spread.stretches c) spread.stops

-- the chain's START or STOP cell has a step in a stretch
abbrev pub LiesInAnother : Spread → ℕ → Type 0
LiesInAnother spread c = MeetsOne (span_at spread.starts c) spread.stretches ⊎ MeetsOne (span_at spread.stops c) spread.stretches

-- the chain meets another one
abbrev pub IsMet : Spread → ℕ → Type 0
IsMet spread c = HoldsAnother spread c ⊎ LiesInAnother spread c
