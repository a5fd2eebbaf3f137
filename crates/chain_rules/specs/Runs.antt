-- Stretches as the code holds them.
use Rattle.std.specs.Prelude.{◌≡◌, ℕ, ◌+◌, ◌-◌, ◌<◌, ◌≤◌, ◌⊎◌, ◌↔◌, nat_lt, IsTrue, if◌then◌else◌, List, [], ◌∷◌, All, length, slice_index_or, Option, None, MatchOption}
use Rattle.chain_rules.specs.declared.stretch.Run.{Run}
use Rattle.chain_rules.specs.declared.cuts.Cut.{Cut}
use Rattle.chain_rules.specs.declared.listing.Listing.{Listing}
use Rattle.chain_rules.specs.declared.spec.PathSpec.{PathSpec}
use Rattle.chain_rules.specs.declared.spec.ElementSpec.{ElementSpec}
use Rattle.chain_rules.specs.declared.spec.ListSpec.{ListSpec}
use Rattle.chain_rules.specs.declared.spec.ListSpec.TheVariants.{Floating, Ordered}
use Rattle.chain_rules.specs.declared.spec.ChainSpec.{ChainSpec}
use Rattle.chain_rules.specs.declared.unit.Unit.{Unit as MovedUnit}
use Rattle.chain_rules.specs.declared.unit.ChainRule.{ChainRule}
use Rattle.chain_rules.specs.Rules.{PinsLast}
use Rattle.chain_rules.specs.Stretches.{bits_between, spec_at, path_at, step_at, groups_of, Names, no_element, IsInside, IsNamedBy, Stretch, IsStretch, HasStretch}

-- a run as a stretch
abbrev pub stretch : Run → Stretch
stretch run = record { path = run.path; from = run.from; to = run.to }

-- the run is the chain's stretch, or there is none
abbrev pub IsRunOf : List PathSpec → ChainSpec → Option Run → Type 0
IsRunOf paths chain run = MatchOption run (¬ HasStretch paths chain) (λ r. IsStretch paths chain (stretch r))

-- the run of a chain
abbrev pub run_at : List (Option Run) → ℕ → Option Run
run_at runs c = slice_index_or runs c None

-- each chain's run is kept
pub record AreRunsOf (paths : List PathSpec) (chains : List ChainSpec) (runs : List (Option Run)) : Type 0 where
  pub long : length runs ≡ length chains
  pub each : (c : ℕ) → c < length chains → IsRunOf paths (spec_at chains c) (run_at runs c)

-- the mark of a step of a stretch: 0, or one more than the number of its group
abbrev pub mark_at : Stretch → List ℕ → ℕ → ℕ
mark_at s marks k = slice_index_or marks (k - s.from) 0

-- each step of the stretch is marked by the group that names it, where one of these groups does
pub record AreMarks (path : PathSpec) (s : Stretch) (groups : List (List ElementSpec)) (marks : List ℕ) : Type 0 where
  pub long : length marks ≡ s.to - s.from
  pub named : (k g : ℕ) → IsInside s k → mark_at s marks k ≡ g + 1 → (g < length groups) × IsNamedBy (slice_index_or groups g []) (step_at path k)
  pub marked : (k g : ℕ) → IsInside s k → g < length groups → IsNamedBy (slice_index_or groups g []) (step_at path k) → 0 < mark_at s marks k

-- the stretch of a chain with its marks
pub record IsListingOf (paths : List PathSpec) (chain : ChainSpec) (listing : Listing) : Type 0 where
  pub is_stretch : IsStretch paths chain (stretch listing.run)
  pub are_marks : AreMarks (path_at paths listing.run.path) (stretch listing.run) (groups_of chain) listing.marks.items

-- each chain's listings are kept
pub record AreListingsOf (paths : List PathSpec) (chains : List ChainSpec) (listings : List Listing) : Type 0 where
  pub long : length listings ≡ length chains
  pub each : (c : ℕ) (d : Listing) → c < length chains → IsListingOf paths (spec_at chains c) (slice_index_or listings c d)

-- a step of the stretch without a mark has a bit
abbrev pub HasUnmarkedBit : PathSpec → Stretch → List ℕ → Type 0
HasUnmarkedBit path s marks = (k : ℕ) × IsInside s k × (mark_at s marks k ≡ 0) × (0 < (step_at path k).bits)

-- two elements, at places a and b, don't stand in their order with only steps without a mark between
pub record IsBreakBetween (path : PathSpec) (s : Stretch) (marks : List ℕ) (one other : ElementSpec) (a b : ℕ) : Type 0 where
  pub first_inside : IsInside s a
  pub second_inside : IsInside s b
  pub first : Names one (step_at path a)
  pub second : Names other (step_at path b)
  pub broken : (b ≤ a) ⊎ ((k : ℕ) × (a < k) × (k < b) × (0 < mark_at s marks k))

-- two neighbours of the list are so
abbrev pub HasBreak : PathSpec → Stretch → List ℕ → List ElementSpec → Type 0
HasBreak path s marks elements =
    (i : ℕ) × (i + 1 < length elements) × (a : ℕ) × (b : ℕ) × IsBreakBetween path s marks (slice_index_or elements i no_element) (slice_index_or elements (i + 1) no_element) a b

-- an ORDERED list is so
abbrev pub ListHasBreak : PathSpec → Stretch → List ℕ → ListSpec → Type 0
ListHasBreak path s marks (Floating elements) = ⊥
ListHasBreak path s marks (Ordered elements) = HasBreak path s marks elements

-- what stands for a list that isn't there
abbrev pub no_list : ListSpec
no_list = Floating []

-- between two steps of one group stand no steps of another
abbrev pub AreTogether : Stretch → List ℕ → Type 0
AreTogether s marks =
    (i j k : ℕ) → IsInside s i → IsInside s k → i < j → j < k → mark_at s marks i ≡ mark_at s marks k → 0 < mark_at s marks i → 0 < mark_at s marks j → mark_at s marks j ≡ mark_at s marks i

-- the steps of one group, from its first one up to the next group
pub record IsCut (s : Stretch) (marks : List ℕ) (cut : Cut) : Type 0 where
  pub first : IsInside s cut.first
  pub last : IsInside s cut.last
  pub order : cut.first ≤ cut.last
  pub begins : 0 < mark_at s marks cut.first
  pub within : (k : ℕ) → cut.first ≤ k → k ≤ cut.last → 0 < mark_at s marks k → mark_at s marks k ≡ mark_at s marks cut.first
  pub all : (k : ℕ) → IsInside s k → mark_at s marks k ≡ mark_at s marks cut.first → (cut.first ≤ k) × (k ≤ cut.last)

-- the cuts follow one another without a gap
abbrev pub CutsCover : List Cut → ℕ → ℕ → Type 0
CutsCover [] from to = from ≡ to
CutsCover (c ∷ cs) from to = (c.first ≡ from) × CutsCover cs (c.last + 1) to

-- the cuts of a stretch: from its first marked step to its last one
pub record AreCuts (s : Stretch) (marks : List ℕ) (cuts : List Cut) (first last : ℕ) : Type 0 where
  pub some : 0 < length cuts
  pub first_inside : IsInside s first
  pub last_inside : IsInside s last
  pub begins : 0 < mark_at s marks first
  pub ends : 0 < mark_at s marks last
  pub head : (k : ℕ) → IsInside s k → k < first → mark_at s marks k ≡ 0
  pub tail : (k : ℕ) → IsInside s k → last < k → mark_at s marks k ≡ 0
  pub cover : CutsCover cuts first (last + 1)
  pub each : All (IsCut s marks) cuts

-- what stands for a cut that isn't there
abbrev pub no_cut : Cut
no_cut = record { first = 0; last = 0 }

-- where the last cut ends
abbrev pub end_of_cuts : List Cut → ℕ
end_of_cuts cuts = (slice_index_or cuts (length cuts - 1) no_cut).last

-- the unit is that of the cut, in a chain whose last unit ends at this place
pub record IsUnitOfCut (path : PathSpec) (chain : ChainSpec) (run : Run) (cut : Cut) (last : ℕ) (u : MovedUnit) : Type 0 where
  pub on : u.path ≡ run.path
  pub first : u.first ≡ cut.first
  pub end : u.last ≡ cut.last
  pub bits : u.bits ≡ bits_between path cut.first (cut.last + 1)
  pub pinned : IsTrue u.pinned ↔ ((cut.last ≡ last) × PinsLast path chain run.to last)

-- the rule is that of the chain, whose units stand from one place to another
pub record IsRuleOfRun (path : PathSpec) (chain : ChainSpec) (run : Run) (first last : ℕ) (r : ChainRule) : Type 0 where
  pub on : r.path ≡ run.path
  pub begins : r.first ≡ first
  pub ends : r.last ≡ last
  pub partition : r.partition ≡ chain.partition
  pub bound : r.bound ≡ (if nat_lt 0 chain.max_bits then chain.max_bits else bits_between path first (last + 1))
  pub keeps_bit : IsTrue r.keeps_bit ↔ (0 < bits_between path first (last + 1))
