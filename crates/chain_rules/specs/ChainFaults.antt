-- The faults of the chains, each by its kind, and which is the first.
use Rattle.std.specs.Prelude.{◌≡◌, ◌≢◌, ℕ, ◌+◌, ◌<◌, ◌≤◌, ◌⊎◌, nat_eq, List, length, slice_index_or, sum_by, Contains, take, filter, ⊤}
use Rattle.chain_rules.specs.declared.spec.PathSpec.{PathSpec}
use Rattle.chain_rules.specs.declared.spec.ElementSpec.{ElementSpec}
use Rattle.chain_rules.specs.declared.spec.ListSpec.TheVariants.{Ordered}
use Rattle.chain_rules.specs.declared.spec.ChainSpec.{ChainSpec}
use Rattle.base_types.specs.declared.fault.Fault.{Fault}
use Rattle.base_types.specs.declared.fault.FileKind.TheVariants.{Def}
use Rattle.base_types.specs.declared.fault.Spot.TheVariants.{Line}
use Rattle.base_types.specs.declared.fault.ReadFault.{ReadFault}
use Rattle.base_types.specs.declared.fault.ReadFault.TheVariants.{Fault as OfFault, NoMemory as OfMemory}
use Rattle.base_types.specs.declared.kind.Kind.{Kind}
use Rattle.base_types.specs.declared.kind.Kind.TheVariants.{NotAStretch, UnlistedBits, OrderBroken, OverMaxBits, TooManyUnits}
use Rattle.base_types.specs.Faults.{number_of}
use Rattle.chain_rules.specs.Stretches.{path_at, step_at, spec_at, bits_between, Names, groups_of, IsListed, Stretch, IsInside, IsStretch, HasStretch, Disturbs}

-- the stretches of two chains meet, or one holds the other's START or STOP cell
abbrev pub Meet : List PathSpec → List ChainSpec → ℕ → ℕ → Type 0
Meet paths chains c d =
    (d ≢ c) × (Disturbs paths (spec_at chains c) (spec_at chains d) ⊎ Disturbs paths (spec_at chains d) (spec_at chains c))

-- the chain has no stretch, or its stretch and another chain's meet
abbrev pub IsNotAStretch : List PathSpec → List ChainSpec → ℕ → Type 0
IsNotAStretch paths chains c =
    ¬ HasStretch paths (spec_at chains c) ⊎ ((d : ℕ) × (d < length chains) × Meet paths chains c d)

-- an unlisted step inside the stretch has a bit
abbrev pub IsUnlistedBits : List PathSpec → ChainSpec → Type 0
IsUnlistedBits paths chain =
    (s : Stretch) × IsStretch paths chain s × (k : ℕ) × IsInside s k × ¬ IsListed chain (step_at (path_at paths s.path) k) × (0 < (step_at (path_at paths s.path) k).bits)

-- two neighbours of the list, at places a and b, don't stand in their order with only unlisted steps between
pub record IsBrokenAt (path : PathSpec) (s : Stretch) (chain : ChainSpec) (elements : List ElementSpec) (i a b : ℕ) : Type 0 where
  pub neighbours : i + 1 < length elements
  pub first_inside : IsInside s a
  pub second_inside : IsInside s b
  pub first : (d : ElementSpec) → Names (slice_index_or elements i d) (step_at path a)
  pub second : (d : ElementSpec) → Names (slice_index_or elements (i + 1) d) (step_at path b)
  pub broken : (b ≤ a) ⊎ ((k : ℕ) × (a < k) × (k < b) × IsListed chain (step_at path k))

-- an ORDERED list isn't found in its order with only unlisted steps between
abbrev pub IsOrderBroken : List PathSpec → ChainSpec → Type 0
IsOrderBroken paths chain =
    (s : Stretch) × IsStretch paths chain s × (elements : List ElementSpec) × Contains chain.lists (Ordered elements) × (i : ℕ) × (a : ℕ) × (b : ℕ) × IsBrokenAt (path_at paths s.path) s chain elements i a b

-- MAXBITS is above 0 and the chain's bits as read exceed it
abbrev pub IsOverMaxBits : List PathSpec → ChainSpec → Type 0
IsOverMaxBits paths chain =
    (s : Stretch) × IsStretch paths chain s × (0 < chain.max_bits) × (chain.max_bits < bits_between (path_at paths s.path) s.from s.to)

-- the units of the chains up to and with this one that are of its partition
abbrev pub units_so_far : List ChainSpec → ℕ → ℕ
units_so_far chains c = sum_by (λ chain. length (groups_of chain)) (filter (λ chain. nat_eq chain.partition (spec_at chains c).partition) (take (c + 1) chains))

-- with this chain its partition has more than 16384 units
abbrev pub IsTooManyUnits : List ChainSpec → ℕ → Type 0
IsTooManyUnits chains c = 16384 < units_so_far chains c

-- the chain has a fault of the kind
abbrev pub IsFaulty : List PathSpec → List ChainSpec → Kind → ℕ → Type 0
IsFaulty paths chains NotAStretch c = IsNotAStretch paths chains c
IsFaulty paths chains UnlistedBits c = IsUnlistedBits paths (spec_at chains c)
IsFaulty paths chains OrderBroken c = IsOrderBroken paths (spec_at chains c)
IsFaulty paths chains OverMaxBits c = IsOverMaxBits paths (spec_at chains c)
IsFaulty paths chains TooManyUnits c = IsTooManyUnits chains c
IsFaulty paths chains kind c = ⊥

-- the fault of the least kind, and among those of the earliest chain
pub record IsFirstChainFault (paths : List PathSpec) (chains : List ChainSpec) (kind : Kind) (c : ℕ) : Type 0 where
  pub within : c < length chains
  pub faulty : IsFaulty paths chains kind c
  pub least : (k : Kind) (d : ℕ) → number_of k < number_of kind → d < length chains → ¬ IsFaulty paths chains k d
  pub earliest : (d : ℕ) → d < c → ¬ IsFaulty paths chains kind d

-- the chains are refused with this fault, at the line of the chain's statement
pub record IsRefusal (paths : List PathSpec) (chains : List ChainSpec) (fault : Fault) : Type 0 where
  pub chain : ℕ
  pub first : IsFirstChainFault paths chains fault.kind chain
  pub file : fault.file ≡ Def
  pub spot : fault.spot ≡ Line (spec_at chains chain).line

-- no chain has a fault
abbrev pub IsFaultless : List PathSpec → List ChainSpec → Type 0
IsFaultless paths chains = (k : Kind) (c : ℕ) → c < length chains → ¬ IsFaulty paths chains k c

-- what the chains are refused with: the first fault, or want of memory
abbrev pub IsRefused : List PathSpec → List ChainSpec → ReadFault → Type 0
IsRefused paths chains (OfFault fault) = IsRefusal paths chains fault
IsRefused paths chains OfMemory = ⊤

-- the fault of a kind at the line of a chain's statement
abbrev pub fault_at : Kind → ChainSpec → ReadFault
fault_at kind chain = OfFault (record { kind = kind; file = Def; spot = Line chain.line })
