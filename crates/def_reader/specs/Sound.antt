-- What holds of every design that a DEF text denotes: its numbers are within their limits, and each chain has a list and each list an
-- element.
use Rattle.std.specs.Prelude.{◌≤◌, ◌<◌, ◌^◌, List, length, All, Option, Some, None, pos, ◌≤ℤ◌, unsigned_abs}
use Rattle.base_types.specs.declared.span.Point.{Point}
use Rattle.def_tokens.specs.declared.orient.Orient.{Orient}
use Rattle.def_reader.specs.declared.design.Element.{Element}
use Rattle.def_reader.specs.declared.design.ElementList.{ElementList}
use Rattle.def_reader.specs.declared.design.ElementList.TheVariants.{Floating, Ordered}
use Rattle.def_reader.specs.declared.design.ScanChainText.{ScanChainText}
use Rattle.def_reader.specs.declared.design.Design.{Design}

-- both coordinates have 32 bits
pub record IsIn32Bits (p : Point) : Type 0 where
  pub x : unsigned_abs p.x ≤ 2 ^ 31
  pub y : unsigned_abs p.y ≤ 2 ^ 31

-- a component is placed so, or isn't placed
abbrev pub IsSoundPlace : Option (Point × Orient) → Type 0
IsSoundPlace None = Unit {0}
IsSoundPlace (Some place) = IsIn32Bits place.0

-- so is a design pin
abbrev pub IsSoundPoint : Option Point → Type 0
IsSoundPoint None = Unit {0}
IsSoundPoint (Some point) = IsIn32Bits point

-- the elements of a list
abbrev pub elements_in : ElementList → List Element
elements_in (Floating elements) = elements
elements_in (Ordered elements) = elements

-- a chain with elements
pub record HasLists (chain : ScanChainText) : Type 0 where
  pub some : 0 < length chain.lists
  pub each : All (λ list. 0 < length (elements_in list)) chain.lists
  -- MAXBITS is 262144 at most
  pub max_bits : chain.max_bits ≤ 262144

-- a design within its limits
pub record IsSound (d : Design) : Type 0 where
  pub units_some : pos 1 ≤ℤ d.units
  pub units_most : d.units ≤ℤ pos (10 ^ 5)
  pub components : All (λ c. IsSoundPlace c.place) d.components
  pub pins : All (λ p. IsSoundPoint p.place) d.pins
  pub chains : All HasLists d.chains
