-- What a scan call gives the chains on both sides, each in a list in the order of the chains.
use Rattle.std.specs.Prelude.{◌≡◌, ℕ, Bool, true, false, ◌||◌, nat_lt, max, List, [], ◌∷◌, map, Option, option_copied}
use Rattle.std.specs.List.{list_any}
use Rattle.std.specs.Borrow.{Bor}
use Rattle.stil_types.specs.declared.head.ScanChainDecl.{ScanChainDecl}
use Rattle.stil_types.specs.declared.head.StilHead.{StilHead}
use Rattle.stil_syntax.specs.declared.item.Item.{Item}
use Rattle.stil_syntax.specs.declared.shape.Shape.{Shape}
use Rattle.stil_syntax.specs.declared.shape.Shape.TheVariants.{NoForm, Unsupported, Other, Scan, Loop}
use Rattle.stil_syntax.specs.Shapes.{shape_of, body_statements}
use Rattle.stil_calls.specs.declared.repeats.Side.TheVariants.{Load, Compare}
use Rattle.stil_calls.specs.Faults.{is_pattern_syntax}
use Rattle.stil_calls.specs.Scans.{given, count_in, reach_in}

-- data that are lent, as values
abbrev pub data_of : List (Option (Bor (List ℕ))) → List (Option (List ℕ))
data_of ds = map (λ (d : Option (Bor (List ℕ))). option_copied d) ds

-- each chain's data on both sides
pub record AreGiven (chains : List ScanChainDecl) (items : List Item) (load compare : List (Option (Bor (List ℕ)))) : Type 0 where
  pub loads : data_of load ≡ map (given Load items) chains
  pub compares : data_of compare ≡ map (given Compare items) chains

-- the length of the longest string
abbrev pub longest_in : List (Option (List ℕ)) → ℕ
longest_in [] = 0
longest_in (d ∷ ds) = max (count_in d) (longest_in ds)

-- the compare of some chain, which stands at the same place, reaches beyond its bits
abbrev pub reach_beyond : List ScanChainDecl → List (Option (List ℕ)) → Bool
reach_beyond [] ds = false
reach_beyond (c ∷ cs) [] = false
reach_beyond (c ∷ cs) (d ∷ ds) = nat_lt c.length (reach_in d) || reach_beyond cs ds

-- a scan call of a statement, or of one in its block, is of no form or gives a name twice
abbrev pub names_twice : StilHead → Shape → Bool
names_twice head NoForm = false
names_twice head Unsupported = false
names_twice head Other = false
names_twice head (Scan items) = is_pattern_syntax (Scan items)
names_twice head (Loop times body) = list_any (λ s. is_pattern_syntax (shape_of head true s)) (body_statements body)
