-- Assigns with those of scan sinks blank.
use Rattle.std.proofs.Common.{◌≡◌, ◌≢◌, Bool, true, false, cond, List, [], ◌∷◌, length, map, min, refl, sym, ap, arith}
use Rattle.netlist_core.specs.declared.netlist.Bit.{Bit}
use Rattle.netlist_core.specs.declared.netlist.Bit.TheVariants.{Unknown}
use Rattle.netlist_core.specs.declared.netlist.NetName.{NetName}
use Rattle.netlist_core.specs.Netlists.{NamedBit, pairs, named_bit}
use Rattle.path_links.specs.declared.sinks.Sinks.{Sinks}
use Rattle.path_links.specs.Erasure.{is_sink_bit, is_sink_assign, erased_assign}

abbrev pub named_pairs : List NetName → List Bit → List Bit → List (NamedBit × NamedBit)
named_pairs nets left right = map (λ (p : Bit × Bit). (named_bit nets p.0, named_bit nets p.1)) (pairs left right)

-- not one pair
pub not_one : (nets : List NetName) (sinks : Sinks) (left right : List Bit) → min (length left) (length right) ≢ 1 → false ≡ is_sink_assign sinks (named_pairs nets left right)
not_one nets sinks [] right other = refl
not_one nets sinks (l ∷ ls) [] other = refl
not_one nets sinks (l ∷ []) (r ∷ rs) other = absurd (other (omega arith))
not_one nets sinks (l ∷ m ∷ ls) (r ∷ []) other = absurd (other (omega arith))
not_one nets sinks (l ∷ m ∷ ls) (r ∷ s ∷ rs) other = refl

-- one pair
pub just_one : (nets : List NetName) (sinks : Sinks) (left right : List Bit) (bit : Bit) (others : List Bit) → min (length left) (length right) ≡ 1 → left ≡ bit ∷ others
    → is_sink_bit sinks (named_bit nets bit) ≡ is_sink_assign sinks (named_pairs nets left right)
just_one nets sinks [] right bit others one is = absurd cc
just_one nets sinks (l ∷ ls) [] bit others one is = absurd (omega (arith, one))
just_one nets sinks (l ∷ []) (r ∷ rs) bit others one is = let e : bit ≡ l = cc in ap (λ b. is_sink_bit sinks (named_bit nets b)) e
just_one nets sinks (l ∷ m ∷ ls) (r ∷ []) bit others one is = let e : bit ≡ l = cc in ap (λ b. is_sink_bit sinks (named_bit nets b)) e
just_one nets sinks (l ∷ m ∷ ls) (r ∷ s ∷ rs) bit others one is = absurd (omega (arith, one))

-- the copy with its right side blank at a sink
pub erased_is : (nets : List NetName) (sinks : Sinks) (left right : List Bit) (b : Bool) → b ≡ is_sink_assign sinks (named_pairs nets left right)
    → named_pairs nets left (cond b (Unknown ∷ []) right) ≡ erased_assign sinks (named_pairs nets left right)
erased_is nets sinks left right false is = rw (sym is) refl
erased_is nets sinks [] right true is = absurd cc
erased_is nets sinks (l ∷ ls) [] true is = absurd cc
erased_is nets sinks (l ∷ []) (r ∷ rs) true is = rw (sym is) refl
erased_is nets sinks (l ∷ m ∷ ls) (r ∷ []) true is = rw (sym is) refl
erased_is nets sinks (l ∷ m ∷ ls) (r ∷ s ∷ rs) true is = absurd cc
