-- What is placed in a design within its limits can be measured.
use Rattle.std.proofs.Common.{◌≡◌, ℕ, Bool, true, false, cond, List, [], ◌∷◌, Option, Some, subst}
use Rattle.std.specs.Prelude.{All, IfSome, option_and_then}
use Rattle.std.specs.List.{find}
use Rattle.std.specs.Str.{bytes_eq}
use Rattle.std.proofs.lemmas.Option.{none-some, same_Some, option_and_then_some}
use Rattle.std.proofs.lemmas.List.Elements.{All-head, All-tail}
use Rattle.std.proofs.lemmas.Map.Entries.{All-lookup}
use Rattle.lef_pins.specs.Macros.{NamedMacros, macro_at}
use Rattle.lef_pins.specs.Places.{IsMeasured}
use Rattle.def_reader.specs.declared.design.Component.{Component}
use Rattle.def_reader.specs.declared.design.DesignPin.{DesignPin}
use Rattle.def_reader.specs.declared.design.Design.{Design}
use Rattle.def_reader.specs.Sound.{IsIn32Bits, IsSoundPlace, IsSoundPoint, IsSound}
use Rattle.design_places.specs.Ends.{Placed, placed_of, placed_named}
use Rattle.design_places.specs.NetPins.{pin_named}

-- its macro and its point are within their limits
pub record IsMeasurable (p : Placed) : Type 0 where
  pub shape : IsMeasured p.shape
  pub at : IsIn32Bits p.at

found_case : {X : Type 0} (P : X → Type 0) (y x : X) (rest : Option X) → P y → (rest ≡ Some x → P x) → (t : Bool) → cond t (Some y) rest ≡ Some x → P x
found_case P y x rest here more true e = subst P (same_Some y x e) here
found_case P y x rest here more false e = more e

-- what holds of all holds of the one that is found
pub found_all : {X : Type 0} (P : X → Type 0) (test : X → Bool) (xs : List X) (x : X) → All P xs → find test xs ≡ Some x → P x
found_all P test [] x all e = absurd (none-some x e)
found_all P test (y ∷ ys) x all e = found_case P y x (find test ys) (All-head P y ys all) (λ more. found_all P test ys x (All-tail P y ys all) more) (test y) e

looked_all : {X : Type 0} (P : X → Type 0) (o : Option X) (x : X) → IfSome o P → o ≡ Some x → P x
looked_all P o x h e = subst (λ (r : Option _). IfSome r P) e h

module _ (macros : NamedMacros) (d : Design) (sound : IsSound d) (measured : All (λ m. IsMeasured m.1) macros) where
  pub placed_fits : (name : List ℕ) (p : Placed) → placed_named macros d name ≡ Some p → IsMeasurable p
  placed_fits name p e =
      option_and_then_some (placed_of macros) (find (λ (c : Component). bytes_eq c.name name) d.components) p e (λ c found is.
      let places : IsSoundPlace c.place = found_all (λ (x : Component). IsSoundPlace x.place) (λ (x : Component). bytes_eq x.name name) d.components c sound.components found in
      option_and_then_some (λ place. option_and_then (λ shape. Some (record { shape = shape; at = place.0; orient = place.1 })) (macro_at c.cell macros)) c.place p is (λ place at rest.
      option_and_then_some (λ shape. Some (record { shape = shape; at = place.0; orient = place.1 })) (macro_at c.cell macros) p rest (λ shape has same.
      subst IsMeasurable (same_Some _ p same) (record {
        shape = looked_all IsMeasured (macro_at c.cell macros) shape (All-lookup IsMeasured (bytes_eq c.cell) macros measured) has;
        at = subst IsSoundPlace at places;
      }))))

-- so are the design pins
pub pin_fits : (d : Design) (name : List ℕ) (pin : DesignPin) → IsSound d → pin_named d.pins name ≡ Some pin → IsSoundPoint pin.place
pin_fits d name pin sound e = found_all (λ (p : DesignPin). IsSoundPoint p.place) (λ (p : DesignPin). bytes_eq p.name name) d.pins pin sound.pins e
