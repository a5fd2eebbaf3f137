-- Which names of design pins tell whether one stands for a port besides.
use Rattle.std.specs.Prelude.{◌≡◌, ℕ, List, ◌++◌, codes, Option}
use Rattle.std.specs.Borrow.{Bor}
use Rattle.std.specs.List.{list_any}
use Rattle.def_reader.specs.declared.design.Design.{Design}
use Rattle.def_reader.specs.declared.design.DesignPin.{DesignPin}
use Rattle.path_numbers.specs.Numbers.{begins_with, has_extra}

-- these names tell of any port whether a design pin besides stands for it
abbrev pub AreExtras : List DesignPin → List (Bor (List ℕ)) → Type 0
AreExtras pins names =
    (name : List ℕ) → list_any (λ other. begins_with (name ++ codes ".extra") other.now) names ≡ list_any (λ pin. begins_with (name ++ codes ".extra") pin.name) pins

-- the same of a design, where there is one
pub record HasExtras (d : Option Design) (names : List (Bor (List ℕ))) : Type 0 where
  pub tell : (name : List ℕ) → list_any (λ other. begins_with (name ++ codes ".extra") other.now) names ≡ has_extra d name
