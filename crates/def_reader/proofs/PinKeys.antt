-- Connections by their keys.
use Rattle.std.proofs.Common.{◌≡◌, true, ◌&&◌, List, ℕ, Option, Some, None, Bor, ap, ◌∙◌}
use Rattle.std.specs.Option.{option_eq}
use Rattle.std.specs.Str.{bytes_eq}
use Rattle.std.proofs.lemmas.Bool.{and_parts, and_from}
use Rattle.base_types.proofs.TruthValues.{bytes_are, bytes_same}
use Rattle.def_reader.specs.declared.design.NetPin.TheVariants.{Cell, Port}
use Rattle.def_reader.specs.Steps.{PinKey, same_key, pin_by, pin_of_key}

exact_parts : (a b : Option (Bor (List ℕ))) (p q : List ℕ) → (option_eq (λ x y. bytes_eq x.now y.now) a b && bytes_eq p q) ≡ true → pin_by a p ≡ pin_by b q
exact_parts None None p q e = ap Port (bytes_are p q e)
exact_parts None (Some d) p q e = absurd cc
exact_parts (Some c) None p q e = absurd cc
exact_parts (Some c) (Some d) p q e =
    let parts = and_parts (bytes_eq c.now d.now) (bytes_eq p q) e in
    ap (λ (x : List ℕ). Cell x p) (bytes_are c.now d.now parts.0) ∙ ap (λ (x : List ℕ). Cell d.now x) (bytes_are p q parts.1)

back_parts : (a b : Option (Bor (List ℕ))) (p q : List ℕ) → pin_by a p ≡ pin_by b q → (option_eq (λ x y. bytes_eq x.now y.now) a b && bytes_eq p q) ≡ true
back_parts None None p q e = let same : p ≡ q = cc in bytes_same p q same
back_parts None (Some d) p q e = absurd cc
back_parts (Some c) None p q e = absurd cc
back_parts (Some c) (Some d) p q e =
    let here : c.now ≡ d.now = cc in
    let same : p ≡ q = cc in
    and_from (bytes_eq c.now d.now) (bytes_eq p q) (bytes_same c.now d.now here) (bytes_same p q same)

-- keys are the same where their connections are
pub key_exact : (x y : PinKey) → same_key x y ≡ true → pin_of_key x ≡ pin_of_key y
key_exact x y e = exact_parts x.0 y.0 x.1.now y.1.now e

pub key_back : (x y : PinKey) → pin_of_key x ≡ pin_of_key y → same_key x y ≡ true
key_back x y e = back_parts x.0 y.0 x.1.now y.1.now e
