use Rattle.std.proofs.Common.{◌≡◌, ap, ◌∙◌, List, ℕ, Bool, true, false, not, refl, map, Global, Vec}
use Rattle.std.specs.List.{list_any}
use Rattle.std.specs.Str.{bytes_eq}
use Rattle.lef_pins.specs.Reading.{with_name}
use Rattle.lef_pins.proofs.MacroViews.{list_any-names_view, names_view-insert}
use Rattle.lef_pins.proofs.names.Names.add.Goals as goal

twice_not : (b : Bool) → not (not b) ≡ b
twice_not true = refl
twice_not false = refl

pub returns-clause-known : goal.returns-clause-known
returns-clause-known c =
    ap not c.in_ok-insert.ensures.added
    ∙ twice_not (list_any (λ (x : Vec ℕ Global). bytes_eq c.args.name.items x.items) c.self.inside.names.keys)
    ∙ list_any-names_view c.args.name c.self.inside.names.keys
    ∙ ap (λ (ns : List (List ℕ)). list_any (bytes_eq c.args.name.items) ns) c.self.view_is

pub returns-clause-names : goal.returns-clause-names
returns-clause-names c =
    ap (λ (ks : List (Vec ℕ Global)). map {B = List ℕ} (λ k. k.items) ks) c.in_ok-insert.ensures.keys
    ∙ names_view-insert c.args.name c.self.inside.names.keys
    ∙ ap (λ (ns : List (List ℕ)). with_name ns c.args.name.items) c.self.view_is
