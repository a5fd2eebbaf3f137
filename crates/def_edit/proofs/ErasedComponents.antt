-- A component written as COMPONENTS writes it is read as the same one.
use Rattle.std.proofs.Common.{◌≡◌, ℕ, Bool, true, false, ◌||◌, if◌then◌else◌, List, [], ◌∷◌, map, codes, Option, Some, None, option_map, unwrap_or, refl, sym, ap, ◌∙◌, subst}
use Rattle.std.specs.List.{find, AllByRecursion as Each}
use Rattle.std.specs.Str.{bytes_eq}
use Rattle.base_types.specs.Names.{plain_name}
use Rattle.base_types.proofs.TruthValues.{bytes_are}
use Rattle.cell_table.specs.Cells.{Cells}
use Rattle.def_syntax.specs.declared.component.Component.{Component as ComponentText}
use Rattle.def_syntax.specs.declared.design.Located.{Located}
use Rattle.def_syntax.specs.declared.design.DesignText.{DesignText}
use Rattle.def_reader.specs.declared.design.Component.{Component}
use Rattle.def_reader.specs.declared.design.Design.{Design}
use Rattle.def_reader.specs.declared.design.NetPin.{NetPin}
use Rattle.def_reader.specs.declared.design.NetPin.TheVariants.{Cell, Port}
use Rattle.def_reader.specs.Designs.{net_pin_of, component_of, design_of}
use Rattle.def_edit.specs.Words.{component_word, unless_mark}
use Rattle.def_edit.proofs.ErasedSinks.{KeepsPins}
use Rattle.def_edit.proofs.ErasedSections.{find_has}

-- its name is its text without backslashes
abbrev pub IsPlainly : Component → Type 0
IsPlainly c = c.name ≡ plain_name c.text

pub same_plain : (components : List Component) (word : List ℕ) → Each IsPlainly components → plain_name (component_word components (plain_name word) word) ≡ plain_name word
same_plain components word h = of (find (λ c. bytes_eq c.name (plain_name word)) components) refl
  where
    of : (o : Option Component) → find (λ c. bytes_eq c.name (plain_name word)) components ≡ o → plain_name (unwrap_or (option_map (λ c. c.text) o) word) ≡ plain_name word
    of None f = refl
    of (Some c) f =
        let has = find_has IsPlainly (λ c. bytes_eq c.name (plain_name word)) components c h f in
        sym has.0 ∙ bytes_are c.name (plain_name word) has.1

mark_keeps : (text word pin : List ℕ) (p : NetPin) → plain_name text ≡ plain_name word → bytes_eq word (codes "PIN") ≡ false → net_pin_of word pin ≡ Some p → net_pin_of (unless_mark text word) pin ≡ Some p
mark_keeps text word pin p same none is = of (bytes_eq text (codes "PIN")) (bytes_eq text (codes "*")) refl refl
  where
    cell : (b : Bool) → bytes_eq word (codes "*") ≡ b → net_pin_of word pin ≡ Some p → Some (Cell (plain_name word) (plain_name pin)) ≡ Some p
    cell true f g =
        let no : None ≡ Some p = sym (ap (λ (x : Bool). if x then None else (if bytes_eq word (codes "PIN") then Some (Port (plain_name pin)) else Some (Cell (plain_name word) (plain_name pin)))) f) ∙ g in
        absurd cc
    cell false f g =
        sym (ap (λ (x : Bool). if x then None else (if bytes_eq word (codes "PIN") then Some (Port (plain_name pin)) else Some (Cell (plain_name word) (plain_name pin)))) f
        ∙ ap (λ (x : Bool). if x then Some (Port (plain_name pin)) else Some (Cell (plain_name word) (plain_name pin))) none)
        ∙ g

    of : (a b : Bool) → bytes_eq text (codes "PIN") ≡ a → bytes_eq text (codes "*") ≡ b → net_pin_of (if a || b then word else text) pin ≡ Some p
    of true b f g = is
    of false true f g = is
    of false false f g = rw (g, f, same) (cell (bytes_eq word (codes "*")) refl is)

pub keeps_pins : (components : List Component) → Each IsPlainly components → KeepsPins components
keeps_pins components h word pin p is = of (bytes_eq word (codes "PIN")) refl
  where
    of : (b : Bool) → bytes_eq word (codes "PIN") ≡ b → net_pin_of (if b then word else unless_mark (component_word components (plain_name word) word) word) pin ≡ Some p
    of true f = is
    of false f = mark_keeps (component_word components (plain_name word) word) word pin p (same_plain components word h) f is

plainly : (cs : List (Located ComponentText)) → Each IsPlainly (map component_of cs)
plainly [] = tt
plainly (c ∷ cs) = (refl, plainly cs)

pub components_plainly : (text : List ℕ) (cells : Cells) (d : Design) (t : DesignText) → d ≡ design_of text cells t → Each IsPlainly d.components
unfolding design_of
components_plainly text cells d t e = subst (Each IsPlainly) (sym (ap (λ (x : Design). x.components) e)) (plainly t.components)
