-- Names that stand a second time, as pins and macros are gathered.
use Rattle.std.proofs.Common.{◌≡◌, ℕ, inl, inr, Bool, true, false, ◌||◌, cond, List, [], ◌∷◌, ◌++◌, Option, Some, None, refl, sym, ap, ◌∙◌}
use Rattle.std.specs.Prelude.{is_some}
use Rattle.std.specs.List.{list_any}
use Rattle.std.specs.Str.{bytes_eq}
use Rattle.std.proofs.lemmas.Bool.{cases_Bool}
use Rattle.std.proofs.lemmas.List.Folds.{list_any-append}
use Rattle.base_types.proofs.TruthValues.{or_implied, bytes_are}
use Rattle.token_forms.specs.Tokens.{Token}
use Rattle.lef_pins.specs.declared.macros.Macro.{Macro}
use Rattle.lef_pins.specs.declared.blocks.MacroReading.{MacroReading}
use Rattle.lef_pins.specs.Blocks.{name_of, Block, PinItem, MacroItem, Pin, Shapes, OfMacro}
use Rattle.lef_pins.specs.Faults.{again_in, pin_rows}
use Rattle.lef_pins.specs.Macros.{NamedMacros, macro_at, with_macro}
use Rattle.lef_pins.specs.Reading.{gathered, with_name, with_syntax, with_number, with_twice, put_pin, put_statement, put_macro_item}
use Rattle.list_laws.specs.Leasts.{lesser, least_of, found_if}
use Rattle.list_laws.proofs.Leasts.{lesser_none, then_more}
use Rattle.lef_pins.proofs.Gathered.{or_false, pin_twice}

or_comm_false : (a b : Bool) → (a || (b || false)) ≡ (a || b)
or_comm_false true b = refl
or_comm_false false true = refl
or_comm_false false false = refl

-- one name more
pub one_name : (q name : List ℕ) (before : List (List ℕ)) → list_any (bytes_eq q) (before ++ name ∷ []) ≡ (list_any (bytes_eq q) before || bytes_eq q name)
one_name q name before = list_any-append (bytes_eq q) before (name ∷ []) ∙ or_comm_false (list_any (bytes_eq q) before) (bytes_eq q name)

same_name : (q name : List ℕ) (names : List (List ℕ)) → list_any (bytes_eq name) names ≡ true → bytes_eq q name ≡ true → list_any (bytes_eq q) names ≡ true
same_name q name names known e = let same = bytes_are q name e in rw same known

-- names that stand once, with one more
pub name_added : (q name : List ℕ) (names : List (List ℕ)) → list_any (bytes_eq q) (with_name names name) ≡ (list_any (bytes_eq q) names || bytes_eq q name)
unfolding with_name
name_added q name names =
    elim (cases_Bool (list_any (bytes_eq name) names)) [
      | inl known ↦ rw known (or_implied (list_any (bytes_eq q) names) (bytes_eq q name) (same_name q name names known))
      | inr fresh ↦ rw fresh (one_name q name names)
    ]

-- two lists have the same names
pub record SameNames (before : List (List ℕ)) (has : List ℕ → Bool) : Type 0 where
  pub same : (q : List ℕ) → list_any (bytes_eq q) before ≡ has q

pub with_more : (before : List (List ℕ)) (name : List ℕ) (has now : List ℕ → Bool) → SameNames before has → ((q : List ℕ) → now q ≡ (has q || bytes_eq q name)) → SameNames (before ++ name ∷ []) now
with_more before name has now h step = record { same = λ q. one_name q name before ∙ ap (λ (b : Bool). b || bytes_eq q name) (h.same q) ∙ sym (step q) }

abbrev pub has_pin : MacroReading → List ℕ → Bool
has_pin m q = list_any (bytes_eq q) m.names

names_next : (m : MacroReading) (name : Token) (b : Block PinItem) (q : List ℕ) → has_pin (put_macro_item m (Pin name b)) q ≡ (has_pin m q || bytes_eq q (name_of name))
unfolding put_macro_item put_pin
names_next m name b q = name_added q (name_of name) m.names

twice_next : (m : MacroReading) (name : Token) (b : Block PinItem) → (put_macro_item m (Pin name b)).least.twice ≡ lesser m.least.twice (found_if (has_pin m (name_of name)) b.mark.start)
unfolding put_macro_item put_pin with_twice with_syntax
twice_next m name b = ap (λ (o : Option ℕ). lesser o (found_if (has_pin m (name_of name)) b.mark.start)) (pin_twice m.least b.items)

pub macro_twice : (m : MacroReading) (is : List MacroItem) (before : List (List ℕ)) → SameNames before (has_pin m) → (gathered put_macro_item m is).least.twice ≡ lesser m.least.twice (least_of (again_in before (pin_rows is)))
unfolding put_macro_item put_statement with_syntax with_number
macro_twice m [] before h = sym (lesser_none m.least.twice)
macro_twice m (Pin name b ∷ is) before h =
    macro_twice (put_macro_item m (Pin name b)) is (before ++ (name_of name) ∷ []) (with_more before (name_of name) (has_pin m) (has_pin (put_macro_item m (Pin name b))) h (names_next m name b))
    ∙ ap (λ (o : Option ℕ). lesser o (least_of (again_in (before ++ (name_of name) ∷ []) (pin_rows is)))) (twice_next m name b)
    ∙ ap (λ (k : Bool). lesser (lesser m.least.twice (found_if k b.mark.start)) (least_of (again_in (before ++ (name_of name) ∷ []) (pin_rows is)))) (sym (h.same (name_of name)))
    ∙ then_more m.least.twice (list_any (bytes_eq (name_of name)) before) b.mark.start (again_in (before ++ (name_of name) ∷ []) (pin_rows is))
macro_twice m (Shapes b ∷ is) before h = macro_twice (put_macro_item m (Shapes b)) is before h
macro_twice m (OfMacro s ∷ is) before h = macro_twice (put_macro_item m (OfMacro s)) is before h

-- macros by name

only_one : (b : Bool) (m : Macro) → is_some (cond b (Some m) None) ≡ b
only_one true m = refl
only_one false m = refl

-- among some macros and one more, whether that one is the first or not
has_more : (q name : List ℕ) (m : Macro) (e : List ℕ × Macro) (es : NamedMacros) (s t : Bool) → bytes_eq name e.0 ≡ s → bytes_eq q e.0 ≡ t → is_some (macro_at q (with_macro es name m)) ≡ (is_some (macro_at q es) || bytes_eq q name)
    → is_some (macro_at q (with_macro (e ∷ es) name m)) ≡ (is_some (macro_at q (e ∷ es)) || bytes_eq q name)
has_more q name m e es true true is here more = rw (is, here) refl
has_more q name m e es true false is other more =
    let same = bytes_are name e.0 is in
    let none : bytes_eq q name ≡ false = ap (bytes_eq q) same ∙ other in
    rw (is, other, none) (sym (or_false (is_some (macro_at q es))))
has_more q name m e es false true is here more = rw (is, here) refl
has_more q name m e es false false is other more = rw (is, other) more

pub has_macro-added : (q name : List ℕ) (m : Macro) (es : NamedMacros) → is_some (macro_at q (with_macro es name m)) ≡ (is_some (macro_at q es) || bytes_eq q name)
has_macro-added q name m [] = only_one (bytes_eq q name) m
has_macro-added q name m (e ∷ es) = has_more q name m e es (bytes_eq name e.0) (bytes_eq q e.0) refl refl (has_macro-added q name m es)

added_more : (name : List ℕ) (m : Macro) (e : List ℕ × Macro) (es : NamedMacros) (s : Bool) → bytes_eq name e.0 ≡ s → is_some (macro_at name (e ∷ es)) ≡ false → (is_some (macro_at name es) ≡ false → with_macro es name m ≡ es ++ (name, m) ∷ [])
    → with_macro (e ∷ es) name m ≡ e ∷ (es ++ (name, m) ∷ [])
added_more name m e es true is none more = let found : is_some (macro_at name (e ∷ es)) ≡ true = rw is refl in absurd cc
added_more name m e es false is none more = let later : is_some (macro_at name es) ≡ false = rw is at none in rw is (ap (λ (l : NamedMacros). e ∷ l) (more later))

pub macro_added : (name : List ℕ) (m : Macro) (es : NamedMacros) → is_some (macro_at name es) ≡ false → with_macro es name m ≡ es ++ (name, m) ∷ []
macro_added name m [] none = refl
macro_added name m (e ∷ es) none = added_more name m e es (bytes_eq name e.0) refl none (macro_added name m es)
