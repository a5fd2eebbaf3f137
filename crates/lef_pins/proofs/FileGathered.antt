-- What the reader gathers of a file is what Faults and Denoted define.
use Rattle.std.proofs.Common.{◌≡◌, ℕ, Bool, true, false, ◌||◌, not, List, [], ◌∷◌, ◌++◌, map, Option, None, refl, sym, ap, ◌∙◌, append_assoc}
use Rattle.std.specs.Prelude.{is_some, ℤ, pos}
use Rattle.std.specs.List.{flat_map, list_any}
use Rattle.std.specs.Str.{bytes_eq}
use Rattle.std.proofs.lemmas.List.{append-nil}
use Rattle.token_forms.specs.Tokens.{Token}
use Rattle.lef_pins.specs.declared.least.Least.{Least}
use Rattle.lef_pins.specs.declared.blocks.MacroReading.{MacroReading}
use Rattle.lef_pins.specs.declared.file.FileReading.{FileReading}
use Rattle.lef_pins.specs.declared.macros.Macro.{Macro as macro_value}
use Rattle.lef_pins.specs.declared.macros.MacroPin.{MacroPin}
use Rattle.lef_pins.specs.Blocks.{name_of, is_closed, Block, MacroItem, FileItem, Macro, Passed}
use Rattle.lef_pins.specs.Faults.{NamedBlock, unclosed, syntax_in_items, is_size_item, unsized, syntax_in_macro, numbers_in_macro, again_in, pin_rows, macro_rows, macros_of, pins_again, syntax_places, number_places, twice_places}
use Rattle.list_laws.specs.Leasts.{place_if, lesser, least_of, found_if}
use Rattle.lef_pins.specs.Macros.{NamedMacros, macro_at}
use Rattle.lef_pins.specs.Denoted.{macro_of, size_from, origin_from}
use Rattle.lef_pins.specs.Reading.{gathered, with_syntax, put_macro_item, macro_start, macro_read, put_macro, put_file_item, file_start}
use Rattle.list_laws.proofs.Leasts.{lesser_none, then_more, then_list, then_place}
use Rattle.lef_pins.proofs.Gathered.{macro_sized, macro_syntax, macro_number, macro_size, macro_origin, macro_pins}
use Rattle.lef_pins.proofs.TwiceNames.{SameNames, with_more, macro_twice, has_macro-added, macro_added}

-- a macro that is gathered
abbrev read : Least → Block MacroItem → MacroReading
read l b = gathered put_macro_item (macro_start l) b.items

macro_next-syntax : (f : FileReading) (name : Token) (b : Block MacroItem) → (put_file_item f (Macro name b)).least.syntax ≡ lesser f.least.syntax (least_of (syntax_in_macro b))
unfolding put_file_item put_macro with_syntax
macro_next-syntax f name b =
    ap (λ (o : Option ℕ). lesser (lesser o (found_if (not (is_closed b)) b.mark.start)) (found_if (not (read f.least b).sized) b.mark.start)) (macro_syntax (macro_start f.least) b.items)
    ∙ ap (λ (s : Bool). lesser (lesser (lesser f.least.syntax (least_of (syntax_in_items false b.items))) (found_if (not (is_closed b)) b.mark.start)) (found_if (not s) b.mark.start)) (macro_sized (macro_start f.least) b.items)
    ∙ ap (λ (o : Option ℕ). lesser o (found_if (not (list_any is_size_item b.items)) b.mark.start)) (then_place f.least.syntax (syntax_in_items false b.items) (not (is_closed b)) b.mark.start)
    ∙ then_place f.least.syntax (syntax_in_items false b.items ++ unclosed b) (not (list_any is_size_item b.items)) b.mark.start
    ∙ ap (λ (ps : List ℕ). lesser f.least.syntax (least_of ps)) (append_assoc (syntax_in_items false b.items) (unclosed b) (unsized b))

macro_next-number : (f : FileReading) (name : Token) (b : Block MacroItem) → (put_file_item f (Macro name b)).least.number ≡ lesser f.least.number (least_of (numbers_in_macro b))
unfolding put_file_item put_macro with_syntax
macro_next-number f name b = macro_number (macro_start f.least) b.items

no_names : (l : Least) → SameNames [] (λ q. list_any (bytes_eq q) (macro_start l).names)
no_names l = record { same = λ q. refl }

macro_next-twice : (f : FileReading) (name : Token) (b : Block MacroItem) → (put_file_item f (Macro name b)).least.twice ≡ lesser f.least.twice (least_of (again_in [] (pin_rows b.items)))
unfolding put_file_item put_macro with_syntax
macro_next-twice f name b = macro_twice (macro_start f.least) b.items [] (no_names f.least)

-- the places of macros, one behind the other
module _ (part : FileReading → Option ℕ) (places : NamedBlock → List ℕ) (step : (f : FileReading) (name : Token) (b : Block MacroItem) → part (put_file_item f (Macro name b)) ≡ lesser (part f) (least_of (places (name, b))))
    (passed : (f : FileReading) (s : List Token) → part (put_file_item f (Passed s)) ≡ part f) where
  in_file : (f : FileReading) (is : List FileItem) → part (gathered put_file_item f is) ≡ lesser (part f) (least_of (flat_map places (macros_of is)))
  in_file f [] = sym (lesser_none (part f))
  in_file f (Macro name b ∷ is) =
      in_file (put_file_item f (Macro name b)) is
      ∙ ap (λ (o : Option ℕ). lesser o (least_of (flat_map places (macros_of is)))) (step f name b)
      ∙ then_list (part f) (places (name, b)) (flat_map places (macros_of is))
  in_file f (Passed s ∷ is) = in_file (put_file_item f (Passed s)) is ∙ ap (λ (o : Option ℕ). lesser o (least_of (flat_map places (macros_of is)))) (passed f s)

passed-syntax : (f : FileReading) (s : List Token) → (put_file_item f (Passed s)).least.syntax ≡ f.least.syntax
unfolding put_file_item
passed-syntax f s = refl

passed-number : (f : FileReading) (s : List Token) → (put_file_item f (Passed s)).least.number ≡ f.least.number
unfolding put_file_item
passed-number f s = refl

passed-twice : (f : FileReading) (s : List Token) → (put_file_item f (Passed s)).least.twice ≡ f.least.twice
unfolding put_file_item
passed-twice f s = refl

-- macros by their names
abbrev has_macro : FileReading → List ℕ → Bool
has_macro f q = is_some (macro_at q f.macros)

macros_next : (f : FileReading) (name : Token) (b : Block MacroItem) (q : List ℕ) → has_macro (put_file_item f (Macro name b)) q ≡ (has_macro f q || bytes_eq q (name_of name))
unfolding put_file_item put_macro
macros_next f name b q = has_macro-added q (name_of name) (macro_read (read f.least b)) f.macros

again_next : (f : FileReading) (name : Token) (b : Block MacroItem) → (put_file_item f (Macro name b)).again ≡ lesser f.again (found_if (has_macro f (name_of name)) b.mark.start)
unfolding put_file_item put_macro
again_next f name b = refl

in_file-again : (f : FileReading) (is : List FileItem) (before : List (List ℕ)) → SameNames before (has_macro f) → (gathered put_file_item f is).again ≡ lesser f.again (least_of (again_in before (macro_rows (macros_of is))))
unfolding put_file_item
in_file-again f [] before h = sym (lesser_none f.again)
in_file-again f (Macro name b ∷ is) before h =
    let more = again_in (before ++ (name_of name) ∷ []) (macro_rows (macros_of is)) in
    in_file-again (put_file_item f (Macro name b)) is (before ++ (name_of name) ∷ []) (with_more before (name_of name) (has_macro f) (has_macro (put_file_item f (Macro name b))) h (macros_next f name b))
    ∙ ap (λ (o : Option ℕ). lesser o (least_of more)) (again_next f name b)
    ∙ ap (λ (k : Bool). lesser (lesser f.again (found_if k b.mark.start)) (least_of more)) (sym (h.same (name_of name)))
    ∙ then_more f.again (list_any (bytes_eq (name_of name)) before) b.mark.start more
in_file-again f (Passed s ∷ is) before h = in_file-again f is before h

-- what a macro says
value_is : (l : Least) (b : Block MacroItem) → macro_read (read l b) ≡ macro_of b.items
value_is l b =
    let made : ℤ × ℤ → ℤ × ℤ → List MacroPin → macro_value = λ size origin pins. record { w = size.0; h = size.1; ox = origin.0; oy = origin.1; pins = pins } in
    ap (λ (p : ℤ × ℤ). made p (read l b).origin (read l b).pins) (macro_size (macro_start l) b.items)
    ∙ ap (λ (p : ℤ × ℤ). made (size_from (pos 0, pos 0) b.items) p (read l b).pins) (macro_origin (macro_start l) b.items)
    ∙ ap (λ (ps : List MacroPin). made (size_from (pos 0, pos 0) b.items) (origin_from (pos 0, pos 0) b.items) ps) (macro_pins (macro_start l) b.items)

not_again : (known : Bool) (place : ℕ) (more : List ℕ) → place_if known place ++ more ≡ [] → (known ≡ false) × (more ≡ [])
not_again true place more e = absurd cc
not_again false place more e = (refl, e)

-- the macros with their names
abbrev named : NamedBlock → List ℕ × macro_value
named m = (name_of m.0, macro_of m.1.items)

added_next : (f : FileReading) (name : Token) (b : Block MacroItem) → has_macro f (name_of name) ≡ false → (put_file_item f (Macro name b)).macros ≡ f.macros ++ named (name, b) ∷ []
unfolding put_file_item put_macro
added_next f name b none =
    macro_added (name_of name) (macro_read (read f.least b)) f.macros none ∙ ap (λ (m : macro_value). f.macros ++ ((name_of name), m) ∷ []) (value_is f.least b)

in_file-macros : (f : FileReading) (is : List FileItem) (before : List (List ℕ)) → SameNames before (has_macro f) → again_in before (macro_rows (macros_of is)) ≡ []
    → (gathered put_file_item f is).macros ≡ f.macros ++ map named (macros_of is)
unfolding put_file_item
in_file-macros f [] before h once = sym (append-nil f.macros)
in_file-macros f (Macro name b ∷ is) before h once =
    let first = not_again (list_any (bytes_eq (name_of name)) before) b.mark.start (again_in (before ++ (name_of name) ∷ []) (macro_rows (macros_of is))) once in
    in_file-macros (put_file_item f (Macro name b)) is (before ++ (name_of name) ∷ []) (with_more before (name_of name) (has_macro f) (has_macro (put_file_item f (Macro name b))) h (macros_next f name b)) first.1
    ∙ ap (λ (ms : NamedMacros). ms ++ map named (macros_of is)) (added_next f name b (sym (h.same (name_of name)) ∙ first.0))
    ∙ append_assoc f.macros (named (name, b) ∷ []) (map named (macros_of is))
in_file-macros f (Passed s ∷ is) before h once = in_file-macros f is before h once

no_macros : SameNames [] (has_macro file_start)
no_macros = record { same = λ q. refl }

-- all of a file
pub file_syntax : (is : List FileItem) → (gathered put_file_item file_start is).least.syntax ≡ least_of (syntax_places is)
file_syntax is = in_file (λ f. f.least.syntax) (λ m. syntax_in_macro m.1) macro_next-syntax passed-syntax file_start is

pub file_number : (is : List FileItem) → (gathered put_file_item file_start is).least.number ≡ least_of (number_places is)
file_number is = in_file (λ f. f.least.number) (λ m. numbers_in_macro m.1) macro_next-number passed-number file_start is

file_pins : (is : List FileItem) → (gathered put_file_item file_start is).least.twice ≡ least_of (pins_again (macros_of is))
file_pins is = in_file (λ f. f.least.twice) (λ m. again_in [] (pin_rows m.1.items)) macro_next-twice passed-twice file_start is

pub file_twice : (is : List FileItem) → lesser (gathered put_file_item file_start is).least.twice (gathered put_file_item file_start is).again ≡ least_of (twice_places is)
file_twice is =
    ap (λ (o : Option ℕ). lesser o (gathered put_file_item file_start is).again) (file_pins is)
    ∙ ap (lesser (least_of (pins_again (macros_of is)))) (in_file-again file_start is [] no_macros)
    ∙ then_list None (pins_again (macros_of is)) (again_in [] (macro_rows (macros_of is)))

append_none : (ps qs : List ℕ) → ps ++ qs ≡ [] → qs ≡ []
append_none [] qs e = e
append_none (p ∷ ps) qs e = absurd cc

pub file_macros : (is : List FileItem) → twice_places is ≡ [] → (gathered put_file_item file_start is).macros ≡ map (λ m. (name_of m.0, macro_of m.1.items)) (macros_of is)
file_macros is once = in_file-macros file_start is [] no_macros (append_none (pins_again (macros_of is)) (again_in [] (macro_rows (macros_of is))) once)
