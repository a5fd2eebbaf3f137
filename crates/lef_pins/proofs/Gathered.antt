-- What the reader gathers is what Faults and Denoted define.
use Rattle.std.proofs.Common.{◌≡◌, ℕ, Bool, true, false, ◌||◌, not, cond, List, [], ◌∷◌, ◌++◌, Option, Some, None, refl, sym, ap, ◌∙◌, append_assoc}
use Rattle.std.specs.Prelude.{ℤ}
use Rattle.std.specs.List.{flat_map, list_any}
use Rattle.std.specs.Option.{option_or}
use Rattle.std.proofs.lemmas.List.{append-nil}
use Rattle.base_types.proofs.TruthValues.{or_assoc as shared_or_assoc}
use Rattle.token_forms.specs.Tokens.{Token}
use Rattle.lef_pins.specs.declared.least.Least.{Least}
use Rattle.lef_pins.specs.declared.pins.PinReading.{PinReading}
use Rattle.lef_pins.specs.declared.blocks.MacroReading.{MacroReading}
use Rattle.lef_pins.specs.declared.macros.MacroPin.{MacroPin}
use Rattle.lef_pins.specs.Blocks.{name_of, is_closed, Block, PinItem, Port, OfPin, MacroItem, Pin, Shapes, OfMacro}
use Rattle.lef_pins.specs.Statements.{start_of, is_read_rect, rect_values, is_bad_rect, is_far_rect, is_bad, is_far}
use Rattle.list_laws.specs.Leasts.{place_if, lesser, least_of, found_if}
use Rattle.lef_pins.specs.Faults.{syntax_in_port, syntax_in_pin_item, syntax_in_pin, syntax_in_item, syntax_in_items, is_size_item, numbers_in_port, numbers_in_pin_item, numbers_in_item}
use Rattle.lef_pins.specs.Denoted.{port_rect, item_rect, pin_rect, pins_of, size_from, origin_from}
use Rattle.lef_pins.specs.Reading.{gathered, with_syntax, with_number, with_twice, put_rect, put_pin_item, put_statement, put_pin, put_macro_item}
use Rattle.list_laws.proofs.Leasts.{lesser_none, least_if, then_list, then_place}
use Rattle.lef_pins.proofs.Leasts.{all_places, unchanged}

-- ports

rect_syntax : (p : PinReading) (s : List Token) → (put_rect p s).least.syntax ≡ lesser p.least.syntax (least_of (place_if (is_bad_rect s) (start_of s)))
unfolding put_rect with_syntax with_number
rect_syntax p s = ap (lesser p.least.syntax) (sym (least_if (is_bad_rect s) (start_of s)))

rect_number : (p : PinReading) (s : List Token) → (put_rect p s).least.number ≡ lesser p.least.number (least_of (place_if (is_far_rect s) (start_of s)))
unfolding put_rect with_syntax with_number
rect_number p s = ap (lesser p.least.number) (sym (least_if (is_far_rect s) (start_of s)))

rect_twice : (p : PinReading) (s : List Token) → (put_rect p s).least.twice ≡ p.least.twice
unfolding put_rect with_syntax with_number
rect_twice p s = refl

port_syntax : (p : PinReading) (ss : List (List Token)) → (gathered put_rect p ss).least.syntax ≡ lesser p.least.syntax (least_of (syntax_in_port ss))
port_syntax p ss = all_places put_rect (λ x. x.least.syntax) (λ s. place_if (is_bad_rect s) (start_of s)) rect_syntax p ss

port_number : (p : PinReading) (ss : List (List Token)) → (gathered put_rect p ss).least.number ≡ lesser p.least.number (least_of (numbers_in_port ss))
port_number p ss = all_places put_rect (λ x. x.least.number) (λ s. place_if (is_far_rect s) (start_of s)) rect_number p ss

port_twice : (p : PinReading) (ss : List (List Token)) → (gathered put_rect p ss).least.twice ≡ p.least.twice
port_twice p ss = unchanged put_rect (λ x. x.least.twice) rect_twice p ss

or_assoc : (a b c : Option (List ℤ)) → option_or (option_or a b) c ≡ option_or a (option_or b c)
or_assoc None b c = refl
or_assoc (Some a) b c = refl

or_none : (a : Option (List ℤ)) → option_or a None ≡ a
or_none None = refl
or_none (Some a) = refl

or_cond : (b : Bool) (x : List ℤ) (o : Option (List ℤ)) → option_or (cond b (Some x) None) o ≡ cond b (Some x) o
or_cond true x o = refl
or_cond false x o = refl

rect_rect : (p : PinReading) (s : List Token) → (put_rect p s).rect ≡ option_or p.rect (cond (is_read_rect s) (Some (rect_values s)) None)
unfolding put_rect
rect_rect p s = refl

port_first : (p : PinReading) (ss : List (List Token)) → (gathered put_rect p ss).rect ≡ option_or p.rect (port_rect ss)
port_first p [] = sym (or_none p.rect)
port_first p (s ∷ ss) =
    port_first (put_rect p s) ss
    ∙ ap (λ (o : Option (List ℤ)). option_or o (port_rect ss)) (rect_rect p s)
    ∙ or_assoc p.rect (cond (is_read_rect s) (Some (rect_values s)) None) (port_rect ss)
    ∙ ap (option_or p.rect) (or_cond (is_read_rect s) (rect_values s) (port_rect ss))

-- pins

item_syntax : (p : PinReading) (i : PinItem) → (put_pin_item p i).least.syntax ≡ lesser p.least.syntax (least_of (syntax_in_pin_item i))
unfolding put_pin_item with_syntax
item_syntax p (Port b) =
    ap (λ (o : Option ℕ). lesser o (found_if (not (is_closed b)) b.mark.start)) (port_syntax p b.items) ∙ then_place p.least.syntax (syntax_in_port b.items) (not (is_closed b)) b.mark.start
item_syntax p (OfPin s) = sym (lesser_none p.least.syntax)

item_number : (p : PinReading) (i : PinItem) → (put_pin_item p i).least.number ≡ lesser p.least.number (least_of (numbers_in_pin_item i))
unfolding put_pin_item with_syntax
item_number p (Port b) = port_number p b.items
item_number p (OfPin s) = sym (lesser_none p.least.number)

item_twice : (p : PinReading) (i : PinItem) → (put_pin_item p i).least.twice ≡ p.least.twice
unfolding put_pin_item with_syntax
item_twice p (Port b) = port_twice p b.items
item_twice p (OfPin s) = refl

item_first : (p : PinReading) (i : PinItem) → (put_pin_item p i).rect ≡ option_or p.rect (item_rect i)
unfolding put_pin_item
item_first p (Port b) = port_first p b.items
item_first p (OfPin s) = sym (or_none p.rect)

pin_first : (p : PinReading) (is : List PinItem) → (gathered put_pin_item p is).rect ≡ option_or p.rect (pin_rect is)
pin_first p [] = sym (or_none p.rect)
pin_first p (i ∷ is) =
    pin_first (put_pin_item p i) is ∙ ap (λ (o : Option (List ℤ)). option_or o (pin_rect is)) (item_first p i) ∙ or_assoc p.rect (item_rect i) (pin_rect is)

-- macros: a pin of them

abbrev fresh : Least → PinReading
fresh l = record { least = l; rect = None }

pin_syntax : (m : MacroReading) (name : Token) (b : Block PinItem) → (put_macro_item m (Pin name b)).least.syntax ≡ lesser m.least.syntax (least_of (syntax_in_pin b))
unfolding put_macro_item put_pin with_syntax with_twice
pin_syntax m name b =
    ap (λ (o : Option ℕ). lesser o (found_if (not (is_closed b)) b.mark.start)) (all_places put_pin_item (λ x. x.least.syntax) syntax_in_pin_item item_syntax (fresh m.least) b.items)
    ∙ then_place m.least.syntax (flat_map syntax_in_pin_item b.items) (not (is_closed b)) b.mark.start

macro_item_syntax : (m : MacroReading) (i : MacroItem) → (put_macro_item m i).least.syntax ≡ lesser m.least.syntax (least_of (syntax_in_item m.sized i))
unfolding put_macro_item put_statement with_syntax with_number
macro_item_syntax m (Pin name b) = pin_syntax m name b
macro_item_syntax m (Shapes b) = ap (lesser m.least.syntax) (sym (least_if (not (is_closed b)) b.mark.start))
macro_item_syntax m (OfMacro s) = ap (lesser m.least.syntax) (sym (least_if (is_bad m.sized s) (start_of s)))

pub or_false : (b : Bool) → b || false ≡ b
or_false true = refl
or_false false = refl

sized_next : (m : MacroReading) (i : MacroItem) → (put_macro_item m i).sized ≡ (m.sized || is_size_item i)
unfolding put_macro_item put_statement put_pin
sized_next m (Pin name b) = sym (or_false m.sized)
sized_next m (Shapes b) = sym (or_false m.sized)
sized_next m (OfMacro s) = refl

pub macro_sized : (m : MacroReading) (is : List MacroItem) → (gathered put_macro_item m is).sized ≡ (m.sized || list_any is_size_item is)
macro_sized m [] = sym (or_false m.sized)
macro_sized m (i ∷ is) =
    macro_sized (put_macro_item m i) is ∙ ap (λ (b : Bool). b || list_any is_size_item is) (sized_next m i) ∙ shared_or_assoc m.sized (is_size_item i) (list_any is_size_item is)

pub macro_syntax : (m : MacroReading) (is : List MacroItem) → (gathered put_macro_item m is).least.syntax ≡ lesser m.least.syntax (least_of (syntax_in_items m.sized is))
macro_syntax m [] = sym (lesser_none m.least.syntax)
macro_syntax m (i ∷ is) =
    macro_syntax (put_macro_item m i) is
    ∙ ap (λ (o : Option ℕ). lesser o (least_of (syntax_in_items (put_macro_item m i).sized is))) (macro_item_syntax m i)
    ∙ ap (λ (b : Bool). lesser (lesser m.least.syntax (least_of (syntax_in_item m.sized i))) (least_of (syntax_in_items b is))) (sized_next m i)
    ∙ then_list m.least.syntax (syntax_in_item m.sized i) (syntax_in_items (m.sized || is_size_item i) is)

macro_item_number : (m : MacroReading) (i : MacroItem) → (put_macro_item m i).least.number ≡ lesser m.least.number (least_of (numbers_in_item i))
unfolding put_macro_item put_statement put_pin with_syntax with_number with_twice
macro_item_number m (Pin name b) = all_places put_pin_item (λ x. x.least.number) numbers_in_pin_item item_number (fresh m.least) b.items
macro_item_number m (Shapes b) = sym (lesser_none m.least.number)
macro_item_number m (OfMacro s) = ap (lesser m.least.number) (sym (least_if (is_far s) (start_of s)))

pub macro_number : (m : MacroReading) (is : List MacroItem) → (gathered put_macro_item m is).least.number ≡ lesser m.least.number (least_of (flat_map numbers_in_item is))
macro_number m is = all_places put_macro_item (λ x. x.least.number) numbers_in_item macro_item_number m is

-- the twice of a pin, before its own name
pub pin_twice : (l : Least) (is : List PinItem) → (gathered put_pin_item (fresh l) is).least.twice ≡ l.twice
pin_twice l is = unchanged put_pin_item (λ x. x.least.twice) item_twice (fresh l) is

-- values

pub macro_size : (m : MacroReading) (is : List MacroItem) → (gathered put_macro_item m is).size ≡ size_from m.size is
unfolding put_macro_item put_statement put_pin
macro_size m [] = refl
macro_size m (Pin name b ∷ is) = macro_size (put_macro_item m (Pin name b)) is
macro_size m (Shapes b ∷ is) = macro_size (put_macro_item m (Shapes b)) is
macro_size m (OfMacro s ∷ is) = macro_size (put_macro_item m (OfMacro s)) is

pub macro_origin : (m : MacroReading) (is : List MacroItem) → (gathered put_macro_item m is).origin ≡ origin_from m.origin is
unfolding put_macro_item put_statement put_pin
macro_origin m [] = refl
macro_origin m (Pin name b ∷ is) = macro_origin (put_macro_item m (Pin name b)) is
macro_origin m (Shapes b ∷ is) = macro_origin (put_macro_item m (Shapes b)) is
macro_origin m (OfMacro s ∷ is) = macro_origin (put_macro_item m (OfMacro s)) is

pins_next : (m : MacroReading) (name : Token) (b : Block PinItem) → (put_macro_item m (Pin name b)).pins ≡ m.pins ++ record { name = name_of name; rect = pin_rect b.items } ∷ []
unfolding put_macro_item put_pin
pins_next m name b = ap (λ (r : Option (List ℤ)). m.pins ++ record { name = name_of name; rect = r } ∷ []) (pin_first (fresh m.least) b.items)

pub macro_pins : (m : MacroReading) (is : List MacroItem) → (gathered put_macro_item m is).pins ≡ m.pins ++ pins_of is
unfolding put_macro_item put_statement
macro_pins m [] = sym (append-nil m.pins)
macro_pins m (Pin name b ∷ is) =
    macro_pins (put_macro_item m (Pin name b)) is
    ∙ ap (λ (ps : List MacroPin). ps ++ pins_of is) (pins_next m name b)
    ∙ append_assoc m.pins (record { name = name_of name; rect = pin_rect b.items } ∷ []) (pins_of is)
macro_pins m (Shapes b ∷ is) = macro_pins (put_macro_item m (Shapes b)) is
macro_pins m (OfMacro s ∷ is) = macro_pins (put_macro_item m (OfMacro s)) is
