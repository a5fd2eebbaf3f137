-- The numbers of macros that a LEF denotes are within two metres.
use Rattle.std.proofs.Common.{◌≡◌, ℕ, zero, suc, ◌+◌, ◌*◌, ◌^◌, ◌≤◌, ◌<◌, Bool, true, false, ◌&&◌, cond, List, [], ◌∷◌, map, length, Option, Some, None, sym, subst, arith}
use Rattle.std.specs.Prelude.{ℤ, pos, neg_ℤ, unsigned_abs, slice_index_or}
use Rattle.std.specs.Option.{unwrap_or, option_or}
use Rattle.std.proofs.lemmas.Bool.{cond_both}
use Rattle.std.proofs.lemmas.Bool.Decides.{nat_tests}
use Rattle.std.proofs.lemmas.Int.{ints}
use Rattle.base_types.proofs.TruthValues.{and_second}
use Rattle.token_forms.specs.Tokens.{Token}
use Rattle.def_tokens.specs.Numbers.{is_decimal, fraction_of, millionths_of, with_sign, has_minus, decimal_of}
use Rattle.lef_pins.specs.declared.macros.MacroPin.{MacroPin}
use Rattle.lef_pins.specs.Blocks.{name_of, PinItem, Port, OfPin, MacroItem, Pin, Shapes, OfMacro}
use Rattle.lef_pins.specs.Faults.{NamedBlock, macros_of}
use Rattle.lef_pins.specs.Macros.{NamedMacros}
use Rattle.lef_pins.specs.Statements.{text_at, value_at, corner_place, is_read_rect, rect_values, begins_size, begins_origin, size_values, origin_values}
use Rattle.lef_pins.specs.Denoted.{port_rect, item_rect, pin_rect, pins_of, size_from, origin_from, macro_of, DenotesMacros, AreMeasured}
use Rattle.lef_pins.specs.Places.{IsLength, IsMeasuredRect, IsMeasuredOrNone, IsMeasured}

signed : (minus : Bool) (n : ℕ) → n ≤ 2 * 10 ^ 12 → IsLength (cond minus (neg_ℤ (pos n)) (pos n))
signed true n le = omega (arith, ints)
signed false n le = omega (arith, ints)

small : (n : ℕ) → Rattle.std.specs.Prelude.nat_le n (2 * 10 ^ 12) ≡ true → n ≤ 2 * 10 ^ 12
small n e = grind (arith, nat_tests)

decimal_length : (bytes : List ℕ) → IsLength (unwrap_or (decimal_of bytes) (pos 0))
unfolding decimal_of
decimal_length bytes =
    cond_both (is_decimal bytes && (Rattle.std.specs.Prelude.nat_le (length (fraction_of bytes)) 6 && Rattle.std.specs.Prelude.nat_le (millionths_of bytes) (2 * 10 ^ 12))) (Some (with_sign bytes (millionths_of bytes))) None
    (λ (o : Option ℤ). IsLength (unwrap_or o (pos 0)))
    (λ e. signed (has_minus bytes) (millionths_of bytes) (small (millionths_of bytes) (and_second _ _ (and_second _ _ e))))
    (λ e. omega (arith, ints))

value_length : (s : List Token) (k : ℕ) → IsLength (value_at s k)
value_length s k = decimal_length (text_at s k)

-- both of a pair
record Lengths (p : ℤ × ℤ) : Type 0 where
  a : IsLength p.0
  b : IsLength p.1

none_yet : Lengths (pos 0, pos 0)
none_yet = record { a = omega (arith, ints); b = omega (arith, ints) }

size_lengths : (s : List Token) → Lengths (size_values s)
unfolding size_values
size_lengths s = record { a = value_length s 1; b = value_length s 3 }

origin_lengths : (s : List Token) → Lengths (origin_values s)
unfolding origin_values
origin_lengths s = record { a = value_length s 1; b = value_length s 2 }

one_of : (t : Bool) (p q : ℤ × ℤ) → Lengths p → Lengths q → Lengths (cond t p q)
one_of true p q h k = h
one_of false p q h k = k

last_size : (p : ℤ × ℤ) (is : List MacroItem) → Lengths p → Lengths (size_from p is)
last_size p [] h = h
last_size p (Pin name b ∷ is) h = last_size p is h
last_size p (Shapes b ∷ is) h = last_size p is h
last_size p (OfMacro s ∷ is) h = last_size (cond (begins_size s) (size_values s) p) is (one_of (begins_size s) (size_values s) p (size_lengths s) h)

last_origin : (p : ℤ × ℤ) (is : List MacroItem) → Lengths p → Lengths (origin_from p is)
last_origin p [] h = h
last_origin p (Pin name b ∷ is) h = last_origin p is h
last_origin p (Shapes b ∷ is) h = last_origin p is h
last_origin p (OfMacro s ∷ is) h = last_origin (cond (begins_origin s) (origin_values s) p) is (one_of (begins_origin s) (origin_values s) p (origin_lengths s) h)

rect_lengths : (s : List Token) → IsMeasuredRect (rect_values s)
unfolding rect_values
rect_lengths s =
    let k = corner_place s in
    record { x1 = value_length s k; y1 = value_length s (k + 1); x2 = value_length s (k + 2); y2 = value_length s (k + 3) }

port_lengths : (ss : List (List Token)) → IsMeasuredOrNone (port_rect ss)
port_lengths [] = tt
port_lengths (s ∷ ss) = cond_both (is_read_rect s) (Some (rect_values s)) (port_rect ss) IsMeasuredOrNone (λ e. rect_lengths s) (λ e. port_lengths ss)

item_lengths : (i : PinItem) → IsMeasuredOrNone (item_rect i)
item_lengths (Port b) = port_lengths b.items
item_lengths (OfPin s) = tt

or_lengths : (a b : Option (List ℤ)) → IsMeasuredOrNone a → IsMeasuredOrNone b → IsMeasuredOrNone (option_or a b)
or_lengths None b h k = k
or_lengths (Some a) b h k = h

pin_lengths : (is : List PinItem) → IsMeasuredOrNone (pin_rect is)
pin_lengths [] = tt
pin_lengths (i ∷ is) = or_lengths (item_rect i) (pin_rect is) (item_lengths i) (pin_lengths is)

pins_lengths : (is : List MacroItem) (k : ℕ) (d : MacroPin) → k < length (pins_of is) → IsMeasuredOrNone (slice_index_or (pins_of is) k d).rect
pins_lengths [] k d lt = absurd (omega arith)
pins_lengths (Pin name b ∷ is) zero d lt = pin_lengths b.items
pins_lengths (Pin name b ∷ is) (suc k) d lt = pins_lengths is k d (omega arith)
pins_lengths (Shapes b ∷ is) k d lt = pins_lengths is k d lt
pins_lengths (OfMacro s ∷ is) k d lt = pins_lengths is k d lt

macro_measured : (is : List MacroItem) → IsMeasured (macro_of is)
macro_measured is =
    let size = last_size (pos 0, pos 0) is none_yet in
    let origin = last_origin (pos 0, pos 0) is none_yet in
    record { w = size.a; h = size.b; ox = origin.a; oy = origin.b; pins = pins_lengths is }

all_measured : (ms : List NamedBlock) → AreMeasured (map (λ m. (name_of m.0, macro_of m.1.items)) ms)
all_measured [] k d lt = absurd (omega arith)
all_measured (m ∷ ms) zero d lt = macro_measured m.1.items
all_measured (m ∷ ms) (suc k) d lt = all_measured ms k d (omega arith)

pub are_measured : (text : List ℕ) (macros : NamedMacros) → DenotesMacros text macros → AreMeasured macros
are_measured text macros d = subst AreMeasured (sym d.values) (all_measured (macros_of d.items))
