-- What stands at the front of a block, and what is gathered of it, by the first token.
use Rattle.std.proofs.Common.{◌≡◌, ℕ, Bool, true, false, ◌&&◌, not, List, [], ◌∷◌, drop, None, refl}
use Rattle.std.specs.Str.{bytes_eq}
use Rattle.std.specs.Prelude.{codes}
use Rattle.base_types.specs.Names.{plain_name}
use Rattle.token_forms.specs.Tokens.{Token}
use Rattle.lef_pins.specs.declared.pins.PinReading.{PinReading}
use Rattle.lef_pins.specs.declared.blocks.MacroReading.{MacroReading}
use Rattle.lef_pins.specs.declared.file.FileReading.{FileReading}
use Rattle.lef_pins.specs.Statements.{text_at, start_of}
use Rattle.lef_pins.specs.BlockReading.{inner_at, pin_item_at, macro_item_at, file_item_at, found_at, passing_len, outer_len, Taken}
use Rattle.lef_pins.specs.Blocks.{name_of, is_no_name, begins_with, begins_named, begins_shapes, is_shapes, ends_shapes, ends_named, inner_len}
use Rattle.lef_pins.specs.Reading.{gathered, with_syntax, put_rect, put_pin_item, put_statement, put_pin, put_macro_item, macro_start, put_macro, put_file_item, with_least}
use Rattle.lef_pins.proofs.Trees.{pin_only, shapes_closed, named_closed}

-- the state behind an item, and the tokens behind it
pub record IsPut {S I : Type 0} (put : S → I → S) (item : List Token → Taken I) (state : S) (ts : List Token) (new : S) (rest : List Token) : Type 0 where
  pub state_is : put state (item ts).0 ≡ new
  pub rest_is : (item ts).1 ≡ rest

pub port_put : (p : PinReading) (ts : List Token) → begins_with (codes "PORT") ts ≡ true
    → let found = found_at ends_shapes inner_at (drop 1 ts) in
    let read = gathered put_rect p found.0 in
    IsPut put_pin_item pin_item_at p ts (record { least = with_syntax read.least (not (ends_shapes found.1)) (start_of ts); rect = read.rect }) (drop 1 found.1)
unfolding pin_item_at put_pin_item
port_put p [] e = absurd cc
port_put p (t ∷ ts) e = record { state_is = rw (e, shapes_closed (found_at ends_shapes inner_at ts).1) refl; rest_is = rw e refl }

pub of_pin_put : (p : PinReading) (ts : List Token) → begins_with (codes "PORT") ts ≡ false → IsPut put_pin_item pin_item_at p ts p (drop (inner_len ts) ts)
unfolding pin_item_at put_pin_item inner_len
of_pin_put p [] e = record { state_is = refl; rest_is = refl }
of_pin_put p (t ∷ ts) e = record { state_is = rw e refl; rest_is = rw e refl }

-- a word stands there, and a name
named_parts : (b none : Bool) → (b && not none) ≡ true → (b ≡ true) × (none ≡ false)
named_parts true true e = absurd cc
named_parts true false e = (refl, refl)
named_parts false none e = absurd cc

pub pin_put : (m : MacroReading) (ts : List Token) → begins_named (codes "PIN") ts ≡ true
    → let name = plain_name (text_at ts 1) in
    let found = found_at (ends_named name) pin_item_at (drop 2 ts) in
    IsPut put_macro_item macro_item_at m ts (put_pin m name (start_of ts) (ends_named name found.1) (gathered put_pin_item (record { least = m.least; rect = None }) found.0)) (drop 2 found.1)
unfolding macro_item_at put_macro_item
pin_put m [] e = absurd cc
pin_put m (t ∷ []) e = absurd cc
pin_put m (t ∷ n ∷ ts) e = let both = named_parts (bytes_eq t.text (codes "PIN")) (is_no_name n) e in let closed = named_closed (name_of n) (found_at (ends_named (name_of n)) pin_item_at ts).1 in record { state_is = rw (both.0, both.1, closed) refl; rest_is = rw (both.0, both.1) refl }

no_pin_word : (w : List ℕ) → is_shapes w ≡ true → bytes_eq w (codes "PIN") ≡ false
no_pin_word w e = either_word (bytes_eq w (codes "PIN")) refl
  where
    either_word : (b : Bool) → bytes_eq w (codes "PIN") ≡ b → bytes_eq w (codes "PIN") ≡ false
    either_word true is = let none = pin_only w is in absurd cc
    either_word false is = is

by_word : (m : MacroReading) (t : Token) (b : Bool) → bytes_eq t.text (codes "PIN") ≡ b → is_shapes t.text ≡ false → IsPut put_macro_item macro_item_at m (t ∷ []) (put_statement m (inner_at (t ∷ [])).0) (inner_at (t ∷ [])).1
unfolding macro_item_at put_macro_item
by_word m t true is e = record { state_is = rw is refl; rest_is = rw is refl }
by_word m t false is e = record { state_is = rw (is, e) refl; rest_is = rw (is, e) refl }

by_name : (m : MacroReading) (t n : Token) (ts : List Token) (b none : Bool) → bytes_eq t.text (codes "PIN") ≡ b → is_no_name n ≡ none → (b && not none) ≡ false → is_shapes t.text ≡ false
    → IsPut put_macro_item macro_item_at m (t ∷ n ∷ ts) (put_statement m (inner_at (t ∷ n ∷ ts)).0) (inner_at (t ∷ n ∷ ts)).1
unfolding macro_item_at put_macro_item
by_name m t n ts true true is bare no_pin e = record { state_is = rw (is, bare) refl; rest_is = rw (is, bare) refl }
by_name m t n ts true false is bare no_pin e = absurd cc
by_name m t n ts false none is bare no_pin e = record { state_is = rw (is, e) refl; rest_is = rw (is, e) refl }

pub shapes_put : (m : MacroReading) (ts : List Token) → begins_named (codes "PIN") ts ≡ false → begins_shapes ts ≡ true
    → let found = found_at ends_shapes inner_at (drop 1 ts) in
    IsPut put_macro_item macro_item_at m ts (with_least m (with_syntax m.least (not (ends_shapes found.1)) (start_of ts))) (drop 1 found.1)
unfolding macro_item_at put_macro_item
shapes_put m [] no_pin e = absurd cc
shapes_put m (t ∷ ts) no_pin e = let other = no_pin_word t.text e in record { state_is = rw (other, e, shapes_closed (found_at ends_shapes inner_at ts).1) refl; rest_is = rw (other, e) refl }

pub statement_put : (m : MacroReading) (ts : List Token) → begins_named (codes "PIN") ts ≡ false → begins_shapes ts ≡ false
    → IsPut put_macro_item macro_item_at m ts (put_statement m (inner_at ts).0) (inner_at ts).1
unfolding macro_item_at put_macro_item inner_len
statement_put m [] no_pin e = record { state_is = refl; rest_is = refl }
statement_put m (t ∷ []) no_pin e = by_word m t (bytes_eq t.text (codes "PIN")) refl e
statement_put m (t ∷ n ∷ ts) no_pin e = by_name m t n ts (bytes_eq t.text (codes "PIN")) (is_no_name n) refl refl no_pin e

pub macro_put : (f : FileReading) (ts : List Token) → begins_named (codes "MACRO") ts ≡ true
    → let name = plain_name (text_at ts 1) in
    let found = found_at (ends_named name) macro_item_at (drop 2 ts) in
    IsPut put_file_item file_item_at f ts (put_macro f name (start_of ts) (ends_named name found.1) (gathered put_macro_item (macro_start f.least) found.0)) (drop 2 found.1)
unfolding file_item_at put_file_item
macro_put f [] e = absurd cc
macro_put f (t ∷ []) e = absurd cc
macro_put f (t ∷ n ∷ ts) e = let both = named_parts (bytes_eq t.text (codes "MACRO")) (is_no_name n) e in let closed = named_closed (name_of n) (found_at (ends_named (name_of n)) macro_item_at ts).1 in record { state_is = rw (both.0, both.1, closed) refl; rest_is = rw (both.0, both.1) refl }

lone_macro : (f : FileReading) (t : Token) (b : Bool) → bytes_eq t.text (codes "MACRO") ≡ b → IsPut put_file_item file_item_at f (t ∷ []) f (drop (outer_len (t ∷ [])) (t ∷ []))
unfolding file_item_at put_file_item
lone_macro f t true e = record { state_is = rw e refl; rest_is = rw e refl }
lone_macro f t false e = record { state_is = rw e refl; rest_is = rw e refl }

by_macro : (f : FileReading) (t n : Token) (ts : List Token) (b none : Bool) → bytes_eq t.text (codes "MACRO") ≡ b → is_no_name n ≡ none → (b && not none) ≡ false
    → IsPut put_file_item file_item_at f (t ∷ n ∷ ts) f (drop (outer_len (t ∷ n ∷ ts)) (t ∷ n ∷ ts))
unfolding file_item_at put_file_item
by_macro f t n ts true true is bare e = record { state_is = rw (is, bare) refl; rest_is = rw (is, bare) refl }
by_macro f t n ts true false is bare e = absurd cc
by_macro f t n ts false none is bare e = record { state_is = rw is refl; rest_is = rw is refl }

pub passed_put : (f : FileReading) (ts : List Token) → begins_named (codes "MACRO") ts ≡ false → IsPut put_file_item file_item_at f ts f (drop (outer_len ts) ts)
unfolding file_item_at put_file_item passing_len
passed_put f [] e = record { state_is = refl; rest_is = refl }
passed_put f (t ∷ []) e = lone_macro f t (bytes_eq t.text (codes "MACRO")) refl
passed_put f (t ∷ n ∷ ts) e = by_macro f t n ts (bytes_eq t.text (codes "MACRO")) (is_no_name n) refl refl e
