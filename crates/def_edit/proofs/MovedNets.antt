-- The nets of a text in which pins moved.
use Rattle.std.proofs.Common.{◌≡◌, ℕ, zero, suc, ◌+◌, Bool, true, false, cond, not, ◌||◌, eqb, List, [], ◌∷◌, ◌++◌, map, filter, Option, Some, None, refl, sym, ap, ◌∙◌}
use Rattle.std.specs.Prelude.{is_some, option_map, option_and_then}
use Rattle.std.specs.List.{slice_get, filter_map, cons_option}
use Rattle.std.proofs.lemmas.Option.{slice_get-map}
use Rattle.std.proofs.lemmas.List.{append-nil}
use Rattle.std.proofs.lemmas.List.Elements.{filter_map-append}
use Rattle.std.proofs.lemmas.Bool.{or_parts}
use Rattle.base_types.specs.Names.{plain_name}
use Rattle.base_types.specs.declared.span.Span.{Span}
use Rattle.def_syntax.specs.declared.design.Located.{Located}
use Rattle.def_syntax.specs.declared.net.NetStatement.{NetStatement}
use Rattle.def_syntax.specs.declared.net.NetStatement.TheVariants as statements
use Rattle.def_reader.specs.declared.design.Component.{Component}
use Rattle.def_reader.specs.declared.design.NetPin.{NetPin}
use Rattle.def_reader.specs.declared.design.Net.{Net}
use Rattle.def_reader.specs.Designs.{net_pin_of, net_at, net_of}
use Rattle.def_layout.specs.declared.net.ConnectionLayout.{ConnectionLayout}
use Rattle.def_layout.specs.Nets.{connection_in, kept}
use Rattle.def_edit.specs.Alike.Changes.{NetWords, net_in, changed_net, changed_each}
use Rattle.def_edit.specs.Alike.Fields.{nowhere, net_fields, pin_of_words, net_of_words, nets_of_words}
use Rattle.def_edit.proofs.alike.Lists.{filter_of_map}
use Rattle.def_edit.specs.declared.pin_moves.PinMove.{PinMove}
use Rattle.def_edit.specs.Moved.{leaves, staying, moving_pin, pin_list, coming, moved_pins, moved_from}
use Rattle.def_edit.specs.Words.{end_word}
use Rattle.def_edit.specs.NetChanges.{is_counted, stays_by, moving_connection, added_list, added_with, moves_to, is_touched, net_changes_from}

-- a pin is read as before, where its component is written as COMPONENTS writes it
abbrev pub ReadsSame : List Component → Type 0
ReadsSame components = (w pin : List ℕ) → is_some (net_pin_of w pin) ≡ true → net_pin_of (end_word components w) pin ≡ net_pin_of w pin

-- the nets of a design, by their words
net_same : (text : List ℕ) (span : Span) (line : ℕ) (x : NetStatement) → option_map net_fields (net_at text span line x) ≡ option_map net_of_words (net_in text x)
net_same text span line statements.MustJoin = refl
net_same text span line (statements.Net x) =
    ap (λ (pins : List NetPin). Some (record { name = plain_name x.name; pins = pins; span = nowhere; line = 0 })) (sym (filter_of_map pin_of_words (connection_in text) x.connections))

cons_map : {X Y : Type 0} (f : X → Y) (o : Option X) (xs : List X) → map f (cons_option o xs) ≡ cons_option (option_map f o) (map f xs)
cons_map f None xs = refl
cons_map f (Some x) xs = refl

pub nets_same : (text : List ℕ) (ns : List (Located NetStatement)) → map net_fields (filter_map (net_of text) ns) ≡ nets_of_words (map (λ n. net_in text n.statement) ns)
nets_same text [] = refl
nets_same text (n ∷ ns) =
    cons_map net_fields (net_of text n) (filter_map (net_of text) ns) ∙ ap (λ (o : Option Net). cons_option o (map net_fields (filter_map (net_of text) ns))) (net_same text n.span n.line n.statement)
    ∙ ap (λ (l : List Net). cons_option (option_map net_of_words (net_in text n.statement)) l) (nets_same text ns)

-- without MUSTJOIN
pub rows_same : (xs : List (Option NetWords)) → nets_of_words xs ≡ map net_of_words (filter_map (λ x. x) xs)
rows_same [] = refl
rows_same (None ∷ xs) = rows_same xs
rows_same (Some x ∷ xs) = ap (λ (l : List Net). net_of_words x ∷ l) (rows_same xs)

-- what stands at a place among those that give something
filter_step : {X Y : Type 0} (f : X → Option Y) (x : X) (ys : List Y) (xs : List X) (o : Option Y) → f x ≡ o → ((k : ℕ) → slice_get ys k ≡ option_and_then f (slice_get xs k)) → (k : ℕ)
    → slice_get (cons_option o ys) k ≡ option_and_then f (slice_get (cond (is_some o) (x ∷ xs) xs) k)
filter_step f x ys xs None e more k = more k
filter_step f x ys xs (Some y) e more zero = sym e
filter_step f x ys xs (Some y) e more (suc k) = more k

filter_get : {X Y : Type 0} (f : X → Option Y) (xs : List X) (k : ℕ) → slice_get (filter_map f xs) k ≡ option_and_then f (slice_get (filter (λ x. is_some (f x)) xs) k)
filter_get f [] k = refl
filter_get f (x ∷ xs) k = filter_step f x (filter_map f xs) (filter (λ x. is_some (f x)) xs) (f x) refl (λ n. filter_get f xs n) k

passes_step : {X : Type 0} (p : X → Bool) (y : X) (ys : List X) (b : Bool) → p y ≡ b → (k : ℕ) (x : X) → ((n : ℕ) → slice_get ys n ≡ Some x → p x ≡ true) → slice_get (cond b (y ∷ ys) ys) k ≡ Some x → p x ≡ true
passes_step p y ys true h zero x more e = let same : y ≡ x = cc in ap p (sym same) ∙ h
passes_step p y ys true h (suc k) x more e = more k e
passes_step p y ys false h k x more e = more k e

filter_passes : {X : Type 0} (p : X → Bool) (xs : List X) (k : ℕ) (x : X) → slice_get (filter p xs) k ≡ Some x → p x ≡ true
filter_passes p [] k x e = absurd cc
filter_passes p (y ∷ ys) k x e = passes_step p y (filter p ys) (p y) refl k x (λ n g. filter_passes p ys n x g) e

-- the connections that stay are the pins that stay
stays_step : (moves : List PinMove) (net place : ℕ) (c : ConnectionLayout) (cs : List ConnectionLayout) (o : Option NetPin) → pin_of_words c ≡ o → (b : Bool) → leaves moves net place ≡ b
    → filter_map pin_of_words (kept (stays_by (leaves moves net) place cs) cs) ≡ staying moves net place (filter_map pin_of_words cs)
    → filter_map pin_of_words (kept (stays_by (leaves moves net) (place + 1) cs) cs) ≡ staying moves net (place + 1) (filter_map pin_of_words cs)
    → filter_map pin_of_words (kept (cond (is_some o) (not b ∷ stays_by (leaves moves net) (place + 1) cs) (true ∷ stays_by (leaves moves net) place cs)) (c ∷ cs))
    ≡ staying moves net place (cons_option o (filter_map pin_of_words cs))
unfolding kept staying
stays_step moves net place c cs None e b h same next = ap (λ (o : Option NetPin). cons_option o (filter_map pin_of_words (kept (stays_by (leaves moves net) place cs) cs))) e ∙ same
stays_step moves net place c cs (Some p) e true h same next = rw h next
stays_step moves net place c cs (Some p) e false h same next =
    ap (λ (o : Option NetPin). cons_option o (filter_map pin_of_words (kept (stays_by (leaves moves net) (place + 1) cs) cs))) e
    ∙ ap (λ (l : List NetPin). p ∷ l) next ∙ ap (λ (b : Bool). cond b [] (p ∷ []) ++ staying moves net (place + 1) (filter_map pin_of_words cs)) (sym h)

stays_are : (moves : List PinMove) (net place : ℕ) (cs : List ConnectionLayout)
    → filter_map pin_of_words (kept (stays_by (leaves moves net) place cs) cs) ≡ staying moves net place (filter_map pin_of_words cs)
unfolding kept stays_by staying
stays_are moves net place [] = refl
stays_are moves net place (c ∷ cs) = stays_step moves net place c cs (pin_of_words c) refl (leaves moves net place) refl (stays_are moves net place cs) (stays_are moves net (place + 1) cs)

-- where no pin leaves or comes, all stay
none_leaves : (moves : List PinMove) (net place : ℕ) → is_touched moves net ≡ false → leaves moves net place ≡ false
none_leaves [] net place e = refl
none_leaves (m ∷ ms) net place e =
    let h = or_parts (eqb m.from net || eqb m.to net) (is_touched ms net) e in
    let off = or_parts (eqb m.from net) (eqb m.to net) h.0 in
    rw (off.0) (none_leaves ms net place h.1)

all_stay : (moves : List PinMove) (net place : ℕ) (ps : List NetPin) → is_touched moves net ≡ false → staying moves net place ps ≡ ps
unfolding staying
all_stay moves net place [] e = refl
all_stay moves net place (p ∷ ps) e = rw (none_leaves moves net place e, all_stay moves net (place + 1) ps e) refl

none_come : (nets : List Net) (moves : List PinMove) (net : ℕ) → is_touched moves net ≡ false → coming nets moves net ≡ []
none_come nets [] net e = refl
none_come nets (m ∷ ms) net e =
    let h = or_parts (eqb m.from net || eqb m.to net) (is_touched ms net) e in
    let off = or_parts (eqb m.from net) (eqb m.to net) h.0 in
    rw (off.1) (none_come nets ms net h.1)

pins_stay : (nets : List Net) (moves : List PinMove) (net : ℕ) (ps : List NetPin) → is_touched moves net ≡ false → moved_pins nets moves net ps ≡ ps
pins_stay nets moves net ps e = rw (all_stay moves net 0 ps e, none_come nets moves net e) (append-nil ps)

module _ (nets : List Net) (rows : List NetWords) (same : map net_fields nets ≡ map net_of_words rows) where
  -- a net and its row
  pub row_at : (k : ℕ) → option_map net_fields (slice_get nets k) ≡ option_map net_of_words (slice_get rows k)
  row_at k = sym (slice_get-map net_fields nets k) ∙ ap (λ (l : List Net). slice_get l k) same ∙ slice_get-map net_of_words rows k

  by_fields : (o : Option Net) (place : ℕ) → option_and_then (λ (net : Net). slice_get net.pins place) o ≡ option_and_then (λ (net : Net). slice_get net.pins place) (option_map net_fields o)
  by_fields None place = refl
  by_fields (Some n) place = refl

  by_words : (o : Option NetWords) (place : ℕ)
      → option_and_then (λ (net : Net). slice_get net.pins place) (option_map net_of_words o) ≡ option_and_then pin_of_words (option_and_then (λ (row : NetWords). slice_get (filter is_counted row.connections) place) o)
  by_words None place = refl
  by_words (Some row) place = filter_get pin_of_words row.connections place

  -- a pin that moves is that of the connection
  pub moving_is : (m : PinMove) → moving_pin nets m ≡ option_and_then pin_of_words (moving_connection rows m)
  moving_is m = by_fields (slice_get nets m.from) m.place ∙ ap (option_and_then (λ (net : Net). slice_get net.pins m.place)) (row_at m.from) ∙ by_words (slice_get rows m.from) m.place

  counted_in : (o : Option NetWords) (place : ℕ) (c : ConnectionLayout) → option_and_then (λ (row : NetWords). slice_get (filter is_counted row.connections) place) o ≡ Some c → is_counted c ≡ true
  counted_in None place c e = absurd cc
  counted_in (Some row) place c e = filter_passes is_counted row.connections place c e

  module _ (components : List Component) (reads : ReadsSame components) where
    listed : (o : Option ConnectionLayout) → ((c : ConnectionLayout) → o ≡ Some c → is_counted c ≡ true) → filter_map pin_of_words (added_list components o) ≡ pin_list (option_and_then pin_of_words o)
    listed None counted = refl
    listed (Some c) counted = ap (λ (p : Option NetPin). cons_option p []) (reads c.component c.pin (counted c refl)) ∙ of (pin_of_words c)
      where
        of : (p : Option NetPin) → cons_option p [] ≡ pin_list p
        of None = refl
        of (Some p) = refl

    -- the connections that come are the pins that come
    come_are : (moves : List PinMove) (net : ℕ) → filter_map pin_of_words (added_with components rows (moves_to net moves)) ≡ coming nets moves net
    come_are [] net = refl
    come_are (m ∷ ms) net = step (eqb m.to net) (come_are ms net)
      where
        step : (b : Bool) → filter_map pin_of_words (added_with components rows (moves_to net ms)) ≡ coming nets ms net → filter_map pin_of_words (added_with components rows (cond b (m ∷ moves_to net ms) (moves_to net ms))) ≡ cond b (pin_list (moving_pin nets m)) [] ++ coming nets ms net
        step true more =
            filter_map-append pin_of_words (added_list components (moving_connection rows m)) (added_with components rows (moves_to net ms))
            ∙ ap (λ (l : List NetPin). l ++ filter_map pin_of_words (added_with components rows (moves_to net ms))) (listed (moving_connection rows m) (λ c e. counted_in (slice_get rows m.from) m.place c e) ∙ ap pin_list (sym (moving_is m)))
            ∙ ap (λ (l : List NetPin). pin_list (moving_pin nets m) ++ l) more
        step false more = more

    -- a net that is changed is the net behind the moves
    changed_pins : (moves : List PinMove) (k : ℕ) (cs : List ConnectionLayout)
        → filter_map pin_of_words (kept (stays_by (leaves moves k) 0 cs) cs ++ added_with components rows (moves_to k moves)) ≡ moved_pins nets moves k (filter_map pin_of_words cs)
    changed_pins moves k cs =
        filter_map-append pin_of_words (kept (stays_by (leaves moves k) 0 cs) cs) (added_with components rows (moves_to k moves))
        ∙ ap (λ (l : List NetPin). l ++ filter_map pin_of_words (added_with components rows (moves_to k moves))) (stays_are moves k 0 cs)
        ∙ ap (λ (l : List NetPin). staying moves k 0 (filter_map pin_of_words cs) ++ l) (come_are moves k)

    pub moved_same : (moves : List PinMove) (k : ℕ) (xs : List (Option NetWords)) (ns : List Net) → map net_fields ns ≡ nets_of_words xs
        → nets_of_words (changed_each changed_net xs (net_changes_from components rows moves k xs)) ≡ map net_fields (moved_from nets moves k ns)
    unfolding net_changes_from moved_from
    moved_same moves k [] [] e = refl
    moved_same moves k [] (n ∷ ns) e = absurd cc
    moved_same moves k (None ∷ xs) ns e = moved_same moves k xs ns e
    moved_same moves k (Some row ∷ xs) [] e = absurd cc
    moved_same moves k (Some row ∷ xs) (n ∷ ns) e =
        let head : net_fields n ≡ net_of_words row = cc in
        let tail : map net_fields ns ≡ nets_of_words xs = cc in
        let name : n.name ≡ plain_name row.name = ap (λ (x : Net). x.name) head in
        let pins : n.pins ≡ filter_map pin_of_words row.connections = ap (λ (x : Net). x.pins) head in
        step (is_touched moves k) refl name pins (moved_same moves (k + 1) xs ns tail)
      where
        step : (b : Bool) → is_touched moves k ≡ b → n.name ≡ plain_name row.name → n.pins ≡ filter_map pin_of_words row.connections
            → nets_of_words (changed_each changed_net xs (net_changes_from components rows moves (k + 1) xs)) ≡ map net_fields (moved_from nets moves (k + 1) ns)
            → nets_of_words (changed_each changed_net (Some row ∷ xs) (cond b (Some (record { stays = stays_by (leaves moves k) 0 row.connections; added = added_with components rows (moves_to k moves) })) None ∷ net_changes_from components rows moves (k + 1) xs))
            ≡ net_fields (record n { pins = moved_pins nets moves k n.pins }) ∷ map net_fields (moved_from nets moves (k + 1) ns)
        step true t name pins more = rw (name, pins, more, changed_pins moves k row.connections) refl
        step false t name pins more = rw (name, pins, more, pins_stay nets moves k (filter_map pin_of_words row.connections) t) refl
