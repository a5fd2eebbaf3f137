-- The words that come with moves of pins are names.
use Rattle.std.proofs.Common.{◌≡◌, ℕ, zero, suc, ◌+◌, ◌<◌, Bool, true, false, cond, ◌||◌, if◌then◌else◌, eqb, List, [], ◌∷◌, length, map, filter, codes, Option, Some, None, refl, sym, ap, ◌∙◌, subst, arith}
use Rattle.std.specs.Prelude.{option_map, option_and_then, unwrap_or}
use Rattle.std.specs.List.{find, filter_map, cons_option, slice_get, list_all, AllByRecursion as Each}
use Rattle.std.specs.Str.{bytes_eq}
use Rattle.std.proofs.lemmas.Option.{same_Some}
use Rattle.std.proofs.lemmas.List.Folds.{list_all-append}
use Rattle.std.proofs.lemmas.Bool.{eqb-true, and_from, and_parts}
use Rattle.base_types.specs.Names.{plain_name}
use Rattle.token_forms.specs.Tokens.{Token}
use Rattle.def_syntax.specs.Grammar.{net}
use Rattle.def_syntax.specs.Pieces.{some_list}
use Rattle.def_syntax.specs.Designs.{AreLocated}
use Rattle.def_syntax.specs.declared.design.Located.{Located}
use Rattle.def_syntax.specs.declared.net.Connection.{Connection}
use Rattle.def_syntax.specs.declared.net.NetStatement.{NetStatement}
use Rattle.def_syntax.specs.declared.net.NetStatement.TheVariants as net_statements
use Rattle.def_layout.specs.declared.net.ConnectionLayout.{ConnectionLayout}
use Rattle.def_layout.specs.Words.{is_whole}
use Rattle.def_layout.specs.SectionForms.{is_name}
use Rattle.def_layout.specs.Nets.{connection_in}
use Rattle.def_layout.specs.NetForms.{names_connection}
use Rattle.def_layout.specs.Slices.{StandIn}
use Rattle.def_reader.specs.declared.design.Component.{Component}
use Rattle.def_reader.specs.declared.design.Net.{Net}
use Rattle.def_reader.specs.Designs.{net_pins_of, net_at, net_of}
use Rattle.def_edit.specs.Alike.Changes.{NetChange, NetWords, net_in}
use Rattle.def_edit.specs.declared.pin_moves.PinMove.{PinMove}
use Rattle.def_edit.specs.Moved.{leaves, moving_pin, is_port, IsMoveIn}
use Rattle.def_edit.specs.Words.{component_word, unless_mark, end_word}
use Rattle.def_edit.specs.NetChanges.{is_counted, stays_by, moving_connection, added_for, added_list, added_with, moves_to, is_touched, net_changes_from, new_word}
use Rattle.def_edit.proofs.EditsNames.{net_names}

by_cases : (P : Bool → Type 0) (t : Bool) → (t ≡ true → P true) → (t ≡ false → P false) → P t
by_cases P true f g = f refl
by_cases P false f g = g refl

-- what holds of all members
each_at : {X : Type 0} (P : X → Type 0) (xs : List X) (i : ℕ) (x : X) → Each P xs → slice_get xs i ≡ Some x → P x
each_at P [] i x h e = absurd cc
each_at P (y ∷ ys) zero x h e = subst P (same_Some y x e) h.0
each_at P (y ∷ ys) (suc i) x h e = each_at P ys i x h.1 e

each_found : {X : Type 0} (P : X → Type 0) (test : X → Bool) (xs : List X) (x : X) → Each P xs → find test xs ≡ Some x → P x
each_found P test [] x h e = absurd cc
each_found {X = X} P test (y ∷ ys) x h e = of (test y) e (each_found P test ys x h.1)
  where
    of : (b : Bool) → cond b (Some y) (find test ys) ≡ Some x → (find test ys ≡ Some x → P x) → P x
    of true f more = subst P (same_Some y x f) h.0
    of false f more = more f

each_left : {X : Type 0} (P : X → Type 0) (test : X → Bool) (xs : List X) → Each P xs → Each P (filter test xs)
each_left P test [] h = tt
each_left {X = X} P test (y ∷ ys) h = of (test y) (each_left P test ys h.1)
  where
    of : (b : Bool) → Each P (filter test ys) → Each P (cond b (y ∷ filter test ys) (filter test ys))
    of true more = (h.0, more)
    of false more = more

all_each : {X : Type 0} (test : X → Bool) (xs : List X) → list_all test xs ≡ true → Each (λ x. test x ≡ true) xs
all_each test [] h = tt
all_each test (x ∷ xs) h = let a = and_parts (test x) (list_all test xs) h in (a.0, all_each test xs a.1)

-- the nets of statements by their words, and as they are read
abbrev pub rows_of : List ℕ → List (Located NetStatement) → List NetWords
rows_of text xs = filter_map (λ x. x) (map (λ n. net_in text n.statement) xs)

abbrev pub nets_of : List ℕ → List (Located NetStatement) → List Net
nets_of text xs = filter_map (net_of text) xs

abbrev HasNames : NetWords → Type 0
HasNames row = list_all names_connection row.connections ≡ true

rows_named : (text : List ℕ) (ss : List (List Token)) (xs : List (Located NetStatement)) → AreLocated net text ss xs → Each (StandIn text) ss → Each HasNames (rows_of text xs)
rows_named text [] [] h stand = tt
rows_named text [] (x ∷ xs) h stand = absurd h
rows_named text (s ∷ ss) [] h stand = absurd h
rows_named text (s ∷ ss) (x ∷ xs) h stand = of x.statement h.0.spelled (rows_named text ss xs h.1 stand.1)
  where
    of : (v : NetStatement) → net.spells v s → Each HasNames (rows_of text xs) → Each HasNames (cons_option (net_in text v) (rows_of text xs))
    of (net_statements.Net y) k more = ((net_names text s y stand.0 k).names, more)
    of net_statements.MustJoin k more = more

some_pins : (text : List ℕ) (cs : List Connection) → 0 < length (net_pins_of text cs) → some_list cs ≡ true
some_pins text [] lt = absurd (omega arith)
some_pins text (c ∷ cs) lt = refl

-- the name of a net with a pin
rows_whole : (text : List ℕ) (ss : List (List Token)) (xs : List (Located NetStatement)) → AreLocated net text ss xs → Each (StandIn text) ss → (i : ℕ) (row : NetWords) (n : Net) → slice_get (rows_of text xs) i ≡ Some row
    → slice_get (nets_of text xs) i ≡ Some n → 0 < length n.pins → is_whole row.name ≡ true
rows_whole text [] [] h stand i row n e f some = absurd cc
rows_whole text [] (x ∷ xs) h stand i row n e f some = absurd h
rows_whole text (s ∷ ss) [] h stand i row n e f some = absurd h
rows_whole text (s ∷ ss) (x ∷ xs) h stand i row n e f some = of x.statement i h.0.spelled (λ j a b. rows_whole text ss xs h.1 stand.1 j row n a b some) e f
  where
    of : (v : NetStatement) (i : ℕ) → net.spells v s → ((j : ℕ) → slice_get (rows_of text xs) j ≡ Some row → slice_get (nets_of text xs) j ≡ Some n → is_whole row.name ≡ true)
        → slice_get (cons_option (net_in text v) (rows_of text xs)) i ≡ Some row → slice_get (cons_option (net_at text x.span x.line v) (nets_of text xs)) i ≡ Some n → is_whole row.name ≡ true
    of (net_statements.Net y) zero k more e f =
        let names = net_names text s y stand.0 k in
        let row_is = same_Some _ row e in
        let net_is = same_Some _ n f in
        let pins : net_pins_of text y.connections ≡ n.pins = ap (λ (m : Net). m.pins) net_is in
        let lt : 0 < length (net_pins_of text y.connections) = rw pins some in
        subst (λ (w : List ℕ). is_whole w ≡ true) (ap (λ (r : NetWords). r.name) row_is) (names.whole (some_pins text y.connections lt))
    of (net_statements.Net y) (suc i) k more e f = more i e f
    of net_statements.MustJoin i k more e f = more i e f

-- a component as COMPONENTS writes it
end_named : (components : List Component) (word : List ℕ) → Each (λ (c : Component). is_name c.text ≡ true) components → is_name word ≡ true → is_name (end_word components word) ≡ true
end_named components word all h = of (bytes_eq word (codes "PIN")) refl
  where
    found : (o : Option Component) → find (λ c. bytes_eq c.name (plain_name word)) components ≡ o → is_name (unwrap_or (option_map (λ (c : Component). c.text) o) word) ≡ true
    found None e = h
    found (Some c) e = each_found (λ (c : Component). is_name c.text ≡ true) (λ c. bytes_eq c.name (plain_name word)) components c all e

    mark : (text : List ℕ) → is_name text ≡ true → is_name (unless_mark text word) ≡ true
    mark text k = by_cases (λ b. is_name (cond b word text) ≡ true) (bytes_eq text (codes "PIN") || bytes_eq text (codes "*")) (λ e. h) (λ e. k)

    of : (b : Bool) → bytes_eq word (codes "PIN") ≡ b → is_name (end_word components word) ≡ true
    of true e = rw e h
    of false e = rw e (mark (component_word components (plain_name word) word) (found (find (λ c. bytes_eq c.name (plain_name word)) components) refl))

-- the connections that come with moves
module _ (components : List Component) (rows : List NetWords) (all : Each (λ (c : Component). is_name c.text ≡ true) components) (named : Each HasNames rows) where
  list_named : (o : Option ConnectionLayout) → ((c : ConnectionLayout) → o ≡ Some c → names_connection c ≡ true) → list_all names_connection (added_list components o) ≡ true
  list_named None h = refl
  list_named (Some c) h =
      let a = and_parts (is_name c.component) (is_name c.pin) (h c refl) in
      and_from (names_connection (added_for components c)) true (and_from (is_name (end_word components c.component)) (is_name c.pin) (end_named components c.component all a.0) a.1) refl

  moving_named : (m : PinMove) (c : ConnectionLayout) → moving_connection rows m ≡ Some c → names_connection c ≡ true
  moving_named m c e = of (slice_get rows m.from) refl e
    where
      of : (o : Option NetWords) → slice_get rows m.from ≡ o → option_and_then (λ (row : NetWords). slice_get (filter is_counted row.connections) m.place) o ≡ Some c → names_connection c ≡ true
      of None f e = absurd cc
      of (Some row) f e =
          let names = each_at HasNames rows m.from row named f in
          each_at (λ c. names_connection c ≡ true) (filter is_counted row.connections) m.place c (each_left (λ c. names_connection c ≡ true) is_counted row.connections (all_each names_connection row.connections names)) e

  pub added_named : (moves : List PinMove) → list_all names_connection (added_with components rows moves) ≡ true
  added_named [] = refl
  added_named (m ∷ ms) =
      list_all-append names_connection (added_list components (moving_connection rows m)) (added_with components rows ms)
      ∙ and_from _ _ (list_named (moving_connection rows m) (λ c e. moving_named m c e)) (added_named ms)

-- a net that changes has a connection, and names come to it
abbrev pub IsChangedWell : NetStatement → NetChange → Type 0
IsChangedWell (net_statements.Net x) c = (some_list x.connections ≡ true) × (list_all names_connection c.added ≡ true)
IsChangedWell net_statements.MustJoin c = Unit {0}

abbrev pub AreChangedWell : List (Located NetStatement) → List (Option NetChange) → Type 0
AreChangedWell [] cs = Unit {0}
AreChangedWell (x ∷ xs) [] = Unit {0}
AreChangedWell (x ∷ xs) (None ∷ cs) = AreChangedWell xs cs
AreChangedWell (x ∷ xs) (Some c ∷ cs) = IsChangedWell x.statement c × AreChangedWell xs cs

-- the net of this number has a pin
pub record HasPin (nets : List Net) (k : ℕ) : Type 0 where
  net : Net
  there : slice_get nets k ≡ Some net
  some : 0 < length net.pins

from_pin : (nets : List Net) (m : PinMove) (p : _) → moving_pin nets m ≡ Some p → HasPin nets m.from
from_pin nets m p e = of (slice_get nets m.from) refl e
  where
    pins_some : {X : Type 0} (xs : List X) (i : ℕ) (x : X) → slice_get xs i ≡ Some x → 0 < length xs
    pins_some [] i x e = absurd cc
    pins_some (y ∷ ys) i x e = omega arith

    of : (o : Option Net) → slice_get nets m.from ≡ o → option_and_then (λ (n : Net). slice_get n.pins m.place) o ≡ Some p → HasPin nets m.from
    of None f e = absurd cc
    of (Some n) f e = record { net = n; there = f; some = pins_some n.pins m.place p e }

-- so has each that a pin leaves or comes to
touched_pin : (nets : List Net) (moves : List PinMove) (k : ℕ) → Each (IsMoveIn nets) moves → is_touched moves k ≡ true → HasPin nets k
touched_pin nets [] k h e = absurd cc
touched_pin nets (m ∷ ms) k h e = of (eqb m.from k) (eqb m.to k) refl refl e (touched_pin nets ms k h.1)
  where
    of : (a b : Bool) → eqb m.from k ≡ a → eqb m.to k ≡ b → ((a || b) || is_touched ms k) ≡ true → (is_touched ms k ≡ true → HasPin nets k) → HasPin nets k
    of true b f g e more = subst (HasPin nets) (eqb-true m.from k f) (from_pin nets m h.0.pin h.0.moves)
    of false true f g e more = subst (HasPin nets) (eqb-true m.to k g) (record { net = h.0.net; there = h.0.goes; some = h.0.some })
    of false false f g e more = more e

module _ (text : List ℕ) (components : List Component) (rows : List NetWords) (nets : List Net) (moves : List PinMove) (in_nets : Each (IsMoveIn nets) moves)
    (all : Each (λ (c : Component). is_name c.text ≡ true) components) (named : Each HasNames rows) where
  changed_well : (xs : List (Located NetStatement)) (k : ℕ) → ((i : ℕ) → slice_get (nets_of text xs) i ≡ slice_get nets (k + i)) → AreChangedWell xs (net_changes_from components rows moves k (map (λ n. net_in text n.statement) xs))
  unfolding net_changes_from
  changed_well [] k here = tt
  changed_well (x ∷ xs) k here = of x.statement refl here (λ j more. changed_well xs j more)
    where
      Rest : ℕ → Type 0
      Rest j = AreChangedWell xs (net_changes_from components rows moves j (map (λ n. net_in text n.statement) xs))

      well : (y : _) → x.statement ≡ net_statements.Net y → (HasPin nets k → some_list y.connections ≡ true) → Rest (k + 1) → (b : Bool) → is_touched moves k ≡ b
          → AreChangedWell (x ∷ xs) ((if b then Some (record { stays = stays_by (leaves moves k) 0 (map (connection_in text) y.connections); added = added_with components rows (moves_to k moves) }) else None)
          ∷ net_changes_from components rows moves (k + 1) (map (λ n. net_in text n.statement) xs))
      well y is some rest false e = rest
      well y is some rest true e =
          let added = added_with components rows (moves_to k moves) in
          let change : NetChange = record { stays = stays_by (leaves moves k) 0 (map (connection_in text) y.connections); added = added } in
          let good : IsChangedWell (net_statements.Net y) change = (some (touched_pin nets moves k in_nets e), added_named components rows all named (moves_to k moves)) in
          (subst (λ (v : NetStatement). IsChangedWell v change) (sym is) good, rest)

      of : (v : NetStatement) → x.statement ≡ v → ((i : ℕ) → slice_get (cons_option (net_at text x.span x.line v) (nets_of text xs)) i ≡ slice_get nets (k + i))
          → ((j : ℕ) → ((i : ℕ) → slice_get (nets_of text xs) i ≡ slice_get nets (j + i)) → Rest j) → AreChangedWell (x ∷ xs) (net_changes_from components rows moves k (net_in text v ∷ map (λ n. net_in text n.statement) xs))
      of net_statements.MustJoin is here more = more k here
      of (net_statements.Net y) is here more =
          let zero_is : k + 0 ≡ k = omega arith in
          let some : HasPin nets k → some_list y.connections ≡ true = λ p.
          let same = same_Some _ p.net (here 0 ∙ ap (slice_get nets) zero_is ∙ p.there) in
          let pins : net_pins_of text y.connections ≡ p.net.pins = ap (λ (n : Net). n.pins) same in
          some_pins text y.connections (rw pins p.some) in
          well y is some (more (k + 1) (λ i. here (suc i) ∙ ap (slice_get nets) (next i))) (is_touched moves k) refl
        where
          next : (i : ℕ) → k + suc i ≡ k + 1 + i
          next i = omega arith

-- the new net of a design pin is a whole word
pub record IsWholeWord (o : Option (List ℕ)) : Type 0 where
  pub goes : (w : List ℕ) → o ≡ Some w → is_whole w ≡ true

pub word_whole : (text : List ℕ) (ss : List (List Token)) (xs : List (Located NetStatement)) → AreLocated net text ss xs → Each (StandIn text) ss → (moves : List PinMove) → Each (IsMoveIn (nets_of text xs)) moves
    → (name w : List ℕ) → new_word (rows_of text xs) (nets_of text xs) moves name ≡ Some w → is_whole w ≡ true
word_whole text ss xs h stand moves in_nets name w e = of (find (λ m. is_port name (moving_pin (nets_of text xs) m)) moves) refl e
  where
    row_of : (m : PinMove) (o : Option NetWords) → slice_get (rows_of text xs) m.to ≡ o → IsMoveIn (nets_of text xs) m → option_map (λ (row : NetWords). row.name) o ≡ Some w → is_whole w ≡ true
    row_of m None f k e = absurd cc
    row_of m (Some row) f k e = subst (λ (v : List ℕ). is_whole v ≡ true) (same_Some row.name w e) (rows_whole text ss xs h stand m.to row k.net f k.goes k.some)

    of : (o : Option PinMove) → find (λ m. is_port name (moving_pin (nets_of text xs) m)) moves ≡ o → option_and_then (λ (m : PinMove). option_map (λ (row : NetWords). row.name) (slice_get (rows_of text xs) m.to)) o ≡ Some w → is_whole w ≡ true
    of None f e = absurd cc
    of (Some m) f e =
        row_of m (slice_get (rows_of text xs) m.to) refl (each_found (IsMoveIn (nets_of text xs)) (λ m. is_port name (moving_pin (nets_of text xs) m)) moves m in_nets f) e

-- what the nets of a text become
pub nets_changed_well : (text : List ℕ) (ss : List (List Token)) (xs : List (Located NetStatement)) → AreLocated net text ss xs → Each (StandIn text) ss → (components : List Component) → Each (λ (c : Component). is_name c.text ≡ true) components
    → (moves : List PinMove) → Each (IsMoveIn (nets_of text xs)) moves → AreChangedWell xs (net_changes_from components (rows_of text xs) moves 0 (map (λ n. net_in text n.statement) xs))
nets_changed_well text ss xs h stand components all moves in_nets =
    changed_well text components (rows_of text xs) (nets_of text xs) moves in_nets all (rows_named text ss xs h stand) xs 0 (λ i. ap (slice_get (nets_of text xs)) (sym (zero_more i)))
  where
    zero_more : (i : ℕ) → 0 + i ≡ i
    zero_more i = omega arith
