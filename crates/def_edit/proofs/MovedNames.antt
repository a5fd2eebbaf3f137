-- Words that are written are names.
use Rattle.std.proofs.Common.{◌≡◌, ℕ, zero, suc, ◌+◌, ◌-◌, ◌≤◌, Bool, true, false, cond, not, ◌&&◌, ◌||◌, eqb, List, [], ◌∷◌, ◌++◌, length, get_or, filter, codes, Option, Some, None, refl, ap, ◌∙◌, arith}
use Rattle.std.specs.Prelude.{nat_le, option_map, option_and_then, unwrap_or}
use Rattle.std.specs.List.{find, flat_map, filter_map, list_all, slice_get, AllByRecursion as Each}
use Rattle.std.specs.Str.{bytes_eq}
use Rattle.std.proofs.lemmas.Bool.{and_from, or_left, and_parts}
use Rattle.base_types.specs.Names.{plain_name}
use Rattle.token_forms.specs.Classes.{But, is_in}
use Rattle.token_forms.specs.Tokens.{Token}
use Rattle.def_tokens.specs.DefTokens.{is_black, has_end}
use Rattle.def_syntax.specs.Words.{marks}
use Rattle.def_syntax.specs.declared.net.NetStatement.{NetStatement}
use Rattle.def_syntax.specs.declared.net.NetStatement.TheVariants as statements
use Rattle.def_syntax.specs.Grammar.{net}
use Rattle.def_reader.specs.declared.design.Component.{Component}
use Rattle.def_layout.specs.Words.{is_whole}
use Rattle.def_layout.specs.SectionForms.{is_name}
use Rattle.def_layout.specs.declared.net.ConnectionLayout.{ConnectionLayout}
use Rattle.def_layout.specs.Slices.{StandIn}
use Rattle.def_layout.proofs.NetThere.{net_there}
use Rattle.def_edit.specs.Alike.Changes.{NetChange, NetWords, net_in, names_word, names_both, if_some}
use Rattle.def_edit.proofs.alike.SameNets.{stand_in}
use Rattle.def_edit.specs.declared.pin_moves.PinMove.{PinMove}
use Rattle.def_edit.specs.Moved.{leaves}
use Rattle.def_edit.specs.Words.{escaped, word_for, component_word, end_word}
use Rattle.def_edit.specs.NewChains.{is_plain}
use Rattle.def_edit.specs.NetChanges.{is_counted, moving_connection, added_for, added_list, added_with, moves_to, net_changes_from, is_touched, stays_by}
use Rattle.def_edit.proofs.MovedWords.{port, star}
use Rattle.def_edit.proofs.MovedRead.{IsWord}

-- a name with a backslash before each byte is one word

abbrev escapes : List ℕ → List ℕ
escapes bs = flat_map (λ c. 92 ∷ c ∷ []) bs

escapes_black : (bs : List ℕ) → list_all is_black bs ≡ true → list_all is_black (escapes bs) ≡ true
escapes_black [] all = refl
escapes_black (b ∷ bs) all = let h = and_parts (is_black b) (list_all is_black bs) all in rw (h.0) (escapes_black bs h.1)

escapes_long : (b : ℕ) (bs : List ℕ) → 2 ≤ length (escapes (b ∷ bs))
escapes_long b bs = omega arith

before_last : (b : ℕ) (bs : List ℕ) → get_or (escapes (b ∷ bs)) (length (escapes (b ∷ bs)) - 2) 0 ≡ 92
before_last b [] = refl
before_last b (c ∷ cs) =
    let long = escapes_long c cs in
    let e : length (escapes (b ∷ c ∷ cs)) - 2 ≡ suc (suc (length (escapes (c ∷ cs)) - 2)) = omega (arith, long) in
    ap (λ (i : ℕ). get_or (escapes (b ∷ c ∷ cs)) i 0) e ∙ before_last c cs

no_end_then : (a b c : Bool) → c ≡ true → (a && (b && not c)) ≡ false
no_end_then true true true e = refl
no_end_then true false true e = refl
no_end_then false b true e = refl
no_end_then a b false e = absurd cc

no_end : (b : ℕ) (bs : List ℕ) → has_end (escapes (b ∷ bs)) ≡ false
no_end b bs =
    let w = escapes (b ∷ bs) in
    no_end_then (nat_le 2 (length w)) (eqb (get_or w (length w - 1) 0) 59) (eqb (get_or w (length w - 2) 0) 92) (ap (λ (x : ℕ). eqb x 92) (before_last b bs))

pub escaped_name : (bs : List ℕ) → list_all is_black bs ≡ true → is_name (escaped bs) ≡ true
escaped_name [] all = refl
escaped_name (b ∷ bs) all =
    let black = escapes_black (b ∷ bs) all in
    let end = no_end b bs in
    let whole : is_whole (escapes (b ∷ bs)) ≡ true = rw (end, black) refl in
    and_from (is_whole (escapes (b ∷ bs))) (is_in (But marks) (escapes (b ∷ bs))) whole refl

-- the word for a plain name is a name
pub word_name : (name : List ℕ) → is_plain name ≡ true → is_name (word_for name) ≡ true
word_name name plain = step (is_name name) refl plain
  where
    step : (b : Bool) → is_name name ≡ b → (b || list_all is_black name) ≡ true → is_name (cond b name (escaped name)) ≡ true
    step true e h = e
    step false e h = escaped_name name h

plain_of : (a b c : Bool) → b ≡ true → (a || c) ≡ true → ((a && b) || c) ≡ true
plain_of true true c e h = refl
plain_of false true c e h = h
plain_of a false c e h = absurd cc

-- a word that was read is plain
pub read_plain : (w : List ℕ) → IsWord w → is_plain w ≡ true
read_plain w h = plain_of (is_whole w) (is_in (But marks) w) (list_all is_black w) h.0 h.1

name_parts : (w : List ℕ) → is_name w ≡ true → (is_whole w ≡ true) × (is_in (But marks) w ≡ true)
name_parts w h = and_parts (is_whole w) (is_in (But marks) w) h

pub name_plain : (w : List ℕ) → is_name w ≡ true → is_plain w ≡ true
name_plain w h = or_left (is_name w) (list_all is_black w) h

-- the words of components are names
abbrev pub AreNamed : List Component → Type 0
AreNamed cs = Each (λ (c : Component). is_name c.text ≡ true) cs

-- what holds of all texts and of the other word holds of a component's word
pub component_has : (P : List ℕ → Type 0) (cs : List Component) → Each (λ (c : Component). P c.text) cs → (name other : List ℕ) → P other → P (component_word cs name other)
component_has P [] all name other h = h
component_has P (c ∷ cs) all name other h = step (bytes_eq c.name name) (component_has P cs all.1 name other h)
  where
    step : (b : Bool) → P (component_word cs name other) → P (unwrap_or (option_map (λ (x : Component). x.text) (cond b (Some c) (find (λ x. bytes_eq x.name name) cs))) other)
    step true more = all.0
    step false more = more

pub found_has : (P : List ℕ → Type 0) (cs : List Component) → Each (λ (c : Component). P c.text) cs → (name other : List ℕ) (found : Component) → find (λ x. bytes_eq x.name name) cs ≡ Some found → P (component_word cs name other)
found_has P [] all name other found e = absurd cc
found_has P (c ∷ cs) all name other found e = step (bytes_eq c.name name) e (λ g. found_has P cs all.1 name other found g)
  where
    step : (b : Bool) → cond b (Some c) (find (λ x. bytes_eq x.name name) cs) ≡ Some found → (find (λ x. bytes_eq x.name name) cs ≡ Some found → P (component_word cs name other))
        → P (unwrap_or (option_map (λ (x : Component). x.text) (cond b (Some c) (find (λ x. bytes_eq x.name name) cs))) other)
    step true h more = all.0
    step false h more = more h

pub end_has : (P : List ℕ → Type 0) (cs : List Component) → Each (λ (c : Component). P c.text) cs → (w : List ℕ) → P w → P (end_word cs w)
end_has P cs all w h = step (bytes_eq w port) (bytes_eq t port || bytes_eq t star)
  where
    t : List ℕ
    t = component_word cs (plain_name w) w

    step : (a b : Bool) → P (cond a w (cond b w t))
    step true b = h
    step false true = h
    step false false = component_has P cs all (plain_name w) w h

-- the words of nets are names
abbrev pub IsRow : NetWords → Type 0
IsRow row = (names_word row.name ≡ true) × (list_all names_both row.connections ≡ true)

abbrev pub IsRowIf : Option NetWords → Type 0
IsRowIf None = Unit {0}
IsRowIf (Some row) = IsRow row

not_second : (a b : Bool) → not (a || b) ≡ true → not b ≡ true
not_second true b h = absurd cc
not_second false b h = h

pub net_row : (text : List ℕ) (x : NetStatement) (s : List Token) → StandIn text s → net.spells x s → IsRowIf (net_in text x)
net_row text statements.MustJoin s stand h = tt
net_row text (statements.Net x) s stand h =
    let there = net_there text x s (stand_in text s stand) h in
    (not_second (bytes_eq x.name (codes "MUSTJOIN")) _ there.named, there.good)

pub rows_all : (xs : List (Option NetWords)) → Each IsRowIf xs → Each IsRow (filter_map (λ x. x) xs)
rows_all [] h = tt
rows_all (None ∷ xs) h = rows_all xs h.1
rows_all (Some x ∷ xs) h = (h.0, rows_all xs h.1)

pub get_row : (rows : List NetWords) → Each IsRow rows → (k : ℕ) → IsRowIf (slice_get rows k)
get_row [] all k = tt
get_row (row ∷ rows) all zero = all.0
get_row (row ∷ rows) all (suc k) = get_row rows all.1 k

abbrev pub IsBothIf : Option ConnectionLayout → Type 0
IsBothIf None = Unit {0}
IsBothIf (Some c) = names_both c ≡ true

get_both : (cs : List ConnectionLayout) → list_all names_both cs ≡ true → (k : ℕ) → IsBothIf (slice_get cs k)
get_both [] all k = tt
get_both (c ∷ cs) all zero = (and_parts (names_both c) (list_all names_both cs) all).0
get_both (c ∷ cs) all (suc k) = get_both cs (and_parts (names_both c) (list_all names_both cs) all).1 k

filter_both : (p : ConnectionLayout → Bool) (cs : List ConnectionLayout) → list_all names_both cs ≡ true → list_all names_both (filter p cs) ≡ true
filter_both p [] all = refl
filter_both p (c ∷ cs) all = let h = and_parts (names_both c) (list_all names_both cs) all in step (p c) h.0 (filter_both p cs h.1)
  where
    step : (b : Bool) → names_both c ≡ true → list_all names_both (filter p cs) ≡ true → list_all names_both (cond b (c ∷ filter p cs) (filter p cs)) ≡ true
    step true e more = and_from (names_both c) (list_all names_both (filter p cs)) e more
    step false e more = more

module _ (cs : List Component) (named : AreNamed cs) (rows : List NetWords) (all : Each IsRow rows) where
  words : (ds : List Component) → AreNamed ds → Each (λ (c : Component). names_word c.text ≡ true) ds
  words [] h = tt
  words (d ∷ ds) h = ((name_parts d.text h.0).1, words ds h.1)

  moving_both : (m : PinMove) → IsBothIf (moving_connection rows m)
  moving_both m = step (slice_get rows m.from) (get_row rows all m.from)
    where
      step : (o : Option NetWords) → IsRowIf o → IsBothIf (option_and_then (λ (row : NetWords). slice_get (filter is_counted row.connections) m.place) o)
      step None h = tt
      step (Some row) h = get_both (filter is_counted row.connections) (filter_both is_counted row.connections h.1) m.place

  listed_both : (o : Option ConnectionLayout) → IsBothIf o → list_all names_both (added_list cs o) ≡ true
  listed_both None h = refl
  listed_both (Some c) h =
      let b = and_parts (names_word c.component) (names_word c.pin) h in
      and_from (names_both (added_for cs c)) true (and_from (names_word (end_word cs c.component)) (names_word c.pin) (end_has (λ w. names_word w ≡ true) cs (words cs named) c.component b.0) b.1) refl

  both_append : (xs ys : List ConnectionLayout) → list_all names_both xs ≡ true → list_all names_both ys ≡ true → list_all names_both (xs ++ ys) ≡ true
  both_append [] ys e f = f
  both_append (x ∷ xs) ys e f = let h = and_parts (names_both x) (list_all names_both xs) e in and_from (names_both x) (list_all names_both (xs ++ ys)) h.0 (both_append xs ys h.1 f)

  added_both : (moves : List PinMove) → list_all names_both (added_with cs rows moves) ≡ true
  added_both [] = refl
  added_both (m ∷ ms) = both_append (added_list cs (moving_connection rows m)) (added_with cs rows ms) (listed_both (moving_connection rows m) (moving_both m)) (added_both ms)

  -- the words of added connections are names
  pub changes_named : (moves : List PinMove) (k : ℕ) (xs : List (Option NetWords)) → list_all (if_some (λ (n : NetChange). list_all names_both n.added)) (net_changes_from cs rows moves k xs) ≡ true
  unfolding net_changes_from
  changes_named moves k [] = refl
  changes_named moves k (None ∷ xs) = changes_named moves k xs
  changes_named moves k (Some row ∷ xs) = step (is_touched moves k) (changes_named moves (k + 1) xs)
    where
      step : (b : Bool) → list_all (if_some (λ (n : NetChange). list_all names_both n.added)) (net_changes_from cs rows moves (k + 1) xs) ≡ true
          → list_all (if_some (λ (n : NetChange). list_all names_both n.added)) (cond b (Some (record { stays = stays_by (leaves moves k) 0 row.connections; added = added_with cs rows (moves_to k moves) })) None ∷ net_changes_from cs rows moves (k + 1) xs) ≡ true
      step true more = and_from (list_all names_both (added_with cs rows (moves_to k moves))) _ (added_both (moves_to k moves)) more
      step false more = more

  -- so is each net's name
  pub word_named : (o : Option PinMove) → if_some names_word (option_and_then (λ (m : PinMove). option_map (λ (row : NetWords). row.name) (slice_get rows m.to)) o) ≡ true
  word_named None = refl
  word_named (Some m) = step (slice_get rows m.to) (get_row rows all m.to)
    where
      step : (o : Option NetWords) → IsRowIf o → if_some names_word (option_map (λ (row : NetWords). row.name) o) ≡ true
      step None h = refl
      step (Some row) h = h.0
