-- The statements of PINS and NETS with changes, once erased.
use Rattle.std.proofs.Common.{◌≡◌, ℕ, ◌+◌, zero, suc, Bool, true, false, ◌==◌, if◌then◌else◌, List, [], ◌∷◌, ◌++◌, length, map, Option, Some, None, option_map, option_and_then, refl, sym, ap, ◌∙◌, subst, append_assoc, append-nil, codes, arith}
use Rattle.std.specs.List.{find, flat_map, filter_map, cons_option, slice_get, AllByRecursion as Each}
use Rattle.std.proofs.lemmas.List.{length-append}
use Rattle.std.proofs.lemmas.List.Concat.{flat_map-append}
use Rattle.std.proofs.lemmas.Option.{same_Some}
use Rattle.base_types.specs.Names.{plain_name}
use Rattle.base_types.proofs.TruthValues.{bytes_are}
use Rattle.token_forms.specs.Tokens.{Token}
use Rattle.token_forms.specs.Parts.{token_texts}
use Rattle.token_forms.specs.Classes.{But, is_in}
use Rattle.def_syntax.specs.Words.{marks}
use Rattle.def_syntax.specs.Frames.{word_of, is_end}
use Rattle.def_syntax.specs.Grammar.{design_pin, net}
use Rattle.def_syntax.specs.Designs.{AreLocated}
use Rattle.def_syntax.specs.declared.frame.SectionKind.TheVariants.{Pins, Nets}
use Rattle.def_syntax.specs.declared.design.Located.{Located}
use Rattle.def_syntax.specs.declared.pin.DesignPin.{DesignPin}
use Rattle.def_syntax.specs.declared.net.Net.{Net as NetText}
use Rattle.def_syntax.specs.declared.net.NetStatement.{NetStatement}
use Rattle.def_syntax.specs.declared.net.NetStatement.TheVariants as net_statements
use Rattle.def_reader.specs.declared.design.Component.{Component}
use Rattle.def_reader.specs.declared.design.NetPin.{NetPin}
use Rattle.def_reader.specs.declared.design.NetPin.TheVariants.{Cell, Port}
use Rattle.def_reader.specs.declared.design.Net.{Net}
use Rattle.def_reader.specs.Designs.{net_pins_of, net_at, net_of}
use Rattle.def_layout.specs.declared.net.ConnectionLayout.{ConnectionLayout}
use Rattle.def_layout.specs.Nets.{connection_in, kept}
use Rattle.def_layout.specs.NetForms.{AreIn}
use Rattle.def_layout.proofs.NetThere.{net_there}
use Rattle.def_edit.specs.Alike.Changes.{NetChange, NetWords, net_in, each_words, pin_statement_words, net_statement_words}
use Rattle.def_edit.specs.Alike.Fields.{pin_of_words}
use Rattle.def_edit.proofs.alike.Lists.{filter_of_map}
use Rattle.def_edit.proofs.alike.Statements.{Strict}
use Rattle.def_edit.specs.declared.pin_moves.PinMove.{PinMove}
use Rattle.def_edit.specs.Moved.{leaves, moving_pin, is_port}
use Rattle.def_edit.specs.NetChanges.{stays_by, added_with, moves_to, is_touched, net_changes_from, new_word}
use Rattle.def_edit.specs.ErasedDef.{Erasing, erased_net, erased_pin, erased_inside, is_end_of}
use Rattle.def_edit.proofs.ErasedWords.{kept_words}
use Rattle.def_edit.proofs.ErasedNets.{net_name_is, net_erased}
use Rattle.def_edit.proofs.ErasedSinks.{each_filter, AreRows, MovesSink, KeepsPins, added_erased, kept_erased, slice_here, leave_sinks}
use Rattle.def_edit.proofs.ErasedPins.{pin_erased, pin_open}

pub end_words : (word : List ℕ) (s : List Token) → is_end_of word (token_texts s) ≡ is_end word s
end_words word [] = refl
end_words word (t ∷ []) = refl
end_words word (t ∷ u ∷ []) = refl
end_words word (t ∷ u ∷ v ∷ s) = refl

-- none of the words is END and this word
abbrev pub AreOpen : List ℕ → List (List (List ℕ)) → Type 0
AreOpen word ws = Each (λ w. is_end_of word w ≡ false) ws

pub open_texts : (word : List ℕ) (ss : List (List Token)) → Each (λ s. is_end word s ≡ false) ss → AreOpen word (map token_texts ss)
open_texts word [] h = tt
open_texts word (s ∷ ss) h = (end_words word s ∙ h.0, open_texts word ss h.1)

-- the rows of a text's nets, beside the nets
pub are_rows : (text : List ℕ) (ns : List (Located NetStatement)) → AreRows (filter_map (λ x. x) (map (λ n. net_in text n.statement) ns)) (filter_map (net_of text) ns)
are_rows text [] = tt
are_rows text (n ∷ ns) = of n.statement (are_rows text ns)
  where
    of : (x : NetStatement) → AreRows (filter_map (λ x. x) (map (λ n. net_in text n.statement) ns)) (filter_map (net_of text) ns)
        → AreRows (cons_option (net_in text x) (filter_map (λ x. x) (map (λ n. net_in text n.statement) ns))) (cons_option (net_at text n.span n.line x) (filter_map (net_of text) ns))
    of net_statements.MustJoin r = r
    of (net_statements.Net x) r = ((refl, sym (filter_of_map pin_of_words (connection_in text) x.connections)), r)

abbrev pub IsNamed : NetWords → Type 0
IsNamed row = is_in (But marks) row.name ≡ true

pub rows_named : (text : List ℕ) (ss : List (List Token)) (ns : List (Located NetStatement)) → AreLocated net text ss ns → Each (AreIn text) ss → Each IsNamed (filter_map (λ x. x) (map (λ n. net_in text n.statement) ns))
rows_named text [] [] h inside = tt
rows_named text [] (n ∷ ns) h inside = absurd h
rows_named text (s ∷ ss) [] h inside = absurd h
rows_named text (s ∷ ss) (n ∷ ns) h inside = of n.statement h.0.spelled (rows_named text ss ns h.1 inside.1)
  where
    of : (x : NetStatement) → net.spells x s → Each IsNamed (filter_map (λ x. x) (map (λ n. net_in text n.statement) ns)) → Each IsNamed (cons_option (net_in text x) (filter_map (λ x. x) (map (λ n. net_in text n.statement) ns)))
    of net_statements.MustJoin k r = r
    of (net_statements.Net x) k r = ((net_name_is x.name (net_there text x s inside.0 k).named).good, r)

each_slice : {X : Type 0} (P : X → Type 0) (xs : List X) (k : ℕ) (x : X) → Each P xs → slice_get xs k ≡ Some x → P x
each_slice P [] k x h e = absurd cc
each_slice P (y ∷ xs) zero x h e = subst P (same_Some y x e) h.0
each_slice P (y ∷ xs) (suc k) x h e = each_slice P xs k x h.1 e

pub find_has : {X : Type 0} (P : X → Type 0) (test : X → Bool) (xs : List X) (x : X) → Each P xs → find test xs ≡ Some x → P x × (test x ≡ true)
find_has P test [] x h e = absurd cc
find_has {X} P test (y ∷ xs) x h e = of (test y) refl e (λ f. find_has P test xs x h.1 f)
  where
    of : (b : Bool) → test y ≡ b → (if b then Some y else find test xs) ≡ Some x → (find test xs ≡ Some x → P x × (test x ≡ true)) → P x × (test x ≡ true)
    of true f g more = let same : y ≡ x = same_Some y x g in (subst P same h.0, subst (λ (z : X). test z ≡ true) same f)
    of false f g more = more g

-- the port of a move is free
abbrev pub MovesFree : Erasing → List Net → PinMove → Type 0
MovesFree e nets m = (name : List ℕ) → moving_pin nets m ≡ Some (Port name) → e.is_free name ≡ true

port_is : (name : List ℕ) (o : Option NetPin) → is_port name o ≡ true → o ≡ Some (Port name)
port_is name None e = absurd cc
port_is name (Some (Cell component pin)) e = absurd cc
port_is name (Some (Port port)) e = ap (λ (n : List ℕ). Some (Port n)) (bytes_are port name e)

-- a word that comes is a name, and the port is free
record NewWord (e : Erasing) (name w : List ℕ) : Type 0 where
  good : is_in (But marks) w ≡ true
  free : e.is_free name ≡ true

new_word_is : (e : Erasing) (rows : List NetWords) (nets : List Net) (moves : List PinMove) (name w : List ℕ) → Each IsNamed rows → Each (MovesFree e nets) moves → new_word rows nets moves name ≡ Some w → NewWord e name w
new_word_is e rows nets moves name w named free h = of (find (λ m. is_port name (moving_pin nets m)) moves) refl h
  where
    row : (m : PinMove) (o : Option NetWords) → slice_get rows m.to ≡ o → option_map (λ row. row.name) o ≡ Some w → is_in (But marks) w ≡ true
    row m None f g = absurd cc
    row m (Some r) f g = subst (λ (v : List ℕ). is_in (But marks) v ≡ true) (same_Some r.name w g) (each_slice IsNamed rows m.to r named f)

    of : (o : Option PinMove) → find (λ m. is_port name (moving_pin nets m)) moves ≡ o → option_and_then (λ m. option_map (λ row. row.name) (slice_get rows m.to)) o ≡ Some w → NewWord e name w
    of None f g = absurd cc
    of (Some m) f g =
        let has = find_has (MovesFree e nets) (λ m. is_port name (moving_pin nets m)) moves m free f in
        record { good = row m (slice_get rows m.to) refl g; free = has.0 name (port_is name (moving_pin nets m) has.1) }

-- the statements of a section are the same once erased, and none of them is its END
pub record AreSame (e : Erasing) (kind : _) (ws : List (List (List ℕ))) (ss : List (List Token)) : Type 0 where
  pub open_all : AreOpen (word_of kind) ws
  pub same : flat_map (erased_inside e kind) ws ≡ flat_map (erased_inside e kind) (map token_texts ss)

module _ (e : Erasing) (text : List ℕ) (rows : List NetWords) (nets : List Net) (moves : List PinMove) (named : Each IsNamed rows) (free : Each (MovesFree e nets) moves) where
  pub pins_same : (ss : List (List Token)) (xs : List (Located DesignPin)) → AreLocated design_pin text ss xs → Each Strict ss → Each (λ s. is_end (word_of Pins) s ≡ false) ss
      → AreSame e Pins (each_words pin_statement_words ss xs (map (λ p. new_word rows nets moves (plain_name p.statement.name)) xs)) ss
  pins_same [] xs h strict none = record { open_all = tt; same = refl }
  pins_same (s ∷ ss) [] h strict none = absurd h
  pins_same (s ∷ ss) (x ∷ xs) h strict none = of (new_word rows nets moves (plain_name x.statement.name)) refl (pins_same ss xs h.1 strict.1 none.1)
    where
      of : (o : Option (List ℕ)) → new_word rows nets moves (plain_name x.statement.name) ≡ o → AreSame e Pins (each_words pin_statement_words ss xs (map (λ p. new_word rows nets moves (plain_name p.statement.name)) xs)) ss
          → AreSame e Pins (each_words pin_statement_words (s ∷ ss) (x ∷ xs) (o ∷ map (λ p. new_word rows nets moves (plain_name p.statement.name)) xs)) (s ∷ ss)
      of None f r = record { open_all = (end_words (word_of Pins) s ∙ none.0, r.open_all); same = ap (λ (l : List (List (List ℕ))). erased_pin e (token_texts s) ∷ l) r.same }
      of (Some w) f r =
          let new = new_word_is e rows nets moves (plain_name x.statement.name) w named free f in
          record {
            open_all = (pin_open (word_of Pins) x.statement w s h.0.spelled, r.open_all);
            same = rw (pin_erased e x.statement w s strict.0 new.good h.0.spelled new.free, r.same) refl;
          }

module _ (e : Erasing) (text : List ℕ) (components : List Component) (keeps : KeepsPins components) (rows : List NetWords) (nets : List Net) (are : AreRows rows nets) (moves : List PinMove) (sinks : Each (MovesSink e nets) moves)
    (changed : (k : ℕ) (net : Net) → slice_get nets k ≡ Some net → is_touched moves k ≡ true → e.is_changed net.name ≡ true) where
  -- the connections of a net that is written anew
  connections_same : (n : Net) (x : NetText) (k : ℕ) → slice_get nets k ≡ Some n → n.pins ≡ net_pins_of text x.connections
      → flat_map (kept_words e) (kept (stays_by (leaves moves k) 0 (map (connection_in text) x.connections)) (map (connection_in text) x.connections) ++ added_with components rows (moves_to k moves))
      ≡ flat_map (kept_words e) (map (connection_in text) x.connections)
  connections_same n x k there pins =
      let old = map (connection_in text) x.connections in
      let stay = kept (stays_by (leaves moves k) 0 old) old in
      let added = added_with components rows (moves_to k moves) in
      let all : n.pins ≡ filter_map pin_of_words old = pins ∙ sym (filter_of_map pin_of_words (connection_in text) x.connections) in
      flat_map-append (kept_words e) stay added
      ∙ ap (λ (l : List (List ℕ)). l ++ flat_map (kept_words e) added) (kept_erased e (leaves moves k) 0 old (leave_sinks e nets n k moves sinks there [] (filter_map pin_of_words old) 0 all refl))
      ∙ ap (λ (l : List (List ℕ)). flat_map (kept_words e) old ++ l) (added_erased e components keeps rows nets are (moves_to k moves) (each_filter (MovesSink e nets) (λ m. m.to == k) moves sinks))
      ∙ append-nil (flat_map (kept_words e) old)

  abbrev changes_from : ℕ → List (Located NetStatement) → List (Option NetChange)
  changes_from k ns = net_changes_from components rows moves k (map (λ n. net_in text n.statement) ns)

  pub nets_same : (ss : List (List Token)) (ns : List (Located NetStatement)) (front : List Net) (k : ℕ) → nets ≡ front ++ filter_map (net_of text) ns → k ≡ length front → AreLocated net text ss ns → Each (AreIn text) ss
      → Each (λ s. is_end (word_of Nets) s ≡ false) ss → AreSame e Nets (each_words (net_statement_words text) ss ns (changes_from k ns)) ss
  unfolding net_changes_from
  nets_same [] ns front k is len h inside none = record { open_all = tt; same = refl }
  nets_same (s ∷ ss) [] front k is len h inside none = absurd h
  nets_same (s ∷ ss) (n ∷ ns) front k is len h inside none = of n.statement h.0.spelled is (λ more j f g. nets_same ss ns more j f g h.1 inside.1 none.1)
    where
      Rest : Type 0
      Rest = (more : List Net) (j : ℕ) → nets ≡ more ++ filter_map (net_of text) ns → j ≡ length more → AreSame e Nets (each_words (net_statement_words text) ss ns (changes_from j ns)) ss

      unchanged : (x : Located NetStatement) (cs : List (Option NetChange)) → AreSame e Nets (each_words (net_statement_words text) ss ns cs) ss → AreSame e Nets (each_words (net_statement_words text) (s ∷ ss) (x ∷ ns) (None ∷ cs)) (s ∷ ss)
      unchanged x cs r = record { open_all = (end_words (word_of Nets) s ∙ none.0, r.open_all); same = ap (λ (l : List (List (List ℕ))). erased_net e (token_texts s) ∷ l) r.same }

      dashed : (name : List ℕ) (ws : List (List ℕ)) → is_end_of (word_of Nets) (codes "-" ∷ name ∷ ws) ≡ false
      dashed name [] = refl
      dashed name (w ∷ ws) = refl

      of : (x : NetStatement) → net.spells x s → nets ≡ front ++ cons_option (net_at text n.span n.line x) (filter_map (net_of text) ns) → Rest
          → AreSame e Nets (each_words (net_statement_words text) (s ∷ ss) (record { statement = x; span = n.span; line = n.line } ∷ ns) (net_changes_from components rows moves k (net_in text x ∷ map (λ n. net_in text n.statement) ns))) (s ∷ ss)
      of net_statements.MustJoin spelled whole more = unchanged (record { statement = net_statements.MustJoin; span = n.span; line = n.line }) (changes_from k ns) (more front k whole len)
      of (net_statements.Net x) spelled whole more = touched (is_touched moves k) refl
        where
          here : Net
          here = record { name = plain_name x.name; pins = net_pins_of text x.connections; span = n.span; line = n.line }

          old : List ConnectionLayout
          old = map (connection_in text) x.connections

          rest : AreSame e Nets (each_words (net_statement_words text) ss ns (changes_from (k + 1) ns)) ss
          rest =
              more (front ++ here ∷ []) (k + 1) (whole ∙ sym (append_assoc front (here ∷ []) (filter_map (net_of text) ns)))
              (let longer = length-append front (here ∷ []) in omega (arith, len, longer))

          there : slice_get nets k ≡ Some here
          there = ap (λ (l : List Net). slice_get l k) whole ∙ slice_here front here (filter_map (net_of text) ns) k len

          change : NetChange
          change = record { stays = stays_by (leaves moves k) 0 old; added = added_with components rows (moves_to k moves) }

          touched : (b : Bool) → is_touched moves k ≡ b
              → AreSame e Nets (each_words (net_statement_words text) (s ∷ ss) (record { statement = net_statements.Net x; span = n.span; line = n.line } ∷ ns) ((if b then Some change else None) ∷ changes_from (k + 1) ns)) (s ∷ ss)
          touched false f = unchanged (record { statement = net_statements.Net x; span = n.span; line = n.line }) (changes_from (k + 1) ns) rest
          touched true f =
              let one = net_erased e text s x change inside.0 spelled (changed k here there f) (connections_same here x k there refl) in
              record { open_all = (dashed x.name _, rest.open_all); same = rw (one, rest.same) refl }
