-- The connections that leave a net and come to it are sinks.
use Rattle.std.proofs.Common.{◌≡◌, ℕ, ◌+◌, zero, suc, Bool, true, false, not, ◌&&◌, ◌||◌, ◌==◌, if◌then◌else◌, List, [], ◌∷◌, ◌++◌, length, filter, Option, Some, None, Contains, option_and_then, is_some, refl, sym, ap, ◌∙◌, subst, append_assoc, arith}
use Rattle.std.specs.List.{flat_map, filter_map, cons_option, slice_get, AllByRecursion as Each}
use Rattle.std.proofs.lemmas.Bool.Decides.{nat_tests}
use Rattle.std.proofs.lemmas.List.{length-append}
use Rattle.std.proofs.lemmas.List.Concat.{flat_map-append}
use Rattle.std.proofs.lemmas.Option.{same_Some}
use Rattle.base_types.specs.Names.{plain_name}
use Rattle.def_reader.specs.declared.design.Component.{Component}
use Rattle.def_reader.specs.declared.design.NetPin.{NetPin}
use Rattle.def_reader.specs.declared.design.Net.{Net}
use Rattle.def_reader.specs.Designs.{net_pin_of}
use Rattle.def_layout.specs.declared.net.ConnectionLayout.{ConnectionLayout}
use Rattle.def_layout.specs.Nets.{connection_words, kept}
use Rattle.def_edit.specs.Alike.Changes.{NetWords}
use Rattle.def_edit.specs.Alike.Fields.{pin_of_words}
use Rattle.def_edit.specs.declared.pin_moves.PinMove.{PinMove}
use Rattle.def_edit.specs.Moved.{leaves, moving_pin}
use Rattle.def_edit.specs.Words.{end_word}
use Rattle.def_edit.specs.NetChanges.{is_counted, stays_by, moving_connection, added_for, added_list, added_with}
use Rattle.def_edit.specs.ErasedDef.{Erasing}
use Rattle.def_edit.proofs.ErasedWords.{kept_words}

pub each_of : {X : Type 0} (P : X → Type 0) (xs : List X) → ((x : X) → Contains xs x → P x) → Each P xs
each_of P [] f = tt
each_of {X} P (x ∷ xs) f = (f x (zero, omega arith, refl), each_of P xs (λ y h. f y (later y h)))
  where
    later : (y : X) → Contains xs y → Contains (x ∷ xs) y
    later y h = (suc h.0, (let lt = h.1 in omega arith), h.2)

pub each_filter : {X : Type 0} (P : X → Type 0) (test : X → Bool) (xs : List X) → Each P xs → Each P (filter test xs)
each_filter P test [] h = tt
each_filter P test (x ∷ xs) h = of (test x) (each_filter P test xs h.1)
  where
    of : (b : Bool) → Each P (filter test xs) → Each P (if b then x ∷ filter test xs else filter test xs)
    of true r = (h.0, r)
    of false r = r

-- the nets of a design beside the words of their statements
abbrev pub AreRows : List NetWords → List Net → Type 0
AreRows [] [] = Unit {0}
AreRows [] (n ∷ ns) = ⊥
AreRows (r ∷ rs) [] = ⊥
AreRows (r ∷ rs) (n ∷ ns) = ((n.name ≡ plain_name r.name) × (n.pins ≡ filter_map pin_of_words r.connections)) × AreRows rs ns

record RowAt (row : NetWords) (nets : List Net) (k : ℕ) : Type 0 where
  net : Net
  there : slice_get nets k ≡ Some net
  pins : net.pins ≡ filter_map pin_of_words row.connections

row_at : (rows : List NetWords) (nets : List Net) (k : ℕ) (row : NetWords) → AreRows rows nets → slice_get rows k ≡ Some row → RowAt row nets k
row_at [] [] k row h e = absurd cc
row_at [] (n ∷ ns) k row h e = absurd h
row_at (r ∷ rs) [] k row h e = absurd h
row_at (r ∷ rs) (n ∷ ns) zero row h e = let same : r ≡ row = same_Some r row e in record { net = n; there = refl; pins = h.0.1 ∙ ap (λ (r : NetWords). filter_map pin_of_words r.connections) same }
row_at (r ∷ rs) (n ∷ ns) (suc k) row h e = let a = row_at rs ns k row h.1 e in record { net = a.net; there = a.there; pins = a.pins }

-- a counted connection is that of the pin at its place
record PinAt (c : ConnectionLayout) (cs : List ConnectionLayout) (place : ℕ) : Type 0 where
  pin : NetPin
  there : slice_get (filter_map pin_of_words cs) place ≡ Some pin
  is : pin_of_words c ≡ Some pin

pin_at : (cs : List ConnectionLayout) (place : ℕ) (c : ConnectionLayout) → slice_get (filter is_counted cs) place ≡ Some c → PinAt c cs place
pin_at [] place c e = absurd cc
pin_at (x ∷ cs) place c e = of (pin_of_words x) refl (λ k g. pin_at cs k c g)
  where
    counted : ((k : ℕ) → slice_get (filter is_counted cs) k ≡ Some c → PinAt c cs k) → (p : NetPin) (k : ℕ) → pin_of_words x ≡ Some p → slice_get (x ∷ filter is_counted cs) k ≡ Some c → PinAt c (x ∷ cs) k
    counted more p zero f g = let same : x ≡ c = same_Some x c g in record { pin = p; there = rw f refl; is = ap pin_of_words (sym same) ∙ f }
    counted more p (suc k) f g = let r = more k g in record { pin = r.pin; there = ap (λ (o : Option NetPin). slice_get (cons_option o (filter_map pin_of_words cs)) (suc k)) f ∙ r.there; is = r.is }

    of : (o : Option NetPin) → pin_of_words x ≡ o → ((k : ℕ) → slice_get (filter is_counted cs) k ≡ Some c → PinAt c cs k) → PinAt c (x ∷ cs) place
    of None f more =
        let less : slice_get (filter is_counted cs) place ≡ Some c = subst (λ (o : Option NetPin). slice_get (if is_some o then x ∷ filter is_counted cs else filter is_counted cs) place ≡ Some c) f e in
        let r = more place less in
        record { pin = r.pin; there = ap (λ (o : Option NetPin). slice_get (cons_option o (filter_map pin_of_words cs)) place) f ∙ r.there; is = r.is }
    of (Some p) f more = counted more p place f (subst (λ (o : Option NetPin). slice_get (if is_some o then x ∷ filter is_counted cs else filter is_counted cs) place ≡ Some c) f e)

-- a connection that moves is that of the pin that moves
record MovingIs (c : ConnectionLayout) (nets : List Net) (m : PinMove) : Type 0 where
  pin : NetPin
  moves : moving_pin nets m ≡ Some pin
  is : pin_of_words c ≡ Some pin

moving_is : (rows : List NetWords) (nets : List Net) (m : PinMove) (c : ConnectionLayout) → AreRows rows nets → moving_connection rows m ≡ Some c → MovingIs c nets m
moving_is rows nets m c h e = of (slice_get rows m.from) refl e
  where
    of : (o : Option NetWords) → slice_get rows m.from ≡ o → option_and_then (λ row. slice_get (filter is_counted row.connections) m.place) o ≡ Some c → MovingIs c nets m
    of None f g = absurd cc
    of (Some row) f g =
        let r = row_at rows nets m.from row h f in
        let p = pin_at row.connections m.place c g in
        record {
          pin = p.pin;
          moves = ap (option_and_then (λ (net : Net). slice_get net.pins m.place)) r.there ∙ ap (λ (ps : List NetPin). slice_get ps m.place) r.pins ∙ p.there;
          is = p.is;
        }

-- the pin of a move is a sink
abbrev pub MovesSink : Erasing → List Net → PinMove → Type 0
MovesSink e nets m = (pin : NetPin) → moving_pin nets m ≡ Some pin → e.is_sink pin ≡ true

-- a word that a component is written anew with connects the same pin
abbrev pub KeepsPins : List Component → Type 0
KeepsPins components = (word pin : List ℕ) (p : NetPin) → net_pin_of word pin ≡ Some p → net_pin_of (end_word components word) pin ≡ Some p

sink_erased : (e : Erasing) (c : ConnectionLayout) (p : NetPin) → net_pin_of c.component c.pin ≡ Some p → e.is_sink p ≡ true → kept_words e c ≡ []
sink_erased e c p f g = ap (λ (o : Option NetPin). if (elim o [ None ↦ false | Some q ↦ e.is_sink q ]) then [] else connection_words c) f ∙ ap (λ (b : Bool). if b then [] else connection_words c) g

module _ (e : Erasing) (components : List Component) (keeps : KeepsPins components) (rows : List NetWords) (nets : List Net) (are : AreRows rows nets) where
  one_erased : (m : PinMove) (o : Option ConnectionLayout) → moving_connection rows m ≡ o → MovesSink e nets m → flat_map (kept_words e) (added_list components o) ≡ []
  one_erased m None f sink = refl
  one_erased m (Some c) f sink =
      let i = moving_is rows nets m c are f in
      rw (sink_erased e (added_for components c) i.pin (keeps c.component c.pin i.pin i.is) (sink i.pin i.moves)) refl

  -- the connections that come are all erased
  pub added_erased : (ms : List PinMove) → Each (MovesSink e nets) ms → flat_map (kept_words e) (added_with components rows ms) ≡ []
  added_erased [] h = refl
  added_erased (m ∷ ms) h =
      flat_map-append (kept_words e) (added_list components (moving_connection rows m)) (added_with components rows ms)
      ∙ ap (λ (l : List (List ℕ)). l ++ flat_map (kept_words e) (added_with components rows ms)) (one_erased m (moving_connection rows m) refl h.0) ∙ added_erased ms h.1

-- those of some pins, from a place on, that leave are sinks
abbrev pub LeaveSinks : Erasing → (ℕ → Bool) → ℕ → List NetPin → Type 0
LeaveSinks e gone place [] = Unit {0}
LeaveSinks e gone place (p ∷ ps) = (gone place ≡ true → e.is_sink p ≡ true) × LeaveSinks e gone (place + 1) ps

-- so the connections that stay are the same once sinks are erased
pub kept_erased : (e : Erasing) (gone : ℕ → Bool) (place : ℕ) (cs : List ConnectionLayout) → LeaveSinks e gone place (filter_map pin_of_words cs) → flat_map (kept_words e) (kept (stays_by gone place cs) cs) ≡ flat_map (kept_words e) cs
unfolding kept stays_by
kept_erased e gone place [] h = refl
kept_erased e gone place (c ∷ cs) h = of (pin_of_words c) refl h (λ k l. kept_erased e gone k cs l)
  where
    counted : (p : NetPin) (b : Bool) → pin_of_words c ≡ Some p → (b ≡ true → e.is_sink p ≡ true) → flat_map (kept_words e) (kept (stays_by gone (place + 1) cs) cs) ≡ flat_map (kept_words e) cs
        → flat_map (kept_words e) ((if not b then c ∷ [] else []) ++ kept (stays_by gone (place + 1) cs) cs) ≡ kept_words e c ++ flat_map (kept_words e) cs
    counted p true f sink r = r ∙ ap (λ (l : List (List ℕ)). l ++ flat_map (kept_words e) cs) (sym (sink_erased e c p f (sink refl)))
    counted p false f sink r = ap (λ (l : List (List ℕ)). kept_words e c ++ l) r

    of : (o : Option NetPin) → pin_of_words c ≡ o → LeaveSinks e gone place (cons_option o (filter_map pin_of_words cs))
        → ((k : ℕ) → LeaveSinks e gone k (filter_map pin_of_words cs) → flat_map (kept_words e) (kept (stays_by gone k cs) cs) ≡ flat_map (kept_words e) cs)
        → flat_map (kept_words e) (kept (stays_by gone place (c ∷ cs)) (c ∷ cs)) ≡ kept_words e c ++ flat_map (kept_words e) cs
    of None f k more = rw f (ap (λ (l : List (List ℕ)). kept_words e c ++ l) (more place k))
    of (Some p) f k more = rw f (counted p (gone place) f k.0 (more (place + 1) k.1))

any_sink : (e : Erasing) (nets : List Net) (net : Net) (k place : ℕ) (pin : NetPin) (ms : List PinMove) → Each (MovesSink e nets) ms → slice_get nets k ≡ Some net → slice_get net.pins place ≡ Some pin → leaves ms k place ≡ true → e.is_sink pin ≡ true
any_sink e nets net k place pin [] h there is g = absurd cc
any_sink e nets net k place pin (m ∷ ms) h there is g = of (m.from == k) (m.place == place) refl refl g (λ r. any_sink e nets net k place pin ms h.1 there is r)
  where
    of : (a b : Bool) → (m.from == k) ≡ a → (m.place == place) ≡ b → ((a && b) || leaves ms k place) ≡ true → (leaves ms k place ≡ true → e.is_sink pin ≡ true) → e.is_sink pin ≡ true
    of true true f1 f2 r more =
        let from : m.from ≡ k = grind (arith, nat_tests) in
        let at : m.place ≡ place = grind (arith, nat_tests) in
        h.0 pin (ap (λ (i : ℕ). option_and_then (λ (n : Net). slice_get n.pins m.place) (slice_get nets i)) from ∙ ap (option_and_then (λ (n : Net). slice_get n.pins m.place)) there ∙ ap (slice_get net.pins) at ∙ is)
    of true false f1 f2 r more = more r
    of false b f1 f2 r more = more r

pub slice_here : {X : Type 0} (front : List X) (x : X) (behind : List X) (k : ℕ) → k ≡ length front → slice_get (front ++ x ∷ behind) k ≡ Some x
slice_here [] x behind k e = rw e refl
slice_here (y ∷ front) x behind zero e = absurd cc
slice_here (y ∷ front) x behind (suc k) e = slice_here front x behind k (omega (arith, e))

pub leave_sinks : (e : Erasing) (nets : List Net) (net : Net) (k : ℕ) (moves : List PinMove) → Each (MovesSink e nets) moves → slice_get nets k ≡ Some net → (front ps : List NetPin) (place : ℕ) → net.pins ≡ front ++ ps → place ≡ length front
    → LeaveSinks e (leaves moves k) place ps
leave_sinks e nets net k moves h there front [] place is len = tt
leave_sinks e nets net k moves h there front (p ∷ ps) place is len = (
  λ g. any_sink e nets net k place p moves h there (ap (λ (l : List NetPin). slice_get l place) is ∙ slice_here front p ps place len) g,
  leave_sinks e nets net k moves h there (front ++ p ∷ []) ps (place + 1) (is ∙ sym (append_assoc front (p ∷ []) ps)) (let more = length-append front (p ∷ []) in omega (arith, len, more)),
)
