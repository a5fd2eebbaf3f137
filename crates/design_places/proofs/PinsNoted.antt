-- Nets by their pins, as one more is looked at.
use Rattle.std.proofs.Common.{◌≡◌, ℕ, ◌+◌, ◌<◌, inl, inr, Bool, true, false, cond, ◌||◌, ◌&&◌, List, [], ◌∷◌, length, get_or, take, Bor, Option, Some, None, refl, sym, ap, ◌∙◌, arith}
use Rattle.std.specs.Prelude.{option_and_then, slice_get}
use Rattle.std.specs.HashMap.{HashMap, get}
use Rattle.std.specs.HashSet.{HashSet, contains_by}
use Rattle.std.specs.List.{find, list_any}
use Rattle.std.specs.Map.{lookup}
use Rattle.std.specs.Option.{option_or, option_eq}
use Rattle.std.specs.Str.{bytes_eq}
use Rattle.std.proofs.lemmas.Bool.{cases_Bool, and_parts}
use Rattle.std.proofs.lemmas.List.{take_more, take_all}
use Rattle.std.proofs.lemmas.List.Folds.{find-append, list_any_more}
use Rattle.std.proofs.lemmas.Option.{slice_get-get_or}
use Rattle.base_types.proofs.TruthValues.{bytes_are, bytes_turned, not_both, or_false}
use Rattle.def_reader.specs.declared.design.Net.{Net}
use Rattle.def_reader.specs.declared.design.NetPin.{NetPin}
use Rattle.def_reader.specs.declared.design.NetPin.TheVariants.{Cell, Port}
use Rattle.def_reader.specs.Steps.{PinKey, same_key, pin_by, pin_of_key}
use Rattle.def_reader.proofs.PinKeys.{key_exact}
use Rattle.design_places.specs.NetPins.{same_pin}
use Rattle.design_places.specs.PinPlaces.{is_asked, ArePinsNoted}

parts : (a b : Option (Bor (List ℕ))) (p q : List ℕ) → (option_eq (λ x y. bytes_eq x.now y.now) a b && bytes_eq p q) ≡ same_pin (pin_by b q) (pin_by a p)
parts None None p q = bytes_turned p q
parts None (Some d) p q = refl
parts (Some c) None p q = refl
parts (Some c) (Some d) p q = ap (λ (t : Bool). t && bytes_eq p q) (bytes_turned c.now d.now) ∙ ap (λ (t : Bool). bytes_eq d.now c.now && t) (bytes_turned p q)

-- keys are the same where their pins are
pub key_is : (x q : PinKey) → same_key x q ≡ same_pin (pin_of_key q) (pin_of_key x)
key_is x q = parts x.0 q.0 x.1.now q.1.now

-- a look-up hangs on the pin alone
look_same : (x q : PinKey) (es : List (PinKey × ℕ)) → pin_of_key x ≡ pin_of_key q → lookup (same_key x) es ≡ lookup (same_key q) es
look_same x q [] e = refl
look_same x q (entry ∷ es) e =
    let test : same_key x entry.0 ≡ same_key q entry.0 = key_is x entry.0 ∙ ap (same_pin (pin_of_key entry.0)) e ∙ sym (key_is q entry.0) in
    ap (λ (t : Bool). cond t (Some entry.1) (lookup (same_key x) es)) test ∙ ap (cond (same_key q entry.0) (Some entry.1)) (look_same x q es e)

or_none : (o : Option ℕ) → o ≡ option_or o None
or_none None = refl
or_none (Some n) = refl

module _ (key q : PinKey) (es : List (PinKey × ℕ)) (place : ℕ) (pin : NetPin) (named : pin_of_key key ≡ pin) where
  test_is : same_key key q ≡ same_pin (pin_of_key q) pin
  test_is = key_is key q ∙ ap (same_pin (pin_of_key q)) named

  -- a pin that has no place yet gets one
  pub pin_added : (new : Option ℕ) → None ≡ lookup (same_key key) es → new ≡ cond (same_key key q) (Some place) (lookup (same_key q) es)
      → new ≡ option_or (lookup (same_key q) es) (cond (same_pin (pin_of_key q) pin) (Some place) None)
  pin_added new none is =
      elim (cases_Bool (same_key key q)) [
        | inl same ↦
            let nothing : lookup (same_key q) es ≡ None = sym (none ∙ look_same key q es (key_exact key q same)) in
            is ∙ ap (λ (t : Bool). cond t (Some place) (lookup (same_key q) es)) same
            ∙ sym (ap (λ (o : Option ℕ). option_or o (cond (same_pin (pin_of_key q) pin) (Some place) None)) nothing ∙ ap (λ (t : Bool). cond t (Some place) None) (sym test_is ∙ same))
        | inr other ↦
            is ∙ ap (λ (t : Bool). cond t (Some place) (lookup (same_key q) es)) other ∙ or_none (lookup (same_key q) es)
            ∙ ap (λ (t : Bool). option_or (lookup (same_key q) es) (cond t (Some place) None)) (sym other ∙ test_is)
      ]

  -- one that had a place gets it back
  pub pin_back : (first : ℕ) (mid new : Option ℕ) → Some first ≡ lookup (same_key key) es → mid ≡ cond (same_key key q) (Some place) (lookup (same_key q) es) → new ≡ cond (same_key key q) (Some first) mid
      → new ≡ option_or (lookup (same_key q) es) (cond (same_pin (pin_of_key q) pin) (Some place) None)
  pin_back first mid new there was is =
      elim (cases_Bool (same_key key q)) [
        | inl same ↦
            let found : lookup (same_key q) es ≡ Some first = sym (there ∙ look_same key q es (key_exact key q same)) in
            is ∙ ap (λ (t : Bool). cond t (Some first) mid) same ∙ sym (ap (λ (o : Option ℕ). option_or o (cond (same_pin (pin_of_key q) pin) (Some place) None)) found)
        | inr other ↦
            is ∙ ap (λ (t : Bool). cond t (Some first) mid) other ∙ was ∙ ap (λ (t : Bool). cond t (Some place) (lookup (same_key q) es)) other ∙ or_none (lookup (same_key q) es)
            ∙ ap (λ (t : Bool). option_or (lookup (same_key q) es) (cond t (Some place) None)) (sym other ∙ test_is)
      ]

or_again : (o : Option ℕ) (a b : Bool) (place : ℕ) → option_or (option_or o (cond a (Some place) None)) (cond b (Some place) None) ≡ option_or o (cond (a || b) (Some place) None)
or_again None true b place = refl
or_again None false b place = refl
or_again (Some n) a b place = refl

-- one pin more of a net
pub pins_more : (q : PinKey) (pins : List NetPin) (i : ℕ) (pin : NetPin) (place : ℕ) (first old new : Option ℕ) → i < length pins → pin ≡ get_or pins i pin
    → old ≡ option_or first (cond (list_any (same_pin (pin_of_key q)) (take i pins)) (Some place) None) → new ≡ option_or old (cond (same_pin (pin_of_key q) pin) (Some place) None)
    → new ≡ option_or first (cond (list_any (same_pin (pin_of_key q)) (take (i + 1) pins)) (Some place) None)
pins_more q pins i pin place first old new lt is was now =
    let p : NetPin → Bool = same_pin (pin_of_key q) in
    now ∙ ap (λ (o : Option ℕ). option_or o (cond (p pin) (Some place) None)) was ∙ or_again first (list_any p (take i pins)) (p pin) place
    ∙ ap (λ (t : Bool). option_or first (cond t (Some place) None)) (ap (λ (x : NetPin). list_any p (take i pins) || p x) is ∙ sym (list_any_more p pins i pin lt))

-- the one that is found first, or the next
found_next : (xs : List Net) (n : ℕ) (t : Bool) (old : Option ℕ) (x : Net) → n < length xs → slice_get xs n ≡ Some x → ((place : ℕ) → old ≡ Some place → place < n)
    → option_and_then (λ place. slice_get xs place) (option_or old (cond t (Some n) None)) ≡ option_or (option_and_then (λ place. slice_get xs place) old) (cond t (Some x) None)
found_next xs n true None x lt here within = here
found_next xs n false None x lt here within = refl
found_next xs n t (Some place) x lt here within =
    let inside : place < length xs = let below = within place refl in omega arith in
    let there = slice_get-get_or xs place x inside in
    there ∙ sym (ap (λ (o : Option Net). option_or o (cond t (Some x) None)) there)

next_within : (n : ℕ) (t : Bool) (old : Option ℕ) (place : ℕ) → ((p : ℕ) → old ≡ Some p → p < n) → option_or old (cond t (Some n) None) ≡ Some place → place < n + 1
next_within n true None place within e = let same : n ≡ place = cc in omega arith
next_within n false None place within e = absurd cc
next_within n t (Some p) place within e = let below = within p refl in let same : p ≡ place = cc in omega arith

-- what is asked for hangs on the name of the pin
asked_same : {S : Type 0} (names : HashSet (Bor (List ℕ)) S) (a b : NetPin) → same_pin a b ≡ true → is_asked names a ≡ is_asked names b
asked_same names (Cell c p) (Cell d q) e =
    let named = bytes_are p q (and_parts (bytes_eq c d) (bytes_eq p q) e).1 in
    ap (λ (x : List ℕ). contains_by (λ (name : Bor (List ℕ)). bytes_eq x name.now) names) named
asked_same names (Cell c p) (Port q) e = absurd cc
asked_same names (Port p) (Cell d q) e = absurd cc
asked_same names (Port p) (Port q) e = refl

-- a pin that isn't asked for is none that is
pub pin_passed : {S : Type 0} (names : HashSet (Bor (List ℕ)) S) (q : PinKey) (pins : List NetPin) (i : ℕ) (pin : NetPin) (place : ℕ) (first old : Option ℕ) → i < length pins → pin ≡ get_or pins i pin
    → is_asked names (pin_of_key q) ≡ true → is_asked names pin ≡ false
    → old ≡ option_or first (cond (list_any (same_pin (pin_of_key q)) (take i pins)) (Some place) None)
    → old ≡ option_or first (cond (list_any (same_pin (pin_of_key q)) (take (i + 1) pins)) (Some place) None)
pin_passed names q pins i pin place first old lt is asked passed was =
    let p : NetPin → Bool = same_pin (pin_of_key q) in
    let other : p pin ≡ false = elim (cases_Bool (p pin)) [
      | inl same ↦ absurd (not_both (is_asked names pin) (sym (asked_same names (pin_of_key q) pin same) ∙ asked) passed)
      | inr fails ↦ fails
    ] in
    let more : list_any p (take (i + 1) pins) ≡ list_any p (take i pins) =
    list_any_more p pins i pin lt ∙ ap (λ (x : NetPin). list_any p (take i pins) || p x) (sym is) ∙ ap (λ (t : Bool). list_any p (take i pins) || t) other ∙ or_false (list_any p (take i pins)) in
    was ∙ ap (λ (t : Bool). option_or first (cond t (Some place) None)) (sym more)

module _ {S : Type 0} (asked : NetPin → Bool) where
  -- nothing is noted at first
  pub none_noted : (places : HashMap PinKey ℕ S) (nets : List Net) → ((q : PinKey) → get same_key places q ≡ None) → ArePinsNoted asked places nets 0
  none_noted places nets none = record {
    is = λ q a. ap (option_and_then (λ place. slice_get nets place)) (none q);
    within = λ q place a e. let no = none q in absurd cc;
  }

module _ {S : Type 0} (asked : NetPin → Bool) (old new : HashMap PinKey ℕ S) (nets : List Net) (n : ℕ) (net : Net) (lt : n < length nets) (is : net ≡ get_or nets n net)
    (added : (q : PinKey) → asked (pin_of_key q) ≡ true → get same_key new q ≡ option_or (get same_key old q) (cond (list_any (same_pin (pin_of_key q)) net.pins) (Some n) None)) (noted : ArePinsNoted asked old nets n) where
  here : slice_get nets n ≡ Some net
  here = slice_get-get_or nets n net lt ∙ ap (λ (x : Net). Some x) (sym is)

  found : (q : PinKey) → asked (pin_of_key q) ≡ true → option_and_then (λ place. slice_get nets place) (get same_key new q) ≡ find (λ x. list_any (same_pin (pin_of_key q)) x.pins) (take (n + 1) nets)
  found q a =
      let test : Net → Bool = λ x. list_any (same_pin (pin_of_key q)) x.pins in
      let more = ap (find test) (take_more nets n net lt) ∙ find-append test (take n nets) (get_or nets n net ∷ []) in
      let last = ap (λ (x : Net). option_or (find test (take n nets)) (find test (x ∷ []))) (sym is) in
      ap (option_and_then (λ place. slice_get nets place)) (added q a) ∙ found_next nets n (test net) (get same_key old q) net lt here (λ place. noted.within q place a)
      ∙ ap (λ (o : Option Net). option_or o (cond (test net) (Some net) None)) (noted.is q a)
      ∙ sym (more ∙ last)

  -- one net more
  pub net_noted : ArePinsNoted asked new nets (n + 1)
  net_noted = record {
    is = found;
    within = λ q place a e. next_within n (list_any (same_pin (pin_of_key q)) net.pins) (get same_key old q) place (λ p. noted.within q p a) (sym (added q a) ∙ e);
  }

module _ {S : Type 0} (asked : NetPin → Bool) (places : HashMap PinKey ℕ S) (nets : List Net) (q : PinKey) (all : ArePinsNoted asked places nets (length nets)) (a : asked (pin_of_key q) ≡ true) where
  in_all : option_and_then (λ place. slice_get nets place) (get same_key places q) ≡ find (λ net. list_any (same_pin (pin_of_key q)) net.pins) nets
  in_all = all.is q a ∙ ap (find (λ (net : Net). list_any (same_pin (pin_of_key q)) net.pins)) (take_all (length nets) nets (omega arith))

  pub pin_at : (place : ℕ) → get same_key places q ≡ Some place → slice_get nets place ≡ find (λ net. list_any (same_pin (pin_of_key q)) net.pins) nets
  pin_at place there = sym (ap (option_and_then (λ place. slice_get nets place)) there) ∙ in_all

  pub pin_nowhere : get same_key places q ≡ None → None ≡ find (λ net. list_any (same_pin (pin_of_key q)) net.pins) nets
  pin_nowhere there = sym (ap (option_and_then (λ place. slice_get nets place)) there) ∙ in_all
