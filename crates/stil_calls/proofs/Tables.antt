-- What is given to the chains, in two lists, is what each of them is given.
use Rattle.std.proofs.Common.{◌≡◌, ◌<◌, ◌≤◌, ℕ, zero, suc, ◌+◌, ◌-◌, ◌^◌, Bool, true, false, ◌||◌, nat_lt, cond, min, max, List, [], ◌∷◌, length, map, get_or, Option, Some, None, Bor, refl, sym, ap, ◌∙◌, arith}
use Rattle.std.specs.Prelude.{option_copied}
use Rattle.std.specs.List.{list_any}
use Rattle.std.specs.Str.{bytes_eq}
use Rattle.std.proofs.lemmas.List.{length-map}
use Rattle.std.proofs.lemmas.Bool.{or_parts, or_left, false≢true, false_from_ne_true, ltb-true}
use Rattle.std.proofs.lemmas.Slice.Eq.{bytes_eq-Decides}
use Rattle.std.proofs.lemmas.List.Folds.{list_any_at}
use Rattle.stil_types.specs.declared.head.ScanChainDecl.{ScanChainDecl}
use Rattle.stil_syntax.specs.declared.item.Item.{Item}
use Rattle.stil_calls.specs.declared.repeats.Side.{Side}
use Rattle.stil_calls.specs.declared.repeats.Side.TheVariants.{Load, Compare}
use Rattle.stil_types.specs.Calls.{is_expectation}
use Rattle.stil_calls.specs.declared.repeats.Repeat.{Repeat}
use Rattle.stil_calls.specs.Repeats.{repeats_of, count_of, reach_from}
use Rattle.stil_calls.specs.Scans.{has_name, gives_twice, data_for, given, is_unsound, has_unsound, count_in, reach_in, shifts_in, is_long, written_in, strings_of}
use Rattle.stil_calls.specs.Given.{data_of, longest_in, reach_beyond, AreGiven}

-- an item that has a name is the only one
same_name : (a b c : List ℕ) → bytes_eq a c ≡ true → bytes_eq b c ≡ true → bytes_eq b a ≡ true
same_name a b c e f = (bytes_eq-Decides b a).1 ((bytes_eq-Decides b c).0 f ∙ sym ((bytes_eq-Decides a c).0 e))

found_by : (t : Bool) (j i : Item) (js : List Item) (name : List ℕ) → bytes_eq j.name name ≡ t → (t ≡ true → ⊥) → data_for js name ≡ Some i.data → cond t (Some j.data) (data_for js name) ≡ Some i.data
found_by true j i js name e never more = absurd (never refl)
found_by false j i js name e never more = more

pub found : (items : List Item) (name : List ℕ) (k : ℕ) (i : Item) → gives_twice items ≡ false → k < length items → i ≡ get_or items k i → bytes_eq i.name name ≡ true → Some i.data ≡ data_for items name
found [] name k i once l is e = absurd (omega arith)
found (j ∷ js) name zero i once l is e =
    let here : bytes_eq j.name name ≡ true = ap (λ (x : Item). bytes_eq x.name name) (sym is) ∙ e in
    ap (λ (x : Item). Some x.data) is ∙ sym (ap (λ (t : Bool). cond t (Some j.data) (data_for js name)) here)
found (j ∷ js) name (suc k) i once l is e =
    let parts = or_parts (has_name js j.name) (gives_twice js) once in
    let other : bytes_eq j.name name ≡ true → ⊥ = λ f. false≢true (sym (parts.0) ∙ list_any_at (λ (x : Item). bytes_eq x.name j.name) js k i (omega arith) (ap (λ (x : Item). bytes_eq x.name j.name) (sym is) ∙ same_name j.name i.name name f e)) in
    sym (found_by (bytes_eq j.name name) j i js name refl other (sym (found js name k i (parts.1) (omega arith) is e)))

-- unsound data
unsound_through : (side : Side) (ds : List (Option (Bor (List ℕ)))) → list_any (λ d. is_unsound side (option_copied d)) ds ≡ list_any (λ d. is_unsound side d) (data_of ds)
unsound_through side [] = refl
unsound_through side (d ∷ ds) = ap (λ (b : Bool). is_unsound side (option_copied d) || b) (unsound_through side ds)

or_four : (a b x y r : Bool) → (x || y) ≡ r → ((a || x) || (b || y)) ≡ ((a || b) || r)
or_four true b x y r e = refl
or_four false true true y r e = refl
or_four false true false y r e = refl
or_four false false x y r e = e

unsound_both : (chains : List ScanChainDecl) (items : List Item) → (list_any (λ d. is_unsound Load d) (map (given Load items) chains) || list_any (λ d. is_unsound Compare d) (map (given Compare items) chains)) ≡ has_unsound chains items
unsound_both [] items = refl
unsound_both (c ∷ cs) items =
    or_four (is_unsound Load (given Load items c)) (is_unsound Compare (given Compare items c)) (list_any (λ d. is_unsound Load d) (map (given Load items) cs)) (list_any (λ d. is_unsound Compare d) (map (given Compare items) cs)) (has_unsound cs items)
    (unsound_both cs items)

unsound_on : (side : Side) (chains : List ScanChainDecl) (items : List Item) (ds : List (Option (Bor (List ℕ)))) → data_of ds ≡ map (given side items) chains → list_any (λ d. is_unsound side (option_copied d)) ds ≡ list_any (λ d. is_unsound side d) (map (given side items) chains)
unsound_on side chains items ds e = unsound_through side ds ∙ ap (λ (xs : List (Option (List ℕ))). list_any (λ d. is_unsound side d) xs) e

unsound_is : (chains : List ScanChainDecl) (items : List Item) (loads compares : List (Option (Bor (List ℕ)))) → AreGiven chains items loads compares
    → (list_any (λ d. is_unsound Load (option_copied d)) loads || list_any (λ d. is_unsound Compare (option_copied d)) compares) ≡ has_unsound chains items
unsound_is chains items loads compares a =
    let load = unsound_on Load chains items loads a.loads in
    let compare = unsound_on Compare chains items compares a.compares in
    ap (λ (b : Bool). b || list_any (λ d. is_unsound Compare (option_copied d)) compares) load
    ∙ ap (λ (b : Bool). list_any (λ d. is_unsound Load d) (map (given Load items) chains) || b) compare
    ∙ unsound_both chains items

or_skip : (x y : Bool) → x ≡ false → (x || y) ≡ y
or_skip true y e = absurd (false≢true (sym e))
or_skip false y e = refl

module _ (chains : List ScanChainDecl) (items : List Item) (loads compares : List (Option (Bor (List ℕ)))) (a : AreGiven chains items loads compares) where
  pub unsound_first : list_any (λ d. is_unsound Load (option_copied d)) loads ≡ true → has_unsound chains items ≡ true
  unsound_first e = sym (unsound_is chains items loads compares a) ∙ or_left (list_any (λ d. is_unsound Load (option_copied d)) loads) (list_any (λ d. is_unsound Compare (option_copied d)) compares) e

  pub unsound_rest : list_any (λ d. is_unsound Load (option_copied d)) loads ≡ false → has_unsound chains items ≡ list_any (λ d. is_unsound Compare (option_copied d)) compares
  unsound_rest e = sym (unsound_is chains items loads compares a) ∙ or_skip (list_any (λ d. is_unsound Load (option_copied d)) loads) (list_any (λ d. is_unsound Compare (option_copied d)) compares) e

-- lengths
four : (a b c d r : ℕ) → max c d ≡ r → max (max a c) (max b d) ≡ max (max a b) r
four a b c d r e = omega arith

longest_both : (chains : List ScanChainDecl) (items : List Item) → max (longest_in (map (given Load items) chains)) (longest_in (map (given Compare items) chains)) ≡ shifts_in chains items
longest_both [] items = refl
longest_both (c ∷ cs) items =
    four (count_in (given Load items c)) (count_in (given Compare items c)) (longest_in (map (given Load items) cs)) (longest_in (map (given Compare items) cs)) (shifts_in cs items) (longest_both cs items)

capped : (m a b x y r : ℕ) → x ≡ min a m → y ≡ min b m → max a b ≡ r → max x y ≡ min r m
capped m a b x y r e f g = omega arith

pub shifts_are : (chains : List ScanChainDecl) (items : List Item) (loads compares : List (Option (Bor (List ℕ)))) (x y : ℕ) → AreGiven chains items loads compares
    → x ≡ min (longest_in (data_of loads)) (2 ^ 64 - 1) → y ≡ min (longest_in (data_of compares)) (2 ^ 64 - 1) → max x y ≡ min (shifts_in chains items) (2 ^ 64 - 1)
shifts_are chains items loads compares x y a e f =
    capped (2 ^ 64 - 1) (longest_in (map (given Load items) chains)) (longest_in (map (given Compare items) chains)) x y (shifts_in chains items)
    (e ∙ ap (λ (ds : List (Option (List ℕ))). min (longest_in ds) (2 ^ 64 - 1)) a.loads)
    (f ∙ ap (λ (ds : List (Option (List ℕ))). min (longest_in ds) (2 ^ 64 - 1)) a.compares)
    (longest_both chains items)

-- compares that reach too far
within_by : (t : Bool) (before times more all : ℕ) → more ≤ before + times + all → max (cond t (before + times) 0) more ≤ before + (times + all)
within_by true before times more all le = omega arith
within_by false before times more all le = omega arith

reach_within : (before : ℕ) (rs : List Repeat) → reach_from before rs ≤ before + count_of rs
reach_within before [] = omega arith
reach_within before (r ∷ rs) = within_by (is_expectation r.character) before r.times (reach_from (before + r.times) rs) (count_of rs) (reach_within (before + r.times) rs)

given_within : (d : Option (List ℕ)) → reach_in d ≤ count_in d
given_within None = omega arith
given_within (Some bytes) = omega (arith, reach_within 0 (repeats_of bytes))

pub not_beyond : (x bits most : ℕ) (d : Option (List ℕ)) → x ≡ bits → bits < 2 ^ 32 → min (count_in d) (2 ^ 64 - 1) ≤ most → most ≤ x → nat_lt x most ≡ nat_lt bits (reach_in d)
not_beyond x bits most d same small le least =
    let no_more : nat_lt x most ≡ false = false_from_ne_true (nat_lt x most) (λ e. absurd (omega (arith, ltb-true x most e))) in
    let within : nat_lt bits (reach_in d) ≡ false = false_from_ne_true (nat_lt bits (reach_in d)) (λ e. absurd (omega (arith, given_within d, ltb-true bits (reach_in d) e))) in
    no_more ∙ sym within

pub longest_within : (chains : List ScanChainDecl) (items : List Item) (loads compares : List (Option (Bor (List ℕ)))) (shifts : ℕ) → AreGiven chains items loads compares → shifts ≡ min (shifts_in chains items) (2 ^ 64 - 1)
    → min (longest_in (data_of compares)) (2 ^ 64 - 1) ≤ shifts
longest_within chains items loads compares shifts a e =
    let both = longest_both chains items in
    let same : longest_in (data_of compares) ≡ longest_in (map (given Compare items) chains) = ap longest_in a.compares in
    omega (arith, both, same, e)

beyond_each : (chains : List ScanChainDecl) (items : List Item) → reach_beyond chains (map (given Compare items) chains) ≡ is_long chains items
beyond_each [] items = refl
beyond_each (c ∷ cs) items = ap (λ (b : Bool). nat_lt c.length (reach_in (given Compare items c)) || b) (beyond_each cs items)

pub beyond_is : (chains : List ScanChainDecl) (items : List Item) (loads compares : List (Option (Bor (List ℕ)))) → AreGiven chains items loads compares → reach_beyond chains (data_of compares) ≡ is_long chains items
beyond_is chains items loads compares a = ap (λ (ds : List (Option (List ℕ))). reach_beyond chains ds) a.compares ∙ beyond_each chains items

pub same_length : (chains : List ScanChainDecl) (items : List Item) (loads compares : List (Option (Bor (List ℕ)))) → AreGiven chains items loads compares → length compares ≡ length chains
same_length chains items loads compares a =
    sym (length-map compares (λ (d : Option (Bor (List ℕ))). option_copied d)) ∙ ap length a.compares ∙ length-map chains (given Compare items)

-- the strings
written_through : (ds : List (Option (Bor (List ℕ)))) → map (λ d. written_in (option_copied d)) ds ≡ map (λ d. written_in d) (data_of ds)
written_through [] = refl
written_through (d ∷ ds) = ap (λ (xs : List (Option (List ℕ))). written_in (option_copied d) ∷ xs) (written_through ds)

written_each : (side : Side) (chains : List ScanChainDecl) (items : List Item) → map (λ d. written_in d) (map (given side items) chains) ≡ strings_of side chains items
written_each side [] items = refl
written_each side (c ∷ cs) items = ap (λ (xs : List (Option (List ℕ))). written_in (given side items c) ∷ xs) (written_each side cs items)

pub strings_are : (side : Side) (chains : List ScanChainDecl) (items : List Item) (ds : List (Option (Bor (List ℕ)))) → data_of ds ≡ map (given side items) chains → map (λ d. written_in (option_copied d)) ds ≡ strings_of side chains items
strings_are side chains items ds e =
    written_through ds ∙ ap (λ (xs : List (Option (List ℕ))). map (λ d. written_in d) xs) e ∙ written_each side chains items
