-- The test for names that stand twice, case by case.
use Rattle.std.proofs.Common.{◌≡◌, ℕ, if◌then◌else◌, ◌+◌, ◌<◌, ◌⊎◌, inl, inr, Bool, true, false, ◌||◌, List, [], ◌∷◌, ◌++◌, length, map, get_or, Option, Some, None, refl, sym, ap, ◌∙◌, subst, append_assoc, arith}
use Rattle.std.specs.List.{list_any, find, Contains}
use Rattle.std.specs.Str.{bytes_eq}
use Rattle.std.proofs.lemmas.Bool.{not-true, or_cases, or_left, or_right}
use Rattle.std.proofs.lemmas.List.{append-nil}
use Rattle.std.proofs.lemmas.List.Elements.{Contains-append_right}
use Rattle.std.proofs.lemmas.List.Folds.{list_any_at}
use Rattle.base_types.proofs.TruthValues.{bytes_are, bytes_same}
use Rattle.verilog_syntax.specs.declared.reading.Placed.{Placed}
use Rattle.verilog_names.specs.declared.bounds.Bounds.{Bounds}
use Rattle.verilog_names.specs.Values.{bit_name}
use Rattle.verilog_names.specs.Declarations.{indexes, Declaration, declarations_in, declarations, is_named, first_of, bounds_or_none, bounds_in, ports_in, has}
use Rattle.verilog_checks.specs.Faults.{may_stand_again, instances_named, instance_names, pins_in, scalars_in, scalars, HasTwice, HasBit, IsTwice, SameHeaderPort, DeclaredAgain, SameInstance, SamePin, ScalarIsBit, BitIsScalar}
use Rattle.verilog_checks.specs.Checks.{has_twice, stands_again, any_again, has_bit_in, are_bits, have_bits, bad_twice}
use Rattle.verilog_checks.specs.CheckLaws.{TestLaw}
use Rattle.verilog_checks.proofs.AnyLemmas.{any_map}

-- a member that passes a test
any_from : {X : Type 0} (f : X → Bool) (xs : List X) → list_any f xs ≡ true → (x : X) × Contains xs x × (f x ≡ true)
any_from f [] h = absurd cc
any_from f (x ∷ xs) h =
    let cases : (t : Bool) → f x ≡ t → (t || list_any f xs) ≡ true → (y : _) × Contains (x ∷ xs) y × (f y ≡ true)
    = λ t. elim t as (λ t. f x ≡ t → (t || list_any f xs) ≡ true → (y : _) × Contains (x ∷ xs) y × (f y ≡ true)) [
      | true ↦ λ e k. (x, (0, omega arith, refl), e)
      | false ↦ λ e k. let r = any_from f xs k in (r.0, Contains-append_right (x ∷ []) xs r.0 r.1, r.2)
    ]
    in cases (f x) refl h

any_with : {X : Type 0} (f : X → Bool) (xs : List X) (x : X) → Contains xs x → f x ≡ true → list_any f xs ≡ true
any_with f xs x c h = list_any_at f xs c.0 x c.1 (ap f c.2 ∙ h)

has_from : (names : List (List ℕ)) (name : List ℕ) → has names name ≡ true → Contains names name
has_from names name h =
    let r = any_from (λ (other : List ℕ). bytes_eq other name) names h in
    subst (Contains names) (bytes_are r.0 name r.2) r.1

has_with : (names : List (List ℕ)) (name : List ℕ) → Contains names name → has names name ≡ true
has_with names name c = any_with (λ (other : List ℕ). bytes_eq other name) names name c (bytes_same name name refl)

-- names that stand twice
twice_from : (names : List (List ℕ)) → has_twice names ≡ true → HasTwice names
twice_from [] h = absurd cc
twice_from (name ∷ names) h =
    elim (or_cases (has names name) (has_twice names) h) [
      | inl here ↦ record { front = []; name = name; behind = names; is = refl; again = has_from names name here }
      | inr there ↦ let r = twice_from names there in record { front = name ∷ r.front; name = r.name; behind = r.behind; is = ap (λ (l : List (List ℕ)). name ∷ l) r.is; again = r.again }
    ]

twice_behind : (front : List (List ℕ)) (name : List ℕ) (behind : List (List ℕ)) → Contains behind name → has_twice (front ++ name ∷ behind) ≡ true
twice_behind [] name behind c = or_left (has behind name) (has_twice behind) (has_with behind name c)
twice_behind (f ∷ front) name behind c = or_right (has (front ++ name ∷ behind) f) (has_twice (front ++ name ∷ behind)) (twice_behind front name behind c)

twice_with : (names : List (List ℕ)) → HasTwice names → has_twice names ≡ true
twice_with names t = ap has_twice t.is ∙ twice_behind t.front t.name t.behind t.again

-- a name that is declared again
record IsAgain (before ds : List Declaration) : Type 0 where
  front : List Declaration
  behind : List Declaration
  old : Declaration
  new : Declaration
  is : ds ≡ front ++ new ∷ behind
  known : first_of new.name (before ++ front) ≡ Some old
  bad : may_stand_again old new ≡ false

again_here : (before ds : List Declaration) (d : Declaration) (o : Option Declaration) → first_of d.name before ≡ o → stands_again o d ≡ true → IsAgain before (d ∷ ds)
again_here before ds d None e h = absurd cc
again_here before ds d (Some old) e h =
    record { front = []; behind = ds; old = old; new = d; is = refl; known = ap (first_of d.name) (append-nil before) ∙ e; bad = not-true (may_stand_again old d) h }

again_from : (before ds : List Declaration) → any_again before ds ≡ true → IsAgain before ds
unfolding any_again
again_from before [] h = absurd cc
again_from before (d ∷ ds) h =
    elim (or_cases (stands_again (first_of d.name before) d) (any_again (before ++ d ∷ []) ds) h) [
      | inl here ↦ again_here before ds d (first_of d.name before) refl here
      | inr there ↦
          let r = again_from (before ++ d ∷ []) ds there in
          record {
            front = d ∷ r.front;
            behind = r.behind;
            old = r.old;
            new = r.new;
            is = ap (λ (l : List Declaration). d ∷ l) r.is;
            known = ap (first_of r.new.name) (sym (append_assoc before (d ∷ []) r.front)) ∙ r.known;
            bad = r.bad;
          }
    ]

again_behind : (before front behind : List Declaration) (old new : Declaration) → first_of new.name (before ++ front) ≡ Some old → may_stand_again old new ≡ false → any_again before (front ++ new ∷ behind) ≡ true
unfolding any_again
again_behind before [] behind old new known bad =
    let first : first_of new.name before ≡ Some old = ap (first_of new.name) (sym (append-nil before)) ∙ known in
    or_left (stands_again (first_of new.name before) new) (any_again (before ++ new ∷ []) behind) (rw (first, bad) refl)
again_behind before (d ∷ front) behind old new known bad =
    or_right (stands_again (first_of d.name before) d) (any_again (before ++ d ∷ []) (front ++ new ∷ behind))
    (again_behind (before ++ d ∷ []) front behind old new (ap (first_of new.name) (append_assoc before (d ∷ []) front) ∙ known) bad)

-- the bits of a vector
bit_from : (d : Declaration) (o : Option Bounds) (name : List ℕ) → d.bounds ≡ o → has_bit_in d.name o name ≡ true → HasBit d name
bit_from d None name e h = absurd cc
bit_from d (Some b) name e h =
    record { bounds = b; vector = e; bit = has_from (map (bit_name d.name) (indexes b)) name (any_map (λ (other : List ℕ). bytes_eq other name) (bit_name d.name) (indexes b) ∙ h) }

bit_with : (d : Declaration) (name : List ℕ) → HasBit d name → has_bit_in d.name d.bounds name ≡ true
bit_with d name h =
    ap (λ (o : Option Bounds). has_bit_in d.name o name) h.vector
    ∙ sym (any_map (λ (other : List ℕ). bytes_eq other name) (bit_name d.name) (indexes h.bounds)) ∙ has_with (map (bit_name d.name) (indexes h.bounds)) name h.bit

-- what is found passes the test, and is there
found_in : {X : Type 0} (f : X → Bool) (xs : List X) (x : X) → find f xs ≡ Some x → Contains xs x × (f x ≡ true)
found_in f [] x h = absurd cc
found_in f (y ∷ ys) x h =
    let cases : (t : Bool) → f y ≡ t → (if t then Some y else find f ys) ≡ Some x → Contains (y ∷ ys) x × (f x ≡ true)
    = λ t. elim t as (λ t. f y ≡ t → (if t then Some y else find f ys) ≡ Some x → Contains (y ∷ ys) x × (f x ≡ true)) [
      | true ↦ λ e k. let same : y ≡ x = cc in ((0, omega arith, same), ap f (sym same) ∙ e)
      | false ↦ λ e k. let r = found_in f ys x k in (Contains-append_right (y ∷ []) ys x r.0, r.1)
    ]
    in cases (f y) refl h

-- a scalar net that is a bit of a vector before it
record IsBitBefore (ds : List Declaration) (names : List (List ℕ)) : Type 0 where
  name : List ℕ
  vector : Declaration
  among : Contains names name
  first : first_of vector.name ds ≡ Some vector
  bit : HasBit vector name

first_bit : (ds : List Declaration) (names : List (List ℕ)) (q name : List ℕ) (o : Option Declaration) → first_of q ds ≡ o → Contains names name → has_bit_in q (bounds_or_none o) name ≡ true → IsBitBefore ds names
first_bit ds names q name None e among h = absurd cc
first_bit ds names q name (Some v) e among h =
    let same : v.name ≡ q = bytes_are v.name q (found_in (is_named q) ds v e).1 in
    record {
      name = name;
      vector = v;
      among = among;
      first = ap (λ (n : List ℕ). first_of n ds) same ∙ e;
      bit = bit_from v v.bounds name refl (ap (λ (n : List ℕ). has_bit_in n v.bounds name) same ∙ h);
    }

bits_from : (ds : List Declaration) (names : List (List ℕ)) → are_bits ds names ≡ true → IsBitBefore ds names
bits_from ds names h =
    let r = any_from (λ (d : Declaration). list_any (has_bit_in d.name (bounds_in ds d.name)) names) ds h in
    let s = any_from (has_bit_in r.0.name (bounds_in ds r.0.name)) names r.2 in
    first_bit ds names r.0.name s.0 (first_of r.0.name ds) refl s.1 s.2

bits_with : (ds : List Declaration) (names : List (List ℕ)) (name : List ℕ) (d : Declaration) → Contains names name → first_of d.name ds ≡ Some d → HasBit d name → are_bits ds names ≡ true
bits_with ds names name d among first bit =
    any_with (λ (d : Declaration). list_any (has_bit_in d.name (bounds_in ds d.name)) names) ds d (found_in (is_named d.name) ds d first).0
    (any_with (has_bit_in d.name (bounds_in ds d.name)) names name among (ap (λ (o : Option Declaration). has_bit_in d.name (bounds_or_none o) name) first ∙ bit_with d name bit))

-- the cases
module _ (all before : List Placed) (p : Placed) where
  abbrev now : List Declaration
  now = declarations_in p.statement

  abbrev nets : List (List ℕ)
  nets = scalars_in (declarations all) p.statement

  abbrev so_far : List (List ℕ)
  so_far = scalars (declarations all) before

  abbrev Twice : Type 0
  Twice = IsTwice all before p

  port_case : has_twice (ports_in p.statement) ≡ true → Twice
  port_case h = SameHeaderPort (twice_from (ports_in p.statement) h)

  again_case : any_again (declarations before) now ≡ true → Twice
  again_case h = let r = again_from (declarations before) now h in DeclaredAgain r.front r.behind r.old r.new r.is r.known r.bad

  instance_case : list_any (has (instance_names before)) (instances_named p.statement) ≡ true → Twice
  instance_case h = let r = any_from (has (instance_names before)) (instances_named p.statement) h in SameInstance r.0 r.1 (has_from (instance_names before) r.0 r.2)

  pin_case : has_twice (pins_in p.statement) ≡ true → Twice
  pin_case h = SamePin (twice_from (pins_in p.statement) h)

  scalar_case : are_bits (declarations before) nets ≡ true → Twice
  scalar_case h = let r = bits_from (declarations before) nets h in ScalarIsBit r.name r.vector r.among r.first r.bit

  vector_case : have_bits now so_far ≡ true → Twice
  vector_case h =
      let r = any_from (λ (d : Declaration). list_any (has_bit_in d.name d.bounds) so_far) now h in
      let s = any_from (has_bit_in r.0.name r.0.bounds) so_far r.2 in
      BitIsScalar s.0 r.0 s.1 r.1 (bit_from r.0 r.0.bounds s.0 refl s.2)

  -- what the test joins, from the left
  abbrev two : Bool
  two = has_twice (ports_in p.statement) || any_again (declarations before) now

  abbrev three : Bool
  three = two || list_any (has (instance_names before)) (instances_named p.statement)

  abbrev four : Bool
  four = three || has_twice (pins_in p.statement)

  abbrev five : Bool
  five = four || are_bits (declarations before) nets

  from_two : two ≡ true → Twice
  from_two h = elim (or_cases (has_twice (ports_in p.statement)) (any_again (declarations before) now) h) [ inl a ↦ port_case a | inr b ↦ again_case b ]

  from_three : three ≡ true → Twice
  from_three h = elim (or_cases two (list_any (has (instance_names before)) (instances_named p.statement)) h) [ inl a ↦ from_two a | inr b ↦ instance_case b ]

  from_four : four ≡ true → Twice
  from_four h = elim (or_cases three (has_twice (pins_in p.statement)) h) [ inl a ↦ from_three a | inr b ↦ pin_case b ]

  from_five : five ≡ true → Twice
  from_five h = elim (or_cases four (are_bits (declarations before) nets) h) [ inl a ↦ from_four a | inr b ↦ scalar_case b ]

  is_twice : bad_twice all before p ≡ true → Twice
  unfolding bad_twice
  is_twice h = elim (or_cases five (have_bits now so_far) h) [ inl a ↦ from_five a | inr b ↦ vector_case b ]

  to_five : five ≡ true → (five || have_bits now so_far) ≡ true
  to_five h = or_left five (have_bits now so_far) h

  to_four : four ≡ true → (five || have_bits now so_far) ≡ true
  to_four h = to_five (or_left four (are_bits (declarations before) nets) h)

  to_three : three ≡ true → (five || have_bits now so_far) ≡ true
  to_three h = to_four (or_left three (has_twice (pins_in p.statement)) h)

  to_two : two ≡ true → (five || have_bits now so_far) ≡ true
  to_two h = to_three (or_left two (list_any (has (instance_names before)) (instances_named p.statement)) h)

  is_bad : Twice → bad_twice all before p ≡ true
  unfolding bad_twice
  is_bad (SameHeaderPort t) = to_two (or_left (has_twice (ports_in p.statement)) (any_again (declarations before) now) (twice_with (ports_in p.statement) t))
  is_bad (DeclaredAgain front behind old new is known bad) =
      to_two (or_right (has_twice (ports_in p.statement)) (any_again (declarations before) now) (ap (any_again (declarations before)) is ∙ again_behind (declarations before) front behind old new known bad))
  is_bad (SameInstance name here there) =
      to_three (or_right two (list_any (has (instance_names before)) (instances_named p.statement))
      (any_with (has (instance_names before)) (instances_named p.statement) name here (has_with (instance_names before) name there)))
  is_bad (SamePin t) = to_four (or_right three (has_twice (pins_in p.statement)) (twice_with (pins_in p.statement) t))
  is_bad (ScalarIsBit name d among first bit) = to_five (or_right four (are_bits (declarations before) nets) (bits_with (declarations before) nets name d among first bit))
  is_bad (BitIsScalar name d among declared bit) =
      or_right five (have_bits now so_far)
      (any_with (λ (d : Declaration). list_any (has_bit_in d.name d.bounds) so_far) now d declared (any_with (has_bit_in d.name d.bounds) so_far name among (bit_with d name bit)))

pub test_law : TestLaw
test_law all before p = (is_twice all before p, is_bad all before p)
