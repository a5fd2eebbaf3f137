-- The strings that a made STIL gives to its chains.
use Rattle.std.proofs.Common.{◌≡◌, ℕ, zero, suc, ◌+◌, ◌*◌, ◌%◌, ◌≤◌, Bool, true, false, cond, max, List, [], ◌∷◌, ◌++◌, length, refl, ap, ◌∙◌, codes, length-append, arith}
use Rattle.std.specs.Prelude.{nat_lt, nat_eq}
use Rattle.std.specs.List.{list_all}
use Rattle.std.proofs.lemmas.Bool.Decides.{nat_tests}
use Rattle.std.proofs.lemmas.Bool.{and_parts}
use Rattle.stil_types.specs.Calls.{is_expectation}
use Rattle.stil_calls.specs.declared.repeats.Repeat.{Repeat}
use Rattle.stil_calls.specs.declared.repeats.Escape.TheVariants.{Outside}
use Rattle.stil_calls.specs.declared.repeats.Side.{Side}
use Rattle.stil_calls.specs.declared.repeats.Side.TheVariants.{Load, Compare}
use Rattle.stil_calls.specs.Repeats.{repeat, repeats_from, whole_from, repeats_of, singly, is_character, is_sound, count_of, reach_from, written}
use Rattle.design_maker.specs.Pieces.{pieces}
use Rattle.design_maker.specs.MadeStil.{load_character, compare_character}
use Rattle.made_law.proofs.patterns.Plain.{is_letter, letter_apart}

-- data as the items have them
abbrev pub with_blank : List ℕ → List ℕ
with_blank w = w ++ 32 ∷ []

-- what is known of the string of a chain of so many bits
pub record IsString (side : Side) (w : List ℕ) (m : ℕ) : Type 0 where
  pub letters : list_all is_letter w ≡ true
  pub count : length w ≡ m
  pub sound : is_sound side (with_blank w) ≡ true
  pub given : count_of (repeats_of (with_blank w)) ≡ m
  pub reach : nat_lt m (reach_from 0 (repeats_of (with_blank w))) ≡ false
  pub same : written (repeats_of (with_blank w)) ≡ w

repeats_are : (w : List ℕ) → list_all is_letter w ≡ true → repeats_of (with_blank w) ≡ singly w
unfolding repeats_from
repeats_are [] all = refl
repeats_are (b ∷ bs) all =
    let h = and_parts (is_letter b) (list_all is_letter bs) all in
    rw (letter_apart b 32 h.0 refl, letter_apart b 92 h.0 refl) (ap (λ (l : List Repeat). repeat 1 b ∷ l) (repeats_are bs h.1))

whole_is : (w : List ℕ) → list_all is_letter w ≡ true → whole_from Outside (with_blank w) ≡ true
unfolding whole_from
whole_is [] all = refl
whole_is (b ∷ bs) all = let h = and_parts (is_letter b) (list_all is_letter bs) all in rw (whole_from, letter_apart b 92 h.0 refl) (whole_is bs h.1)

singly_all : (side : Side) (w : List ℕ) → list_all (is_character side) w ≡ true → list_all (λ (r : Repeat). is_character side r.character) (singly w) ≡ true
singly_all side [] all = refl
singly_all side (b ∷ bs) all = let h = and_parts (is_character side b) (list_all (is_character side) bs) all in rw h.0 (singly_all side bs h.1)

singly_count : (w : List ℕ) → count_of (singly w) ≡ length w
singly_count [] = refl
singly_count (b ∷ bs) = let more = singly_count bs in omega (arith, more)

singly_written : (w : List ℕ) → written (singly w) ≡ w
singly_written [] = refl
singly_written (b ∷ bs) = ap (λ (l : List ℕ). b ∷ l) (singly_written bs)

singly_reach : (before : ℕ) (w : List ℕ) → reach_from before (singly w) ≤ before + length w
singly_reach before [] = omega arith
singly_reach before (b ∷ bs) =
    let more = singly_reach (before + 1) bs in
    by (is_expectation b) (reach_from (before + 1) (singly bs)) more
  where
    by : (t : Bool) (r : ℕ) → r ≤ (before + 1) + length bs → max (cond t (before + 1) 0) r ≤ before + length (b ∷ bs)
    by true r le = omega (arith, le)
    by false r le = omega (arith, le)

string_of : (side : Side) (w : List ℕ) (m : ℕ) → list_all (is_character side) w ≡ true → list_all is_letter w ≡ true → length w ≡ m → IsString side w m
string_of side w m all letters count =
    let rs = repeats_are w letters in
    let reach : nat_lt m (reach_from 0 (singly w)) ≡ false = let le = singly_reach 0 w in grind (arith, nat_tests) in
    record {
      letters = letters;
      count = count;
      sound = rw (whole_is w letters, rs, singly_all side w all) refl;
      given = ap count_of rs ∙ singly_count w ∙ count;
      reach = rw rs reach;
      same = ap written rs ∙ singly_written w;
    }

all_append : (test : ℕ → Bool) (u v : List ℕ) → list_all test u ≡ true → list_all test v ≡ true → list_all test (u ++ v) ≡ true
all_append test [] v a b = b
all_append test (x ∷ xs) v a b = let h = and_parts (test x) (list_all test xs) a in rw h.0 (all_append test xs v h.1 b)

pieces_all : (test : ℕ → Bool) (piece : ℕ → List ℕ) → ((i : ℕ) → list_all test (piece i) ≡ true) → (m : ℕ) → list_all test (pieces piece m) ≡ true
unfolding pieces
pieces_all test piece law zero = refl
pieces_all test piece law (suc m) = all_append test (pieces piece m) (piece m) (pieces_all test piece law m) (law m)

pieces_count : (piece : ℕ → List ℕ) → ((i : ℕ) → length (piece i) ≡ 1) → (m : ℕ) → length (pieces piece m) ≡ m
unfolding pieces
pieces_count piece law zero = refl
pieces_count piece law (suc m) = let more = pieces_count piece law m in let one = law m in length-append (pieces piece m) (piece m) ∙ omega (arith, more, one)

one_of_two : (P : List ℕ → Type 0) (t : Bool) (a b : List ℕ) → P a → P b → P (cond t a b)
one_of_two P true a b p q = p
one_of_two P false a b p q = q

pub load_is : (r k m : ℕ) → IsString Load (pieces (load_character r k) m) m
load_is r k m =
    let each = λ (test : ℕ → Bool) (p : list_all test (codes "1") ≡ true) (q : list_all test (codes "0") ≡ true) (i : ℕ).
    one_of_two (λ w. list_all test w ≡ true) (nat_lt ((k + 3 * i + 5 * r) % 7) 3) (codes "1") (codes "0") p q
    in
    string_of Load (pieces (load_character r k) m) m
    (pieces_all (is_character Load) (load_character r k) (each (is_character Load) refl refl) m)
    (pieces_all is_letter (load_character r k) (each is_letter refl refl) m)
    (pieces_count (load_character r k) (λ i. one_of_two (λ w. length w ≡ 1) (nat_lt ((k + 3 * i + 5 * r) % 7) 3) (codes "1") (codes "0") refl refl) m)

one_of_three : (P : List ℕ → Type 0) (t u : Bool) (a b c : List ℕ) → P a → P b → P c → P (cond t a (cond u b c))
one_of_three P true u a b c p q s = p
one_of_three P false true a b c p q s = q
one_of_three P false false a b c p q s = s

pub compare_is : (r k m : ℕ) → IsString Compare (pieces (compare_character r k) m) m
compare_is r k m =
    let rest = λ (i : ℕ). (k + 2 * i + r) % 5 in
    let each = λ (test : ℕ → Bool) (p : list_all test (codes "L") ≡ true) (q : list_all test (codes "H") ≡ true) (s : list_all test (codes "X") ≡ true) (i : ℕ).
    one_of_three (λ w. list_all test w ≡ true) (nat_eq (rest i) 0) (nat_eq (rest i) 1) (codes "L") (codes "H") (codes "X") p q s
    in
    string_of Compare (pieces (compare_character r k) m) m
    (pieces_all (is_character Compare) (compare_character r k) (each (is_character Compare) refl refl refl) m)
    (pieces_all is_letter (compare_character r k) (each is_letter refl refl refl) m)
    (pieces_count (compare_character r k) (λ i. one_of_three (λ w. length w ≡ 1) (nat_eq (rest i) 0) (nat_eq (rest i) 1) (codes "L") (codes "H") (codes "X") refl refl refl) m)
