-- Bytes of data that stand for themselves.
use Rattle.std.proofs.Common.{◌≡◌, ◌<◌, ◌≤◌, ℕ, zero, suc, ◌+◌, ◌-◌, ◌^◌, Bool, true, false, ◌&&◌, ◌||◌, not, cond, min, max, List, [], ◌∷◌, ◌++◌, length, take, drop, get_or, replicate, Some, None, refl, sym, ap, ◌∙◌, append_assoc, subst, inl, inr, ◌⊎◌, arith}
use Rattle.std.specs.Prelude.{◌==◌}
use Rattle.std.specs.List.{list_all, list_any}
use Rattle.std.proofs.lemmas.Bool.{or_parts, or_cases, and_parts, and_from, not-true, both_ways, eqb-true, false≢true, false_from_ne_true}
use Rattle.std.proofs.lemmas.List.{append-nil, length-take-le}
use Rattle.memchr.specs.Find.{Nowhere, Passes, is_byte2}
use Rattle.lane_kernels.specs.Kernels.{is_allowed}
use Rattle.stil_types.specs.Calls.{is_expectation}
use Rattle.stil_calls.specs.declared.repeats.Repeat.{Repeat}
use Rattle.stil_calls.specs.declared.repeats.Escape.TheVariants.{Outside, Slash}
use Rattle.stil_calls.specs.declared.repeats.Side.{Side}
use Rattle.stil_calls.specs.declared.repeats.Side.TheVariants.{Load, Compare}
use Rattle.stil_calls.specs.Repeats.{repeat, put_first, repeats_from, whole_from, singly, alphabet, is_character, count_of, reach_from, written}
use Rattle.stil_calls.specs.Reaches.{Reaching}

-- a byte that is neither a blank nor a backslash is a repeat of its own
alone : (t u : Bool) (b : ℕ) (bs : List ℕ) → t ≡ false → u ≡ false → put_first (cond t None (Some (repeat 1 b))) (repeats_from (cond u Slash Outside) bs) ≡ repeat 1 b ∷ repeats_from Outside bs
alone true u b bs e f = absurd cc
alone false true b bs e f = absurd cc
alone false false b bs e f = refl

stays : (u : Bool) (bs : List ℕ) → u ≡ false → whole_from (cond u Slash Outside) bs ≡ whole_from Outside bs
stays true bs f = absurd cc
stays false bs f = refl

not_there : (b : ℕ) → ((b == 32 || b == 92) ≡ true → ⊥) → (b == 32 || b == 92) ≡ false
not_there b none = false_from_ne_true (b == 32 || b == 92) none

pub first_plain : (n : ℕ) (bs : List ℕ) → n ≤ length bs → Nowhere (Passes (is_byte2 32 92) bs) 0 n → repeats_from Outside bs ≡ singly (take n bs) ++ repeats_from Outside (drop n bs)
unfolding repeats_from
first_plain zero bs le none = refl
first_plain (suc n) [] le none = absurd (omega arith)
first_plain (suc n) (b ∷ bs) le none =
    let e : (b == 32 || b == 92) ≡ false = not_there b (none 0 (omega arith) (omega arith)) in
    alone (b == 32 || b == 92) (b == 92) b bs e ((or_parts (b == 32) (b == 92) e).1)
    ∙ ap (λ (rs : List Repeat). repeat 1 b ∷ rs) (first_plain n bs (omega arith) (λ k low high. none (suc k) (omega arith) (omega arith)))

pub first_whole : (n : ℕ) (bs : List ℕ) → n ≤ length bs → Nowhere (Passes (is_byte2 32 92) bs) 0 n → whole_from Outside bs ≡ whole_from Outside (drop n bs)
unfolding whole_from
first_whole zero bs le none = refl
first_whole (suc n) [] le none = absurd (omega arith)
first_whole (suc n) (b ∷ bs) le none =
    let e : (b == 32 || b == 92) ≡ false = not_there b (none 0 (omega arith) (omega arith)) in
    stays (b == 92) bs ((or_parts (b == 32) (b == 92) e).1) ∙ first_whole n bs (omega arith) (λ k low high. none (suc k) (omega arith) (omega arith))

-- what they come to
pub written_singly : (bs : List ℕ) (rs : List Repeat) → written (singly bs ++ rs) ≡ bs ++ written rs
written_singly [] rs = refl
written_singly (b ∷ bs) rs = ap (λ (cs : List ℕ). b ∷ cs) (written_singly bs rs)

-- one turn of the loop that writes them out
pub written_step : (t0 t1 t2 p : List ℕ) (r : Repeat) (rs0 rs1 rs2 : List Repeat) (w : List ℕ) → t0 ++ written rs0 ≡ w → rs0 ≡ r ∷ rs1 → rs1 ≡ singly p ++ rs2 → t1 ≡ t0 ++ replicate r.times r.character → t2 ≡ t1 ++ p → t2 ++ written rs2 ≡ w
written_step t0 t1 t2 p r rs0 rs1 rs2 w inv f0 f1 e1 e2 =
    ap (λ (x : List ℕ). x ++ written rs2) (e2 ∙ ap (λ (x : List ℕ). x ++ p) e1)
    ∙ append_assoc (t0 ++ replicate r.times r.character) p (written rs2)
    ∙ append_assoc t0 (replicate r.times r.character) (p ++ written rs2)
    ∙ ap (λ (x : List ℕ). t0 ++ (replicate r.times r.character ++ x)) (sym (written_singly p rs2))
    ∙ ap (λ (rs : List Repeat). t0 ++ (replicate r.times r.character ++ written rs)) (sym f1)
    ∙ ap (λ (rs : List Repeat). t0 ++ written rs) (sym f0)
    ∙ inv

pub count_singly : (bs : List ℕ) (rs : List Repeat) → count_of (singly bs ++ rs) ≡ length bs + count_of rs
count_singly [] rs = omega arith
count_singly (b ∷ bs) rs = let more = count_singly bs rs in omega arith

and_behind : (p x y z : Bool) → x ≡ (y && z) → (p && x) ≡ ((p && y) && z)
and_behind true x y z e = e
and_behind false x y z e = refl

sound_singly : (side : Side) (bs : List ℕ) (rs : List Repeat) → list_all (λ r. is_character side r.character) (singly bs ++ rs) ≡ (list_all (λ b. is_character side b) bs && list_all (λ r. is_character side r.character) rs)
sound_singly side [] rs = refl
sound_singly side (b ∷ bs) rs =
    and_behind (is_character side b) (list_all (λ r. is_character side r.character) (singly bs ++ rs)) (list_all (λ b. is_character side b) bs) (list_all (λ r. is_character side r.character) rs)
    (sound_singly side bs rs)

-- the alphabets: what passes a test at each of their characters
passes_by : (p : ℕ → Bool) (x b : ℕ) (xs : List ℕ) → list_all p (x ∷ xs) ≡ true → ((x == b) ≡ true) ⊎ (list_any (λ a. a == b) xs ≡ true) → (list_all p xs ≡ true → list_any (λ a. a == b) xs ≡ true → p b ≡ true) → p b ≡ true
passes_by p x b xs all (inl e) more = subst (λ (n : ℕ). p n ≡ true) (eqb-true x b e) ((and_parts (p x) (list_all p xs) all).0)
passes_by p x b xs all (inr e) more = more ((and_parts (p x) (list_all p xs) all).1) e

passes : (p : ℕ → Bool) (b : ℕ) (xs : List ℕ) → list_all p xs ≡ true → list_any (λ a. a == b) xs ≡ true → p b ≡ true
passes p b [] all e = absurd (false≢true e)
passes p b (x ∷ xs) all e = passes_by p x b xs all (or_cases (x == b) (list_any (λ a. a == b) xs) e) (passes p b xs)

alphabet_plain : (side : Side) → list_all (λ b. not (b == 32 || b == 92)) (alphabet side) ≡ true
alphabet_plain Load = refl
alphabet_plain Compare = refl

alphabet_sound : (side : Side) → list_all (λ b. is_character side b) (alphabet side) ≡ true
alphabet_sound Load = refl
alphabet_sound Compare = refl

plain_there : (side : Side) (b : ℕ) → is_allowed (alphabet side) b ≡ true → (b == 32 || b == 92) ≡ true → ⊥
plain_there side b e f = both_ways (b == 32 || b == 92) (not-true (b == 32 || b == 92) (passes (λ b. not (b == 32 || b == 92)) b (alphabet side) (alphabet_plain side) e)) f

taken_all : (test : ℕ → Bool) (n : ℕ) (bs : List ℕ) → n ≤ length bs → ((k : ℕ) → k < n → test (get_or bs k 0) ≡ true) → list_all test (take n bs) ≡ true
taken_all test zero bs le h = refl
taken_all test (suc n) [] le h = absurd (omega arith)
taken_all test (suc n) (b ∷ bs) le h = and_from (test b) (list_all test (take n bs)) (h 0 (omega arith)) (taken_all test n bs (omega arith) (λ k l. h (suc k) (omega arith)))

and_true : (x y z : Bool) → z ≡ (x && y) → x ≡ true → z ≡ y
and_true true y z e f = e
and_true false y z e f = absurd (false≢true f)

module _ (side : Side) (n : ℕ) (bs : List ℕ) (le : n ≤ length bs) (all : (k : ℕ) → k < n → is_allowed (alphabet side) (get_or bs k 0) ≡ true) where
  pub front_whole : whole_from Outside bs ≡ whole_from Outside (drop n bs)
  front_whole = first_whole n bs le (λ k low high. plain_there side (get_or bs k 0) (all k high))

  pub front_sound : list_all (λ r. is_character side r.character) (repeats_from Outside bs) ≡ list_all (λ r. is_character side r.character) (repeats_from Outside (drop n bs))
  front_sound =
      let split = first_plain n bs le (λ k low high. plain_there side (get_or bs k 0) (all k high)) in
      and_true (list_all (λ b. is_character side b) (take n bs)) (list_all (λ r. is_character side r.character) (repeats_from Outside (drop n bs))) (list_all (λ r. is_character side r.character) (repeats_from Outside bs))
      (ap (λ (rs : List Repeat). list_all (λ r. is_character side r.character) rs) split ∙ sound_singly side (take n bs) (repeats_from Outside (drop n bs)))
      (taken_all (λ b. is_character side b) n bs le (λ k l. passes (λ b. is_character side b) (get_or bs k 0) (alphabet side) (alphabet_sound side) (all k l)))

  pub front_count : count_of (repeats_from Outside bs) ≡ n + count_of (repeats_from Outside (drop n bs))
  front_count =
      let split = first_plain n bs le (λ k low high. plain_there side (get_or bs k 0) (all k high)) in
      let size : length (take n bs) ≡ n = length-take-le n bs le in
      ap count_of split ∙ count_singly (take n bs) (repeats_from Outside (drop n bs)) ∙ ap (λ (m : ℕ). m + count_of (repeats_from Outside (drop n bs))) size

-- how far they reach
reach_behind : (x a b z : ℕ) → z ≡ max a b → max x z ≡ max (max x a) b
reach_behind x a b z e = omega arith

pub reach_singly : (before : ℕ) (bs : List ℕ) (rs : List Repeat) → reach_from before (singly bs ++ rs) ≡ max (reach_from before (singly bs)) (reach_from (before + length bs) rs)
reach_singly before [] rs =
    let same : before ≡ before + 0 = omega arith in
    ap (λ (n : ℕ). reach_from n rs) same ∙ omega arith
reach_singly before (b ∷ bs) rs =
    let same : (before + 1) + length bs ≡ before + suc (length bs) = omega arith in
    reach_behind (cond (is_expectation b) (before + 1) 0) (reach_from (before + 1) (singly bs)) (reach_from (before + suc (length bs)) rs) (reach_from (before + 1) (singly bs ++ rs))
    (reach_singly (before + 1) bs rs ∙ ap (λ (n : ℕ). max (reach_from (before + 1) (singly bs)) (reach_from n rs)) same)

skipped : (t : Bool) (n m : ℕ) → t ≡ false → max (cond t n 0) m ≡ m
skipped true n m e = absurd cc
skipped false n m e = omega arith

first_one : (t : Bool) (n m : ℕ) → t ≡ true → m ≡ 0 → max (cond t n 0) m ≡ n
first_one true n m e z = omega arith
first_one false n m e z = absurd cc

later_one : (t : Bool) (n m : ℕ) → n ≤ m → max (cond t n 0) m ≡ m
later_one true n m le = omega arith
later_one false n m le = omega arith

pub reach_none : (before : ℕ) (bs : List ℕ) → Nowhere (Passes (is_byte2 76 72) bs) 0 (length bs) → reach_from before (singly bs) ≡ 0
reach_none before [] none = refl
reach_none before (b ∷ bs) none =
    skipped (is_expectation b) (before + 1) (reach_from (before + 1) (singly bs)) (false_from_ne_true (is_expectation b) (none 0 (omega arith) (omega arith)))
    ∙ reach_none (before + 1) bs (λ k low high. none (suc k) (omega arith) (omega arith))

pub reach_last : (before : ℕ) (bs : List ℕ) (k : ℕ) → k < length bs → is_expectation (get_or bs k 0) ≡ true → Nowhere (Passes (is_byte2 76 72) bs) (k + 1) (length bs) → reach_from before (singly bs) ≡ before + k + 1
reach_last before [] k l e none = absurd (omega arith)
reach_last before (b ∷ bs) zero l e none =
    first_one (is_expectation b) (before + 1) (reach_from (before + 1) (singly bs)) e (reach_none (before + 1) bs (λ k low high. none (suc k) (omega arith) (omega arith)))
    ∙ omega arith
reach_last before (b ∷ bs) (suc k) l e none =
    let more = reach_last (before + 1) bs k (omega arith) e (λ j low high. none (suc j) (omega arith) (omega arith)) in
    later_one (is_expectation b) (before + 1) (reach_from (before + 1) (singly bs)) (omega arith) ∙ more ∙ omega arith

last_by : (m stand before reach at z : ℕ) → before ≡ min stand m → reach ≤ before → min (max (min (before + (at + 1)) m) z) m ≡ min (max reach (max (stand + at + 1) z)) m
last_by m stand before reach at z is le = omega arith

pub passed_last : (before reach at before2 reach2 : ℕ) (bs : List ℕ) (left all : List Repeat) → at < length bs → is_expectation (get_or bs at 0) ≡ true → Nowhere (Passes (is_byte2 76 72) bs) (at + 1) (length bs)
    → before2 ≡ min (before + length bs) (2 ^ 64 - 1) → reach2 ≡ min (before + (at + 1)) (2 ^ 64 - 1) → Reaching before reach (singly bs ++ left) all → Reaching before2 reach2 left all
passed_last before reach at before2 reach2 bs left all l e none b2 r2 r = record {
  stand = r.stand + length bs;
  before_is = omega (arith, r.before_is);
  within = omega (arith, r.before_is);
  same =
      let far : reach_from r.stand (singly bs ++ left) ≡ max (r.stand + at + 1) (reach_from (r.stand + length bs) left) =
      reach_singly r.stand bs left ∙ ap (λ (n : ℕ). max n (reach_from (r.stand + length bs) left)) (reach_last r.stand bs at l e none) in
      ap (λ (n : ℕ). min (max n (reach_from (r.stand + length bs) left)) (2 ^ 64 - 1)) r2
      ∙ last_by (2 ^ 64 - 1) r.stand before reach at (reach_from (r.stand + length bs) left) r.before_is r.within
      ∙ ap (λ (n : ℕ). min (max reach n) (2 ^ 64 - 1)) (sym far)
      ∙ r.same;
}

pub passed_none : (before reach before2 : ℕ) (bs : List ℕ) (left all : List Repeat) → Nowhere (Passes (is_byte2 76 72) bs) 0 (length bs)
    → before2 ≡ min (before + length bs) (2 ^ 64 - 1) → Reaching before reach (singly bs ++ left) all → Reaching before2 reach left all
passed_none before reach before2 bs left all none b2 r = record {
  stand = r.stand + length bs;
  before_is = omega (arith, r.before_is);
  within = omega (arith, r.before_is, r.within);
  same =
      let far : reach_from r.stand (singly bs ++ left) ≡ reach_from (r.stand + length bs) left =
      reach_singly r.stand bs left ∙ ap (λ (n : ℕ). max n (reach_from (r.stand + length bs) left)) (reach_none r.stand bs none) ∙ omega arith in
      ap (λ (n : ℕ). min (max reach n) (2 ^ 64 - 1)) (sym far) ∙ r.same;
}

-- behind a repeat
repeat_within : (t : Bool) (m before reach times before2 reach2 : ℕ) → before ≤ m → reach ≤ before → before2 ≡ min (before + times) m → reach2 ≡ cond t before2 reach → reach2 ≤ before2
repeat_within true m before reach times before2 reach2 small le b2 r2 = omega arith
repeat_within false m before reach times before2 reach2 small le b2 r2 = omega arith

repeat_by : (t : Bool) (m stand before reach times before2 reach2 z : ℕ) → before ≡ min stand m → reach ≤ before → before2 ≡ min (before + times) m → reach2 ≡ cond t before2 reach
    → min (max reach2 z) m ≡ min (max reach (max (cond t (stand + times) 0) z)) m
repeat_by true m stand before reach times before2 reach2 z is le b2 r2 = omega arith
repeat_by false m stand before reach times before2 reach2 z is le b2 r2 = omega arith

pub passed_repeat : (before reach before2 reach2 : ℕ) (r : Repeat) (left all : List Repeat) → before2 ≡ min (before + r.times) (2 ^ 64 - 1) → reach2 ≡ cond (is_expectation r.character) before2 reach
    → Reaching before reach (r ∷ left) all → Reaching before2 reach2 left all
passed_repeat before reach before2 reach2 r left all b2 r2 s = record {
  stand = s.stand + r.times;
  before_is = omega (arith, s.before_is);
  within = repeat_within (is_expectation r.character) (2 ^ 64 - 1) before reach r.times before2 reach2 (omega (arith, s.before_is)) s.within b2 r2;
  same = repeat_by (is_expectation r.character) (2 ^ 64 - 1) s.stand before reach r.times before2 reach2 (reach_from (s.stand + r.times) left) s.before_is s.within b2 r2 ∙ s.same;
}

pub reached : (before reach : ℕ) (left all : List Repeat) → left ≡ [] → Reaching before reach left all → reach ≡ min (reach_from 0 all) (2 ^ 64 - 1)
reached before reach left all e r =
    let none : reach_from r.stand left ≡ 0 = ap (λ (rs : List Repeat). reach_from r.stand rs) e in
    omega (arith, r.before_is, r.within, r.same)

reaching_all : (all : List Repeat) → Reaching 0 0 all all
reaching_all all = record { stand = 0; before_is = omega arith; within = omega arith; same = omega arith }

-- the loop that reads them
pub first_reach : (before reach : ℕ) (p : List ℕ) (left all : List Repeat) → all ≡ singly p ++ left → ((l a : List Repeat) → Reaching 0 0 (singly p ++ l) a → Reaching before reach l a) → Reaching before reach left all
first_reach before reach p left all e f = f left all (subst (λ (rs : List Repeat). Reaching 0 0 rs all) e (reaching_all all))

pub next_reach : (b0 r0 b1 r1 b2 r2 : ℕ) (p : List ℕ) (r : Repeat) (rs0 rs1 rs2 all : List Repeat) → Reaching b0 r0 rs0 all → rs0 ≡ r ∷ rs1 → rs1 ≡ singly p ++ rs2
    → ((l a : List Repeat) → Reaching b0 r0 (r ∷ l) a → Reaching b1 r1 l a) → ((l a : List Repeat) → Reaching b1 r1 (singly p ++ l) a → Reaching b2 r2 l a) → Reaching b2 r2 rs2 all
next_reach b0 r0 b1 r1 b2 r2 p r rs0 rs1 rs2 all inv f0 f1 f g =
    g rs2 all (subst (λ (rs : List Repeat). Reaching b1 r1 rs all) f1 (f rs1 all (subst (λ (rs : List Repeat). Reaching b0 r0 rs all) f0 inv)))

-- what data of one token, with the blank behind it, write
pub written_token : (n : ℕ) (bs : List ℕ) → drop n bs ≡ 32 ∷ [] → repeats_from Outside bs ≡ singly (take n bs) ++ repeats_from Outside (drop n bs) → written (repeats_from Outside bs) ≡ take n bs
unfolding repeats_from
written_token n bs e split =
    let none : written (repeats_from Outside (32 ∷ [])) ≡ [] = refl in
    ap written split
    ∙ written_singly (take n bs) (repeats_from Outside (drop n bs))
    ∙ ap (λ (xs : List ℕ). take n bs ++ written (repeats_from Outside xs)) e
    ∙ ap (λ (xs : List ℕ). take n bs ++ xs) none
    ∙ append-nil (take n bs)
