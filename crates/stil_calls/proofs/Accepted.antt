-- A scan call that no test refuses is one that the chains accept.
use Rattle.std.proofs.Common.{◌≡◌, ◌<◌, ◌≤◌, ℕ, zero, suc, ◌+◌, ◌-◌, Bool, true, false, nat_lt, cond, max, IsTrue, List, [], ◌∷◌, ◌++◌, length, length-append, All, get_or, replicate, Option, Some, None, refl, sym, ap, ◌∙◌, subst, arith, inl, inr, ◌⊎◌}
use Rattle.std.specs.List.{list_all, AllPass}
use Rattle.std.proofs.lemmas.Bool.{or_parts, false≢true, ltb-false, and_parts, not-false, cases_lt}
use Rattle.std.proofs.lemmas.Bool.Decides.{Decides-ltb}
use Rattle.std.proofs.lemmas.List.{length-replicate, get_or-replicate, get_or_append_left, get_or-append_right}
use Rattle.std.proofs.lemmas.List.Elements.{All-append, All-replicate, All-cons, All-nil}
use Rattle.stil_types.specs.declared.head.ScanChainDecl.{ScanChainDecl}
use Rattle.stil_types.specs.Calls.{string_length, longest_string, IsStringOf, IsCallOn, most_bits, compare_character, is_expectation, IsShortLoadOn, IsAcceptedOn}
use Rattle.stil_syntax.specs.declared.item.Item.{Item}
use Rattle.stil_calls.specs.declared.repeats.Repeat.{Repeat}
use Rattle.stil_calls.specs.declared.repeats.Side.{Side}
use Rattle.stil_calls.specs.declared.repeats.Side.TheVariants.{Load, Compare}
use Rattle.stil_calls.specs.Repeats.{repeats_of, is_character, is_sound, count_of, reach_from, written}
use Rattle.stil_calls.specs.Scans.{given, is_unsound, has_unsound, count_in, reach_in, shifts_in, bits_of, is_short, is_long, written_in, strings_of, call_of}

-- the length of what is written out
pub written-length : (rs : List Repeat) → length (written rs) ≡ count_of rs
written-length [] = refl
written-length (r ∷ rs) = length-append (replicate r.times r.character) (written rs) ∙ rw (length-replicate r.times r.character, written-length rs) refl

string-count : (given : Option (List ℕ)) → string_length (written_in given) ≡ count_in given
string-count None = refl
string-count (Some bytes) = written-length (repeats_of bytes)

four : (a b c d : ℕ) → max (max a b) (max c d) ≡ max (max a c) (max b d)
four a b c d = omega arith

-- the longest of all strings is the longest of the chains' longer ones
pub longest-shifts : (chains : List ScanChainDecl) (items : List Item) → max (longest_string (strings_of Load chains items)) (longest_string (strings_of Compare chains items)) ≡ shifts_in chains items
longest-shifts [] items = refl
longest-shifts (c ∷ cs) items =
    let more = longest-shifts cs items in
    let load = string-count (given Load items c) in
    let compare = string-count (given Compare items c) in
    rw (load, compare, ← more) (four (count_in (given Load items c)) (longest_string (strings_of Load cs items)) (count_in (given Compare items c)) (longest_string (strings_of Compare cs items)))

written-pass : (test : ℕ → Bool) (rs : List Repeat) → list_all (λ r. test r.character) rs ≡ true → AllPass test (written rs)
written-pass test [] e = All-nil (λ x. test x ≡ true)
written-pass test (r ∷ rs) e =
    let b = and_parts (test r.character) (list_all (λ r. test r.character) rs) e in
    All-append (λ x. test x ≡ true) (replicate r.times r.character) (written rs) (All-replicate (λ x. test x ≡ true) r.times r.character (b.0)) (written-pass test rs (b.1))

string-of : (side : Side) (given : Option (List ℕ)) → is_unsound side given ≡ false → IsStringOf (is_character side) (written_in given)
string-of side None e = tt
string-of side (Some bytes) e =
    written-pass (is_character side) (repeats_of bytes) ((and_parts _ _ (not-false (is_sound side bytes) e)).1)

strings-of-load : (chains : List ScanChainDecl) (items : List Item) → has_unsound chains items ≡ false → All (IsStringOf (is_character Load)) (strings_of Load chains items)
strings-of-load [] items e = All-nil (IsStringOf (is_character Load))
strings-of-load (c ∷ cs) items e =
    let p = or_parts _ (has_unsound cs items) e in
    let q = or_parts (is_unsound Load (given Load items c)) (is_unsound Compare (given Compare items c)) (p.0) in
    All-cons (IsStringOf (is_character Load)) (written_in (given Load items c)) (strings_of Load cs items) (string-of Load (given Load items c) (q.0)) (strings-of-load cs items (p.1))

strings-of-compare : (chains : List ScanChainDecl) (items : List Item) → has_unsound chains items ≡ false → All (IsStringOf (is_character Compare)) (strings_of Compare chains items)
strings-of-compare [] items e = All-nil (IsStringOf (is_character Compare))
strings-of-compare (c ∷ cs) items e =
    let p = or_parts _ (has_unsound cs items) e in
    let q = or_parts (is_unsound Load (given Load items c)) (is_unsound Compare (given Compare items c)) (p.0) in
    All-cons (IsStringOf (is_character Compare)) (written_in (given Compare items c)) (strings_of Compare cs items) (string-of Compare (given Compare items c) (q.1)) (strings-of-compare cs items (p.1))

strings-length : (side : Side) (chains : List ScanChainDecl) (items : List Item) → length (strings_of side chains items) ≡ length (bits_of chains)
strings-length side [] items = refl
strings-length side (c ∷ cs) items = ap suc (strings-length side cs items)

pub is_call : (chains : List ScanChainDecl) (items : List Item) → has_unsound chains items ≡ false → IsCallOn (bits_of chains) (call_of chains items)
is_call chains items e = record {
  loads = strings-length Load chains items;
  compares = strings-length Compare chains items;
  load_characters = strings-of-load chains items e;
  compare_characters = strings-of-compare chains items e;
  shifts = refl;
}

-- a call that shifts too seldom is found
less-is : (a b : ℕ) → a < b → nat_lt a b ≡ true
less-is a b h = (Decides-ltb a b).1 h

pub short_is : (chains : List ScanChainDecl) (items : List Item) → IsShortLoadOn (bits_of chains) (call_of chains items) → is_short chains items ≡ true
short_is chains items s =
    let same = longest-shifts chains items in
    let some : 0 < shifts_in chains items = subst (λ (n : ℕ). 0 < n) same s.shifts in
    let short : shifts_in chains items < most_bits (bits_of chains) = subst (λ (n : ℕ). n < most_bits (bits_of chains)) same s.short in
    rw (less-is 0 (shifts_in chains items) some, less-is (shifts_in chains items) (most_bits (bits_of chains)) short) refl

-- behind the reach no L or H stands
beyond_by : (e : Bool) (r : Repeat) (before more : ℕ) (rest : List ℕ) (i : ℕ) → is_expectation r.character ≡ e → (i < r.times) ⊎ (r.times ≤ i) → max (cond e (before + r.times) 0) more ≤ before + i
    → (r.times ≤ i → is_expectation (get_or rest (i - r.times) 88) ≡ false) → is_expectation (get_or (replicate r.times r.character ++ rest) i 88) ≡ false
beyond_by e r before more rest i is (inr far) h behind =
    rw (get_or-append_right (replicate r.times r.character) rest r.times i 88 (length-replicate r.times r.character) far) (behind far)
beyond_by true r before more rest i is (inl near) h behind = absurd (omega arith)
beyond_by false r before more rest i is (inl near) h behind =
    let here : i < length (replicate r.times r.character) = rw (length-replicate r.times r.character) near in
    rw (get_or_append_left (replicate r.times r.character) rest 88 i here, get_or-replicate r.times i r.character 88 near) is

beyond : (before : ℕ) (rs : List Repeat) (i : ℕ) → reach_from before rs ≤ before + i → is_expectation (get_or (written rs) i 88) ≡ false
beyond before [] i h = refl
beyond before (r ∷ rs) i h =
    beyond_by (is_expectation r.character) r before (reach_from (before + r.times) rs) (written rs) i refl (cases_lt i r.times) h
    (λ far. beyond (before + r.times) rs (i - r.times) (omega arith))

string-beyond : (given : Option (List ℕ)) (i : ℕ) → reach_in given ≤ i → is_expectation (compare_character (written_in given) i) ≡ false
string-beyond None i h = refl
string-beyond (Some bytes) i h = beyond 0 (repeats_of bytes) i (omega arith)

none-true : (b : Bool) → b ≡ false → IsTrue b → ⊥
none-true b e t = absurd (false≢true (sym e ∙ t))

-- where no chain's reach is beyond its bits, no expectation is
pub long_none : (chains : List ScanChainDecl) (items : List Item) → is_long chains items ≡ false → (k i : ℕ) → k < length (bits_of chains) → get_or (bits_of chains) k 0 ≤ i
    → IsTrue (is_expectation (compare_character (get_or (strings_of Compare chains items) k None) i)) → ⊥
long_none [] items e k i h far stands = absurd (omega arith)
long_none (c ∷ cs) items e zero i h far stands =
    let p = or_parts (nat_lt c.length (reach_in (given Compare items c))) (is_long cs items) e in
    let within : reach_in (given Compare items c) ≤ c.length = ltb-false c.length (reach_in (given Compare items c)) (p.0) in
    none-true _ (string-beyond (given Compare items c) i (omega arith)) stands
long_none (c ∷ cs) items e (suc k) i h far stands =
    let p = or_parts (nat_lt c.length (reach_in (given Compare items c))) (is_long cs items) e in
    long_none cs items (p.1) k i (omega arith) far stands

pub is_accepted : (chains : List ScanChainDecl) (items : List Item) → is_short chains items ≡ false → is_long chains items ≡ false → IsAcceptedOn (bits_of chains) (call_of chains items)
is_accepted chains items short long = record {
  not_short = λ s. absurd (false≢true (sym short ∙ short_is chains items s));
  not_long = λ l. long_none chains items long l.chain l.index l.is_chain l.beyond l.stands;
}
