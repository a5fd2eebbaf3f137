-- A scan call that a test refuses is refused as its strings, written out, are.
use Rattle.std.proofs.Common.{◌≡◌, ◌<◌, ◌≤◌, ℕ, zero, suc, ◌+◌, ◌-◌, Bool, true, false, ◌||◌, nat_eq, nat_lt, cond, max, IsTrue, List, [], ◌∷◌, ◌++◌, length, get_or, replicate, Option, Some, None, refl, sym, subst, arith, inl, inr, ◌⊎◌}
use Rattle.std.proofs.lemmas.Bool.{or_parts, true_from_ne_false, and_parts, cases_lt}
use Rattle.std.proofs.lemmas.Bool.Decides.{Decides-ltb}
use Rattle.std.proofs.lemmas.List.{length-replicate, get_or-replicate, get_or_append_left, get_or-append-add}
use Rattle.stil_types.specs.declared.head.ScanChainDecl.{ScanChainDecl}
use Rattle.stil_types.specs.Calls.{most_bits, compare_character, is_expectation, IsShortLoadOn}
use Rattle.stil_syntax.specs.declared.item.Item.{Item}
use Rattle.stil_syntax.specs.Digits.{is_digit, counted}
use Rattle.stil_calls.specs.declared.repeats.Repeat.{Repeat}
use Rattle.stil_calls.specs.declared.repeats.Escape.{Escape}
use Rattle.stil_calls.specs.declared.repeats.Escape.TheVariants.{Outside, Slash, Count, Waits, Broken}
use Rattle.stil_calls.specs.declared.repeats.Side.TheVariants.{Compare}
use Rattle.stil_calls.specs.Repeats.{repeat, behind, completed, put_first, repeats_from, repeats_of, reach_from, written}
use Rattle.stil_calls.specs.Scans.{given, reach_in, shifts_in, bits_of, is_short, is_long, strings_of, written_in, call_of, most_characters}
use Rattle.stil_calls.specs.Laws.{ShortLaw, LongLaw, VastLaw}
use Rattle.stil_calls.proofs.Accepted.{longest-shifts, short_is, long_none}

-- each repeat stands for one character at least
abbrev AreSome : List Repeat → Type 0
AreSome [] = Unit {0}
AreSome (r ∷ rs) = (0 < r.times) × AreSome rs

abbrev IsSomeRepeat : Option Repeat → Type 0
IsSomeRepeat None = Unit {0}
IsSomeRepeat (Some r) = 0 < r.times

abbrev Waiting : Escape → Type 0
Waiting Outside = Unit {0}
Waiting Slash = Unit {0}
Waiting (Count n) = Unit {0}
Waiting (Waits n) = 0 < n
Waiting Broken = Unit {0}

either : {X : Type 0} (P : X → Type 0) (t : Bool) (x y : X) → P x → (t ≡ false → P y) → P (cond t x y)
either P true x y p q = p
either P false x y p q = q refl

not_zero : (n : ℕ) → nat_eq n 0 ≡ false → 0 < n
not_zero zero e = absurd cc
not_zero (suc n) e = omega arith

completed-some : (e : Escape) (b : ℕ) → Waiting e → IsSomeRepeat (completed e b)
completed-some Outside b w = either IsSomeRepeat (nat_eq b 32 || nat_eq b 92) None (Some (repeat 1 b)) tt (λ e. omega arith)
completed-some Slash b w = tt
completed-some (Count n) b w =
    either IsSomeRepeat (is_digit b || (nat_eq n 0 || nat_eq b 32)) None (Some (repeat n b)) tt
    (λ e. not_zero n ((or_parts (nat_eq n 0) (nat_eq b 32) ((or_parts (is_digit b) (nat_eq n 0 || nat_eq b 32) e).1)).0))
completed-some (Waits n) b w = either IsSomeRepeat (nat_eq b 32) None (Some (repeat n b)) tt (λ e. w)
completed-some Broken b w = tt

behind-waiting : (e : Escape) (b : ℕ) → Waiting e → Waiting (behind e b)
behind-waiting Outside b w = either Waiting (nat_eq b 92) Slash Outside tt (λ e. tt)
behind-waiting Slash b w = either Waiting (nat_eq b 114) (Count 0) Broken tt (λ e. tt)
behind-waiting (Count n) b w =
    either Waiting (is_digit b) (Count (counted n b)) (cond (nat_eq n 0) Broken (cond (nat_eq b 32) (Waits n) Outside)) tt
    (λ d. either Waiting (nat_eq n 0) Broken (cond (nat_eq b 32) (Waits n) Outside) tt
    (λ e. either Waiting (nat_eq b 32) (Waits n) Outside (not_zero n e) (λ f. tt)))
behind-waiting (Waits n) b w = either Waiting (nat_eq b 32) (Waits n) Outside w (λ e. tt)
behind-waiting Broken b w = tt

put-some : (o : Option Repeat) (rs : List Repeat) → IsSomeRepeat o → AreSome rs → AreSome (put_first o rs)
put-some None rs o a = a
put-some (Some r) rs o a = (o, a)

repeats-some : (e : Escape) (bs : List ℕ) → Waiting e → AreSome (repeats_from e bs)
unfolding repeats_from
repeats-some e [] w = tt
repeats-some e (b ∷ bs) w =
    put-some (completed e b) (repeats_from (behind e b) bs) (completed-some e b w) (repeats-some (behind e b) bs (behind-waiting e b w))

-- up to the reach an L or H stands
abbrev Stands : ℕ → ℕ → List Repeat → Type 0
Stands bits before rs = (i : ℕ) × (bits ≤ before + i) × (is_expectation (get_or (written rs) i 88) ≡ true)

here : (e : Bool) (r : Repeat) (bits before more : ℕ) (rest : List ℕ) → is_expectation r.character ≡ e → 0 < r.times → more ≤ bits → bits < max (cond e (before + r.times) 0) more
    → (i : ℕ) × (bits ≤ before + i) × (is_expectation (get_or (replicate r.times r.character ++ rest) i 88) ≡ true)
here false r bits before more rest is some far h = absurd (omega arith)
here true r bits before more rest is some far h =
    let near : r.times - 1 < r.times = omega arith in
    let within : r.times - 1 < length (replicate r.times r.character) = rw (length-replicate r.times r.character) near in
    (r.times - 1, omega arith, rw (get_or_append_left (replicate r.times r.character) rest 88 (r.times - 1) within, get_or-replicate r.times (r.times - 1) r.character 88 near) is)

later : (r : Repeat) (bits before : ℕ) (rs : List Repeat) → Stands bits (before + r.times) rs → Stands bits before (r ∷ rs)
later r bits before rs s =
    let len = length-replicate r.times r.character in
    let same : get_or (replicate r.times r.character ++ written rs) (r.times + s.0) 88 ≡ get_or (written rs) (s.0) 88 =
    subst (λ (n : ℕ). get_or (replicate r.times r.character ++ written rs) (n + s.0) 88 ≡ get_or (written rs) (s.0) 88) len (get_or-append-add (replicate r.times r.character) (written rs) (s.0) 88) in
    (r.times + s.0, omega (arith, s.1), rw same (s.2))

stands_by : (bits before : ℕ) (r : Repeat) (rs : List Repeat) → 0 < r.times → bits < reach_from before (r ∷ rs) → (bits < reach_from (before + r.times) rs → Stands bits (before + r.times) rs)
    → (bits < reach_from (before + r.times) rs) ⊎ (reach_from (before + r.times) rs ≤ bits) → Stands bits before (r ∷ rs)
stands_by bits before r rs some h more (inl lt) = later r bits before rs (more lt)
stands_by bits before r rs some h more (inr ge) = here (is_expectation r.character) r bits before (reach_from (before + r.times) rs) (written rs) refl some ge h

stands : (bits before : ℕ) (rs : List Repeat) → AreSome rs → bits < reach_from before rs → Stands bits before rs
stands bits before [] some h = absurd (omega arith)
stands bits before (r ∷ rs) some h = stands_by bits before r rs (some.0) h (λ lt. stands bits (before + r.times) rs (some.1) lt) (cases_lt bits (reach_from (before + r.times) rs))

string-stands : (bits : ℕ) (given : Option (List ℕ)) → bits < reach_in given → (i : ℕ) × (bits ≤ i) × IsTrue (is_expectation (compare_character (written_in given) i))
string-stands bits None h = absurd (omega arith)
string-stands bits (Some bytes) h =
    let s = stands bits 0 (repeats_of bytes) (repeats-some Outside bytes tt) h in
    (s.0, omega (arith, s.1), s.2)

-- some chain's compare expects beyond its bits
record Beyond (chains : List ScanChainDecl) (items : List Item) : Type 0 where
  pub chain : ℕ
  pub index : ℕ
  pub is_chain : chain < length (bits_of chains)
  pub beyond : get_or (bits_of chains) chain 0 ≤ index
  pub stands : IsTrue (is_expectation (compare_character (get_or (strings_of Compare chains items) chain None) index))

long_by : (c : ScanChainDecl) (cs : List ScanChainDecl) (items : List Item) (t : Bool) → nat_lt c.length (reach_in (given Compare items c)) ≡ t → (t || is_long cs items) ≡ true → (is_long cs items ≡ true → Beyond cs items) → Beyond (c ∷ cs) items
long_by c cs items true is e more =
    let s = string-stands c.length (given Compare items c) ((Decides-ltb c.length (reach_in (given Compare items c))).0 is) in
    record { chain = 0; index = s.0; is_chain = omega arith; beyond = s.1; stands = s.2 }
long_by c cs items false is e more =
    let b = more e in
    record { chain = suc b.chain; index = b.index; is_chain = omega (arith, b.is_chain); beyond = b.beyond; stands = b.stands }

long_at : (chains : List ScanChainDecl) (items : List Item) → is_long chains items ≡ true → Beyond chains items
long_at [] items e = absurd cc
long_at (c ∷ cs) items e = long_by c cs items (nat_lt c.length (reach_in (given Compare items c))) refl e (long_at cs items)

pub long_law : LongLaw
long_law chains items = (
  λ e. let b = long_at chains items e in record { chain = b.chain; index = b.index; is_chain = b.is_chain; beyond = b.beyond; stands = b.stands },
  λ l. true_from_ne_false (is_long chains items) (λ e. long_none chains items e l.chain l.index l.is_chain l.beyond l.stands),
)

short_found : (chains : List ScanChainDecl) (items : List Item) → is_short chains items ≡ true → IsShortLoadOn (bits_of chains) (call_of chains items)
short_found chains items e =
    let b = and_parts (nat_lt 0 (shifts_in chains items)) (nat_lt (shifts_in chains items) (most_bits (bits_of chains))) e in
    record {
      shifts = subst (λ (n : ℕ). 0 < n) (sym (longest-shifts chains items)) ((Decides-ltb 0 (shifts_in chains items)).0 (b.0));
      short = subst (λ (n : ℕ). n < most_bits (bits_of chains)) (sym (longest-shifts chains items)) ((Decides-ltb (shifts_in chains items) (most_bits (bits_of chains))).0 (b.1));
    }

pub short_law : ShortLaw
short_law chains items = (short_found chains items, short_is chains items)

pub vast_law : VastLaw
vast_law chains items = (
  λ e. subst (λ (n : ℕ). most_characters < n) (sym (longest-shifts chains items)) ((Decides-ltb most_characters (shifts_in chains items)).0 e),
  λ h. (Decides-ltb most_characters (shifts_in chains items)).1 (subst (λ (n : ℕ). most_characters < n) (longest-shifts chains items) h),
)
