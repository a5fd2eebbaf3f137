-- Lines in order, and where a permutation takes them.
use Rattle.std.proofs.Common.{◌≡◌, ◌≢◌, ℕ, ◌+◌, ◌<◌, ◌≤◌, ◌⊎◌, List, [], ◌∷◌, ◌++◌, length, map, take, Bool, eqb, ◌&&◌, true, false, zero, suc, get_or, refl, sym, ap, ◌∙◌, subst, arith, inl, inr, ⊎_elim, Ordering, Less, Equal, Greater, Option, Some, None}
use Rattle.std.specs.Prelude.{not}
use Rattle.std.specs.Option.{is_some}
use Rattle.std.specs.List.{swap}
use Rattle.std.specs.List.Sorted.{IsPermutation, IsSorted, IsPartitionedBy}
use Rattle.std.specs.Ordering.{nat_cmp, ordering_then, is_lt}
use Rattle.std.specs.Cmp.{IsTotalOrder}
use Rattle.std.proofs.lemmas.Bool.{false≢true, cases_lt, cases_eq, and_parts, eq-eqb, eqb-true}
use Rattle.std.proofs.lemmas.Bool.Decides.{nat_tests}
use Rattle.std.proofs.lemmas.Cmp.{ranked, nat_cmp_total, then_total, on_total}
use Rattle.std.proofs.lemmas.Map.Keys.{ge_from_not_lt}
use Rattle.std.proofs.lemmas.List.{get_or_default, length-append, get_or_append_left, get_or_push, map-append, take_more, take_all}
use Rattle.std.proofs.lemmas.List.Edits.{swapped_from_swap, length-swap}
use Rattle.std.proofs.lemmas.List.Sorted.{IsPermutation-keeps, IsPermutation-sym, sorted_far, ranks_by, IsPermutation-map}
use Rattle.fail_map.specs.declared.line.LogLine.{LogLine}
use Rattle.fail_map.specs.FailLogs.{ComesBefore, AreRising}
use Rattle.fail_map.specs.Numbered.{Numbered, no_line, line_of, numbered_at, line_at, number_at, StandsBefore, AreInOrder, AreLinesOf, IsEarlier, IsRepeated, is_earlier}

-- ---- the order of lines

abbrev pub line_cmp : LogLine → LogLine → Ordering
line_cmp a b = ordering_then (nat_cmp a.pattern b.pattern) (ordering_then (nat_cmp a.scan b.scan) (ordering_then (nat_cmp a.chain b.chain) (nat_cmp a.index b.index)))

abbrev pub numbered_cmp : Numbered → Numbered → Ordering
numbered_cmp a b = ordering_then (line_cmp a.0 b.0) (nat_cmp a.1 b.1)

line_total : IsTotalOrder line_cmp
line_total =
    then_total (on_total (λ (l : LogLine). l.pattern) nat_cmp_total)
    (then_total (on_total (λ (l : LogLine). l.scan) nat_cmp_total) (then_total (on_total (λ (l : LogLine). l.chain) nat_cmp_total) (on_total (λ (l : LogLine). l.index) nat_cmp_total)))

numbered_total : IsTotalOrder numbered_cmp
numbered_total = then_total (on_total (λ (l : Numbered). l.0) line_total) (on_total (λ (l : Numbered). l.1) nat_cmp_total)

-- what isn't less at its first number
later : (o rest : Ordering) (x y : ℕ) → o ≡ nat_cmp x y → is_lt (ordering_then o rest) ≡ false → (y < x) ⊎ ((x ≡ y) × (is_lt rest ≡ false))
later Less rest x y e h = absurd (false≢true (sym h))
later Equal rest x y e h = inr (ranked x y Equal e, h)
later Greater rest x y e h = inl (ranked x y Greater e)

pub same_line : (a b : LogLine) → a.pattern ≡ b.pattern → a.scan ≡ b.scan → a.chain ≡ b.chain → a.index ≡ b.index → a ≡ b
same_line a b p s c i = λ t. record { pattern = p t; scan = s t; chain = c t; index = i t }

-- a line that isn't after another one comes before it, or is equal
pub not_after : (a b : LogLine) → is_lt (line_cmp b a) ≡ false → ComesBefore a b ⊎ (a ≡ b)
not_after a b h =
    ⊎_elim (λ (p : a.pattern < b.pattern). inl (inl p))
    (λ (p : (b.pattern ≡ a.pattern) × (is_lt (ordering_then (nat_cmp b.scan a.scan) (ordering_then (nat_cmp b.chain a.chain) (nat_cmp b.index a.index))) ≡ false)).
    ⊎_elim (λ (s : a.scan < b.scan). inl (inr (inl (sym p.0, s))))
    (λ (s : (b.scan ≡ a.scan) × (is_lt (ordering_then (nat_cmp b.chain a.chain) (nat_cmp b.index a.index)) ≡ false)).
    ⊎_elim (λ (c : a.chain < b.chain). inl (inr (inr (inl (sym p.0, sym s.0, c)))))
    (λ (c : (b.chain ≡ a.chain) × (is_lt (nat_cmp b.index a.index) ≡ false)).
    ⊎_elim (λ (i : a.index < b.index). inl (inr (inr (inr (sym p.0, sym s.0, sym c.0, i)))))
    (λ (i : b.index ≤ a.index). inr (same_line a b (sym p.0) (sym s.0) (sym c.0) (omega (arith, i, ge_from_not_lt b.index a.index c.1))))
    (cases_lt a.index b.index))
    (later (nat_cmp b.chain a.chain) (nat_cmp b.index a.index) b.chain a.chain refl s.1))
    (later (nat_cmp b.scan a.scan) (ordering_then (nat_cmp b.chain a.chain) (nat_cmp b.index a.index)) b.scan a.scan refl p.1))
    (later (nat_cmp b.pattern a.pattern) (ordering_then (nat_cmp b.scan a.scan) (ordering_then (nat_cmp b.chain a.chain) (nat_cmp b.index a.index))) b.pattern a.pattern refl h)

split_then : (o rest : Ordering) → is_lt (ordering_then o rest) ≡ false → (is_lt o ≡ false) × (o ≡ Equal → is_lt rest ≡ false)
split_then Less rest h = absurd (false≢true (sym h))
split_then Equal rest h = (refl, λ e. h)
split_then Greater rest h = (refl, λ e. absurd cc)

nat_same : (x : ℕ) (o : Ordering) → o ≡ nat_cmp x x → o ≡ Equal
nat_same x Less e = absurd (omega (arith, ranked x x Less e))
nat_same x Equal e = refl
nat_same x Greater e = absurd (omega (arith, ranked x x Greater e))

line_equal : (a : LogLine) → line_cmp a a ≡ Equal
line_equal a = λ t. ordering_then (nat_same a.pattern (nat_cmp a.pattern a.pattern) refl t) (ordering_then (nat_same a.scan (nat_cmp a.scan a.scan) refl t) (ordering_then (nat_same a.chain (nat_cmp a.chain a.chain) refl t) (nat_same a.index (nat_cmp a.index a.index) refl t)))

stands_before : (a b : Numbered) → is_lt (numbered_cmp b a) ≡ false → a.1 ≢ b.1 → StandsBefore a b
stands_before a b h apart =
    let parts = split_then (line_cmp b.0 a.0) (nat_cmp b.1 a.1) h in
    ⊎_elim (λ (l : ComesBefore a.0 b.0). inl l)
    (λ (e : a.0 ≡ b.0).
    let number : a.1 ≤ b.1 = ge_from_not_lt b.1 a.1 (parts.1 (ap (λ (l : LogLine). line_cmp l a.0) (sym e) ∙ line_equal a.0)) in
    inr (e, omega (arith, number, apart)))
    (not_after a.0 b.0 parts.0)

-- no line comes before itself
pub not_itself : (a : LogLine) → ComesBefore a a → ⊥
not_itself a (inl p) = omega (arith, p)
not_itself a (inr (inl s)) = omega (arith, s.1)
not_itself a (inr (inr (inl c))) = omega (arith, c.2)
not_itself a (inr (inr (inr i))) = omega (arith, i.3)

not_both : (a b : LogLine) → ComesBefore a b → ComesBefore b a → ⊥
not_both a b (inl p) (inl q) = omega (arith, p, q)
not_both a b (inl p) (inr (inl t)) = omega (arith, p, t.0)
not_both a b (inl p) (inr (inr (inl d))) = omega (arith, p, d.0)
not_both a b (inl p) (inr (inr (inr j))) = omega (arith, p, j.0)
not_both a b (inr (inl s)) (inl q) = omega (arith, s.0, q)
not_both a b (inr (inl s)) (inr (inl t)) = omega (arith, s.1, t.1)
not_both a b (inr (inl s)) (inr (inr (inl d))) = omega (arith, s.1, d.1)
not_both a b (inr (inl s)) (inr (inr (inr j))) = omega (arith, s.1, j.1)
not_both a b (inr (inr (inl c))) (inl q) = omega (arith, c.0, q)
not_both a b (inr (inr (inl c))) (inr (inl t)) = omega (arith, c.1, t.1)
not_both a b (inr (inr (inl c))) (inr (inr (inl d))) = omega (arith, c.2, d.2)
not_both a b (inr (inr (inl c))) (inr (inr (inr j))) = omega (arith, c.2, j.2)
not_both a b (inr (inr (inr i))) (inl q) = omega (arith, i.0, q)
not_both a b (inr (inr (inr i))) (inr (inl t)) = omega (arith, i.1, t.1)
not_both a b (inr (inr (inr i))) (inr (inr (inl d))) = omega (arith, i.2, d.2)
not_both a b (inr (inr (inr i))) (inr (inr (inr j))) = omega (arith, i.3, j.3)

-- ---- where a permutation takes the elements

-- each element has a place of its own in the other list
pub record AreMoved {X : Type 0} (xs ys : List X) : Type 0 where
  pub long : length ys ≡ length xs
  pub to : ℕ → ℕ
  pub within : (k : ℕ) → k < length xs → to k < length ys
  pub apart : (j k : ℕ) → to j ≡ to k → j ≡ k
  pub same : (k : ℕ) (d : X) → k < length xs → get_or ys (to k) d ≡ get_or xs k d

-- two places in each other's stead
exchanged : ℕ → ℕ → ℕ → ℕ
exchanged i j k = ⊎_elim (λ (e : k ≡ i). j) (λ (n : k ≡ i → ⊥). ⊎_elim (λ (e : k ≡ j). i) (λ (m : k ≡ j → ⊥). k) (cases_eq k j)) (cases_eq k i)

data Exchange (i j k m : ℕ) : Type 0 where
  First : k ≡ i → m ≡ j → Exchange i j k m
  Second : k ≢ i → k ≡ j → m ≡ i → Exchange i j k m
  Neither : k ≢ i → k ≢ j → m ≡ k → Exchange i j k m

exchange : (i j k : ℕ) → Exchange i j k (exchanged i j k)
unfolding exchanged
exchange i j k = by_first (cases_eq k i)
  where
    by_second : (n : k ≡ i → ⊥) (c : (k ≡ j) ⊎ (k ≡ j → ⊥)) → Exchange i j k (⊎_elim (λ (e : k ≡ j). i) (λ (m : k ≡ j → ⊥). k) c)
    by_second n (inl e) = Second n e refl
    by_second n (inr m) = Neither n m refl

    by_first : (c : (k ≡ i) ⊎ (k ≡ i → ⊥)) → Exchange i j k (⊎_elim (λ (e : k ≡ i). j) (λ (n : k ≡ i → ⊥). ⊎_elim (λ (e : k ≡ j). i) (λ (m : k ≡ j → ⊥). k) (cases_eq k j)) c)
    by_first (inl e) = First e refl
    by_first (inr n) = by_second n (cases_eq k j)

exchange_apart : (i j k l m n : ℕ) → Exchange i j k m → Exchange i j l n → m ≡ n → k ≡ l
exchange_apart i j k l m n (First a b) (First c d) e = omega (arith, a, c)
exchange_apart i j k l m n (First a b) (Second c d f) e = absurd (c (omega (arith, a, b, d, f, e)))
exchange_apart i j k l m n (First a b) (Neither c d f) e = absurd (d (omega (arith, a, b, f, e)))
exchange_apart i j k l m n (Second a b c) (First d f) e = absurd (a (omega (arith, b, c, d, f, e)))
exchange_apart i j k l m n (Second a b c) (Second d f g) e = omega (arith, b, f)
exchange_apart i j k l m n (Second a b c) (Neither d f g) e = absurd (d (omega (arith, b, c, g, e)))
exchange_apart i j k l m n (Neither a b c) (First d f) e = absurd (b (omega (arith, c, d, f, e)))
exchange_apart i j k l m n (Neither a b c) (Second d f g) e = absurd (a (omega (arith, c, f, g, e)))
exchange_apart i j k l m n (Neither a b c) (Neither d f g) e = omega (arith, c, g, e)

exchange_within : (i j k m n : ℕ) → i < n → j < n → k < n → Exchange i j k m → m < n
exchange_within i j k m n a b c (First d e) = omega (arith, b, e)
exchange_within i j k m n a b c (Second d e f) = omega (arith, a, f)
exchange_within i j k m n a b c (Neither d e f) = omega (arith, c, f)

exchange_same : {X : Type 0} (xs : List X) (i j k m : ℕ) (d : X) → i < length xs → j < length xs → Exchange i j k m → get_or (swap xs i j) m d ≡ get_or xs k d
exchange_same xs i j k m d a b (First e f) =
    ap (λ n. get_or (swap xs i j) n d) f ∙ (swapped_from_swap xs (swap xs i j) i j d a b refl).1 ∙ ap (λ n. get_or xs n d) (sym e)
exchange_same xs i j k m d a b (Second n e f) =
    ap (λ n. get_or (swap xs i j) n d) f ∙ (swapped_from_swap xs (swap xs i j) i j d a b refl).0 ∙ ap (λ n. get_or xs n d) (sym e)
exchange_same xs i j k m d a b (Neither p q f) =
    ap (λ n. get_or (swap xs i j) n d) f ∙ (swapped_from_swap xs (swap xs i j) i j d a b refl).2 k p q

moved_on : {X : Type 0} (xs l : List X) (i j : ℕ) → i < length l → j < length l → AreMoved xs l → AreMoved xs (swap l i j)
moved_on xs l i j a b m = record {
  long = length-swap l i j ∙ m.long;
  to = λ k. exchanged i j (m.to k);
  within = λ k h. omega (arith, length-swap l i j, exchange_within i j (m.to k) (exchanged i j (m.to k)) (length l) a b (m.within k h) (exchange i j (m.to k)));
  apart = λ p q e. m.apart p q (exchange_apart i j (m.to p) (m.to q) (exchanged i j (m.to p)) (exchanged i j (m.to q)) (exchange i j (m.to p)) (exchange i j (m.to q)) e);
  same = λ k d h. exchange_same l i j (m.to k) (exchanged i j (m.to k)) d a b (exchange i j (m.to k)) ∙ m.same k d h;
}

pub moves : {X : Type 0} (xs ys : List X) → IsPermutation xs ys → AreMoved xs ys
moves {X} xs ys h =
    IsPermutation-keeps xs (λ (l : List X). AreMoved xs l) (record { long = refl; to = λ k. k; within = λ k l. l; apart = λ j k e. e; same = λ k d l. refl })
    (λ l i j a b m. moved_on xs l i j a b m) ys h

-- ---- the lines of a log

-- a log's lines with their numbers
pub record AreNumbered (log : List LogLine) (lines : List Numbered) (n : ℕ) : Type 0 where
  pub count : length lines ≡ n
  pub each : (k : ℕ) → k < n → (line_at lines k ≡ line_of log k) × (number_at lines k ≡ k)
  pub those : map (λ (line : Numbered). line.0) lines ≡ take n log

pub numbered_none : (log : List LogLine) → AreNumbered log [] 0
numbered_none log = record { count = refl; each = λ k l. absurd (omega arith); those = refl }

-- one line more
pub numbered_more : (log : List LogLine) (lines new : List Numbered) (n : ℕ) → AreNumbered log lines n → n < length log → new ≡ lines ++ (line_of log n, n) ∷ [] → AreNumbered log new (n + 1)
numbered_more log lines new n are l e = record {
  count = ap length e ∙ length-append lines ((line_of log n, n) ∷ []) ∙ omega (arith, are.count);
  each = λ k m.
      ⊎_elim (λ (p : k < n).
      let same : numbered_at new k ≡ numbered_at lines k = ap (λ (xs : List Numbered). numbered_at xs k) e ∙ get_or_append_left lines ((line_of log n, n) ∷ []) (no_line, 0) k (omega (arith, p, are.count)) in
      (ap (λ (x : Numbered). x.0) same ∙ (are.each k p).0, ap (λ (x : Numbered). x.1) same ∙ (are.each k p).1))
      (λ (g : n ≤ k).
      let at : k ≡ n = omega (arith, m, g) in
      let same : numbered_at new k ≡ (line_of log n, n) = ap (λ (xs : List Numbered). numbered_at xs k) e ∙ get_or_push lines (line_of log n, n) (no_line, 0) k (are.count ∙ sym at) in
      (ap (λ (x : Numbered). x.0) same ∙ ap (line_of log) (sym at), ap (λ (x : Numbered). x.1) same ∙ sym at))
      (cases_lt k n);
  those = ap (map (λ (line : Numbered). line.0)) e
      ∙ map-append (λ (line : Numbered). line.0) lines ((line_of log n, n) ∷ [])
      ∙ ap (λ (ls : List LogLine). ls ++ line_of log n ∷ []) are.those
      ∙ sym (take_more log n no_line l);
}

pub sorted_lines : (log : List LogLine) (lines sorted : List Numbered) (n : ℕ) → length log ≤ n → n ≤ length log → AreNumbered log lines n → IsPermutation lines sorted → IsSorted numbered_cmp sorted → AreLinesOf log sorted
sorted_lines log lines sorted n low high numbered moved up =
    let at : n ≡ length log = omega (arith, low, high) in
    let are : AreNumbered log lines (length log) = subst (AreNumbered log lines) at numbered in
    let there : AreMoved lines sorted = moves lines sorted moved in
    let back : AreMoved sorted lines = moves sorted lines (IsPermutation-sym lines sorted moved) in
    let number : (k : ℕ) → k < length sorted → number_at sorted k ≡ back.to k = λ k l.
    ap (λ (x : Numbered). x.1) (sym (back.same k (no_line, 0) l)) ∙ (are.each (back.to k) (omega (arith, back.within k l, are.count))).1 in
    record {
      count = there.long ∙ are.count;
      within = λ k l. omega (arith, number k l, back.within k l, are.count);
      is = λ k l.
          ap (line_of log) (number k l) ∙ sym (are.each (back.to k) (omega (arith, back.within k l, are.count))).0 ∙ ap (λ (x : Numbered). x.0) (back.same k (no_line, 0) l);
      every = λ n l. (
        there.to n,
        there.within n (omega (arith, l, are.count)),
        ap (λ (x : Numbered). x.1) (there.same n (no_line, 0) (omega (arith, l, are.count))) ∙ (are.each n l).1,
      );
      in_order = λ j k l m.
          stands_before (numbered_at sorted j) (numbered_at sorted k) (sorted_far (λ (x y : Numbered). is_lt (numbered_cmp x y)) (ranks_by numbered_total (λ (x : Numbered). x)) sorted up j k (no_line, 0) (omega arith) m)
          (λ e.
          let same : j ≡ k = back.apart j k (sym (number j (omega arith)) ∙ e ∙ number k m) in
          omega (arith, same, l));
      those = subst (λ (xs : List LogLine). IsPermutation xs (map (λ (line : Numbered). line.0) sorted)) (are.those ∙ take_all (length log) log (omega arith)) (IsPermutation-map (λ (line : Numbered). line.0) lines sorted moved);
    }

-- ---- scan calls in order

-- lines of earlier scan calls stand in front
earlier_first : (pattern scan : ℕ) (a b : LogLine) → ComesBefore a b ⊎ (a ≡ b) → IsEarlier pattern scan b → IsEarlier pattern scan a
earlier_first pattern scan a b (inr e) h = subst (λ (l : LogLine). IsEarlier pattern scan l) (sym e) h
earlier_first pattern scan a b (inl (inl p)) (inl q) = inl (omega (arith, p, q))
earlier_first pattern scan a b (inl (inl p)) (inr q) = inl (omega (arith, p, q.0))
earlier_first pattern scan a b (inl (inr (inl s))) (inl q) = inl (omega (arith, s.0, q))
earlier_first pattern scan a b (inl (inr (inl s))) (inr q) = inr (s.0 ∙ q.0, omega (arith, s.1, q.1))
earlier_first pattern scan a b (inl (inr (inr (inl c)))) (inl q) = inl (omega (arith, c.0, q))
earlier_first pattern scan a b (inl (inr (inr (inl c)))) (inr q) = inr (c.0 ∙ q.0, omega (arith, c.1, q.1))
earlier_first pattern scan a b (inl (inr (inr (inr i)))) (inl q) = inl (omega (arith, i.0, q))
earlier_first pattern scan a b (inl (inr (inr (inr i)))) (inr q) = inr (i.0 ∙ q.0, omega (arith, i.1, q.1))

pub earlier_before : (pattern scan : ℕ) (a b : Numbered) → StandsBefore a b → IsEarlier pattern scan b.0 → IsEarlier pattern scan a.0
earlier_before pattern scan a b (inl l) h = earlier_first pattern scan a.0 b.0 (inl l) h
earlier_before pattern scan a b (inr e) h = earlier_first pattern scan a.0 b.0 (inr e.0) h

earlier_is : (pattern scan : ℕ) (line : LogLine) → is_earlier pattern scan line ≡ true → IsEarlier pattern scan line
earlier_is pattern scan line h = grind (arith, nat_tests)

is_earlier_from : (pattern scan : ℕ) (line : LogLine) → IsEarlier pattern scan line → is_earlier pattern scan line ≡ true
is_earlier_from pattern scan line h = grind (arith, nat_tests)

-- the lines of earlier scan calls are parted from the others
pub parted : (pattern scan : ℕ) (lines : List Numbered) → AreInOrder lines → IsPartitionedBy (λ (l : Numbered). is_earlier pattern scan l.0) lines
parted pattern scan lines in_order i j d l m h =
    ⊎_elim (λ (before : i < j).
    let there : is_earlier pattern scan (line_at lines j) ≡ true = ap (λ (x : Numbered). is_earlier pattern scan x.0) (get_or_default lines j (no_line, 0) d m) ∙ h in
    ap (λ (x : Numbered). is_earlier pattern scan x.0) (get_or_default lines i d (no_line, 0) (omega arith))
    ∙ is_earlier_from pattern scan (line_at lines i) (earlier_before pattern scan (numbered_at lines i) (numbered_at lines j) (in_order i j before m) (earlier_is pattern scan (line_at lines j) there)))
    (λ (g : j ≤ i). let same : i ≡ j = omega arith in ap (λ k. is_earlier pattern scan (get_or lines k d).0) same ∙ h)
    (cases_lt i j)

pub earlier_there : (pattern scan : ℕ) (lines : List Numbered) (n : ℕ) → n ≤ length lines → ((k : ℕ) (d : Numbered) → 0 ≤ k → k < n → is_earlier pattern scan (get_or lines k d).0 ≡ true) → (k : ℕ) → k < n → IsEarlier pattern scan (line_at lines k)
earlier_there pattern scan lines n within all k l = earlier_is pattern scan (line_at lines k) (all k (no_line, 0) (omega arith) l)

pub not_earlier_there : (pattern scan : ℕ) (lines : List Numbered) (n : ℕ) → ((k : ℕ) (d : Numbered) → n ≤ k → k < length lines → is_earlier pattern scan (get_or lines k d).0 ≡ false) → (k : ℕ) → n ≤ k → k < length lines → IsEarlier pattern scan (line_at lines k) → ⊥
not_earlier_there pattern scan lines n none k g l h = false≢true (sym (none k (no_line, 0) g l) ∙ is_earlier_from pattern scan (line_at lines k) h)

-- ---- equal lines

-- the test of two lines
pub same_by_test : (a b : LogLine) → (eqb a.pattern b.pattern && (eqb a.scan b.scan && (eqb a.chain b.chain && eqb a.index b.index))) ≡ true → a ≡ b
same_by_test a b h =
    let p = and_parts (eqb a.pattern b.pattern) (eqb a.scan b.scan && (eqb a.chain b.chain && eqb a.index b.index)) h in
    let s = and_parts (eqb a.scan b.scan) (eqb a.chain b.chain && eqb a.index b.index) p.1 in
    let c = and_parts (eqb a.chain b.chain) (eqb a.index b.index) s.1 in
    same_line a b (eqb-true a.pattern b.pattern p.0) (eqb-true a.scan b.scan s.0) (eqb-true a.chain b.chain c.0) (eqb-true a.index b.index c.1)

pub test_of_same : (a b : LogLine) → a ≡ b → (eqb a.pattern b.pattern && (eqb a.scan b.scan && (eqb a.chain b.chain && eqb a.index b.index))) ≡ true
test_of_same a b e =
    λ t. eq-eqb a.pattern b.pattern (ap (λ (l : LogLine). l.pattern) e) t && (eq-eqb a.scan b.scan (ap (λ (l : LogLine). l.scan) e) t && (eq-eqb a.chain b.chain (ap (λ (l : LogLine). l.chain) e) t && eq-eqb a.index b.index (ap (λ (l : LogLine). l.index) e) t))

pub none_from : {X : Type 0} (o : Option X) (none : Bool) → is_some o ≡ not none → none ≡ true → o ≡ None
none_from None none e h = refl
none_from (Some x) true e h = absurd (false≢true (sym e))
none_from (Some x) false e h = absurd (false≢true h)

pub some_from : {X : Type 0} (o : Option X) (none : Bool) → is_some o ≡ not none → none ≡ false → o ≡ None → ⊥
some_from None true e h f = false≢true (sym h)
some_from None false e h f = false≢true e
some_from (Some x) none e h f = absurd cc

upto : (a b : Numbered) → StandsBefore a b → ComesBefore a.0 b.0 ⊎ (a.0 ≡ b.0)
upto a b (inl l) = inl l
upto a b (inr e) = inr e.0

between_equal : (a b c : LogLine) → ComesBefore a b ⊎ (a ≡ b) → ComesBefore b c ⊎ (b ≡ c) → a ≡ c → b ≡ c
between_equal a b c (inr e) q s = sym e ∙ s
between_equal a b c (inl p) (inr e) s = e
between_equal a b c (inl p) (inl q) s = absurd (not_both a b p (subst (λ (l : LogLine). ComesBefore b l) (sym s) q))

-- of two equal lines the later one is equal to the one before it
pub repeated : (lines : List Numbered) → AreInOrder lines → (j k : ℕ) → j < k → k < length lines → line_at lines j ≡ line_at lines k → IsRepeated lines k
repeated lines in_order j zero l m e = absurd (omega arith)
repeated lines in_order j (suc k) l m e =
    ⊎_elim (λ (closer : j < k).
    record {
      before = k;
      next = omega arith;
      same = between_equal (line_at lines j) (line_at lines k) (line_at lines (suc k)) (upto (numbered_at lines j) (numbered_at lines k) (in_order j k closer (omega arith)))
          (upto (numbered_at lines k) (numbered_at lines (suc k)) (in_order k (suc k) (omega arith) m)) e;
    })
    (λ (next : k ≤ j). let at : j ≡ k = omega arith in record { before = k; next = omega arith; same = ap (line_at lines) (sym at) ∙ e })
    (cases_lt j k)

-- of equal lines the one with the lesser number stands first
pub equal_order : (a b : Numbered) → StandsBefore a b → a.0 ≡ b.0 → a.1 < b.1
equal_order a b (inr e) s = e.1
equal_order a b (inl l) s = absurd (not_itself b.0 (subst (λ (x : LogLine). ComesBefore x b.0) s l))

-- ---- rising

rising_from : (lines : List LogLine) → ((k : ℕ) → suc k < length lines → ComesBefore (line_of lines k) (line_of lines (suc k))) → AreRising lines
rising_from [] h = tt
rising_from (a ∷ []) h = tt
rising_from (a ∷ b ∷ lines) h = (h 0 (omega arith), rising_from (b ∷ lines) (λ k l. h (suc k) (omega (arith, l))))

-- lines in order that differ rise
pub rising : (lines : List LogLine) → IsSorted line_cmp lines → ((k : ℕ) → k + 1 < length lines → line_of lines k ≡ line_of lines (k + 1) → ⊥) → AreRising lines
rising lines up differ =
    rising_from lines (λ k l.
    let step : suc k ≡ k + 1 = omega arith in
    ⊎_elim (λ (c : ComesBefore (line_of lines k) (line_of lines (k + 1))). subst (λ (n : ℕ). ComesBefore (line_of lines k) (line_of lines n)) (sym step) c)
    (λ (e : line_of lines k ≡ line_of lines (k + 1)). absurd (differ k (omega (arith, l)) e))
    (not_after (line_of lines k) (line_of lines (k + 1)) (up k no_line (omega arith) (omega (arith, l)))))
