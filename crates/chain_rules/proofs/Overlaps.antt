-- How many spans have a number in common with another one, by where they begin and end.
use Rattle.std.proofs.Common.{◌≡◌, ℕ, ◌+◌, ◌<◌, ◌≤◌, nat_lt, ◌&&◌, Bool, true, false, cond, List, [], ◌∷◌, length, map, ap, arith, ⊎_elim}
use Rattle.std.specs.Prelude.{count_by, All}
use Rattle.std.proofs.lemmas.Bool.{cases_lt, and_parts, and_from, ltb-true, lt-ltb, le-ltb}
use Rattle.std.proofs.lemmas.List.Sorted.{sum_by-IsPermutation}
use Rattle.std.proofs.lemmas.List.Elements.{All-head, All-tail}
use Rattle.chain_rules.specs.declared.spans.Span.{Span}
use Rattle.chain_rules.specs.Spans.{span_at, no_span, overlap, Overlap, MeetsOne, MeetsAnother, AreSorted}
use Rattle.list_laws.proofs.Totals.{sum_by-map, counted-cons, passes, fails, counted, both_counted, some_counted, other_counted}

overlap_is : (s t : Span) → overlap s t ≡ true → Overlap s t
overlap_is s t e =
    let both = and_parts (nat_lt s.from t.to) (nat_lt t.from s.to) e in
    record { first = ltb-true s.from t.to both.0; second = ltb-true t.from s.to both.1 }

is_overlap : (s t : Span) → Overlap s t → overlap s t ≡ true
is_overlap s t o = and_from (nat_lt s.from t.to) (nat_lt t.from s.to) (lt-ltb s.from t.to o.first) (lt-ltb t.from s.to o.second)

pub overlap_self : (s : Span) → s.from < s.to → Overlap s s
overlap_self s some = record { first = some; second = some }

-- a span that begins before the end of another ends by its begin, or has a number in common with it
one_split : (s t : Span) → s.from < s.to → t.from ≤ t.to → cond (nat_lt t.from s.to) 1 0 ≡ cond (nat_lt t.to (s.from + 1)) 1 0 + cond (overlap s t) 1 0
one_split s t some order =
    ⊎_elim
    (λ (ends : t.to < s.from + 1).
    let apart : overlap s t ≡ false = ap (λ (b : Bool). b && nat_lt t.from s.to) (le-ltb s.from t.to (omega arith)) in
    omega (arith, passes (nat_lt t.from s.to) (lt-ltb t.from s.to (omega arith)), passes (nat_lt t.to (s.from + 1)) (lt-ltb t.to (s.from + 1) ends), fails (overlap s t) apart))
    (λ (goes : s.from + 1 ≤ t.to).
    let same : overlap s t ≡ nat_lt t.from s.to = ap (λ (b : Bool). b && nat_lt t.from s.to) (lt-ltb s.from t.to (omega arith)) in
    omega (arith, fails (nat_lt t.to (s.from + 1)) (le-ltb t.to (s.from + 1) goes), ap {B = ℕ} (λ (b : Bool). cond b 1 0) same))
    (cases_lt t.to (s.from + 1))

split : (s : Span) (spans : List Span) → s.from < s.to → All (λ (t : Span). t.from ≤ t.to) spans
    → count_by (λ (t : Span). nat_lt t.from s.to) spans ≡ count_by (λ (t : Span). nat_lt t.to (s.from + 1)) spans + count_by (overlap s) spans
split s [] some order = omega arith
split s (t ∷ ts) some order =
    omega (
      arith,
      counted-cons (λ (x : Span). nat_lt x.from s.to) t ts,
      counted-cons (λ (x : Span). nat_lt x.to (s.from + 1)) t ts,
      counted-cons (overlap s) t ts,
      one_split s t some (All-head (λ (x : Span). x.from ≤ x.to) t ts order),
      split s ts some (All-tail (λ (x : Span). x.from ≤ x.to) t ts order),
    )

-- the spans that have a number in common with one are those that begin before its end, but for those that end by its begin
pub meeting_is : (s : Span) (spans : List Span) (begins ends : List ℕ) → s.from < s.to → AreSorted spans begins ends
    → count_by (λ n. nat_lt n s.to) begins ≡ count_by (λ n. nat_lt n (s.from + 1)) ends + count_by (overlap s) spans
meeting_is s spans begins ends some sorted =
    omega (
      arith,
      sum_by-IsPermutation (λ n. cond (nat_lt n s.to) 1 0) (map (λ (t : Span). t.from) spans) begins sorted.begins_same,
      sum_by-map (λ n. cond (nat_lt n s.to) 1 0) (λ (t : Span). t.from) spans,
      sum_by-IsPermutation (λ n. cond (nat_lt n (s.from + 1)) 1 0) (map (λ (t : Span). t.to) spans) ends sorted.ends_same,
      sum_by-map (λ n. cond (nat_lt n (s.from + 1)) 1 0) (λ (t : Span). t.to) spans,
      split s spans some sorted.ordered,
    )

-- one of the spans, and another one of them
pub one_meets : (s : Span) (spans : List Span) → 0 < count_by (overlap s) spans → MeetsOne s spans
one_meets s spans h = let found = some_counted (overlap s) spans no_span h in (found.0, found.1, overlap_is s (span_at spans found.0) found.2)

pub meets_one : (s : Span) (spans : List Span) → MeetsOne s spans → 0 < count_by (overlap s) spans
meets_one s spans (d, h, o) = counted (overlap s) spans no_span d h (is_overlap s (span_at spans d) o)

pub another_meets : (spans : List Span) (n : ℕ) → n < length spans → 1 < count_by (overlap (span_at spans n)) spans → MeetsAnother spans n
another_meets spans n h more =
    let found = other_counted (overlap (span_at spans n)) spans no_span n h more in
    (found.0, found.1, found.2, overlap_is (span_at spans n) (span_at spans found.0) found.3)

pub meets_another : (spans : List Span) (n : ℕ) → n < length spans → (span_at spans n).from < (span_at spans n).to → MeetsAnother spans n → 1 < count_by (overlap (span_at spans n)) spans
meets_another spans n h some (d, l, ne, o) =
    both_counted (overlap (span_at spans n)) spans no_span n d h l ne (is_overlap (span_at spans n) (span_at spans n) (overlap_self (span_at spans n) some)) (is_overlap (span_at spans n) (span_at spans d) o)
