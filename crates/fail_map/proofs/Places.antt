-- Which places of a log the next statement adds.
use Rattle.std.proofs.Common.{◌≡◌, ℕ, ◌+◌, ◌-◌, ◌*◌, ◌%◌, ◌<◌, ◌≤◌, ◌⊎◌, zero, suc, List, [], ◌∷◌, ◌++◌, length, replicate, take, Bool, cond, get_or, refl, sym, ap, ◌∙◌, arith, subst, inl, inr, ⊎_elim, Option, Some, None}
use Rattle.std.specs.Prelude.{nat_eq, count_by, slice_get}
use Rattle.std.proofs.lemmas.Bool.{cases_lt, cases_eq, eq-eqb, ne_eqb}
use Rattle.std.proofs.lemmas.List.{append-nil, length-append, length-replicate, take-append-le}
use Rattle.std.proofs.lemmas.List.Concat.{flat_map-append}
use Rattle.std.proofs.lemmas.List.Sums.{sum_by-append, sum_by-cons}
use Rattle.std.proofs.lemmas.Option.{slice_get_within, get_or_from_slice_get, slice_get-get_or}
use Rattle.stil_types.specs.declared.statement.ScanCall.{ScanCall}
use Rattle.stil_types.specs.declared.statement.PatternStatement.{PatternStatement}
use Rattle.stil_tester.specs.declared.chains.Chains.{Chains}
use Rattle.stil_tester.specs.Runs.{events_of, all_events}
use Rattle.scan_verify.specs.Patterns.{pattern_of}
use Rattle.fail_map.specs.declared.line.LogLine.{LogLine}
use Rattle.fail_map.specs.FailLogs.{calls_in, patterns_run, IsPlace}
use Rattle.fail_map.specs.Blocks.{call_at, call_of_round, no_call, round_calls, times_of}
use Rattle.fail_map.specs.Carried.{IsPlaceIn, IsTried}
use Rattle.fail_map.specs.Numbered.{IsEarlier}
use Rattle.fail_map.specs.Progress.{played, IsFoundIn, AreCountsOf}
use Rattle.fail_map.proofs.Calls.{calls_in-append, statement_calls, length-over, over_call}
use Rattle.fail_map.proofs.Lists.{get_left, get_right}

-- ---- lists

take_right : {X : Type 0} (xs ys : List X) (k j : ℕ) → k ≡ length xs + j → take k (xs ++ ys) ≡ xs ++ take j ys
take_right [] ys k j e = ap (λ n. take n ys) (omega (arith, e))
take_right (x ∷ xs) ys zero j e = absurd (omega (arith, e))
take_right (x ∷ xs) ys (suc k) j e = ap (λ zs. x ∷ zs) (take_right xs ys k j (omega (arith, e)))

get_replicate : {X : Type 0} (n j : ℕ) (x y : X) → slice_get (replicate n x) j ≡ Some y → (j < n) × (x ≡ y)
get_replicate zero j x y e = absurd cc
get_replicate (suc n) zero x y e = (omega arith, cc)
get_replicate (suc n) (suc j) x y e = let rest = get_replicate n j x y e in (omega (arith, rest.0), rest.1)

replicate_get : {X : Type 0} (n j : ℕ) (x : X) → j < n → slice_get (replicate n x) j ≡ Some x
replicate_get zero j x l = absurd (omega arith)
replicate_get (suc n) zero x l = refl
replicate_get (suc n) (suc j) x l = replicate_get n j x (omega arith)

take_replicate : {X : Type 0} (j n : ℕ) (x : X) → j ≤ n → take j (replicate n x) ≡ replicate j x
take_replicate zero n x l = refl
take_replicate (suc j) zero x l = absurd (omega arith)
take_replicate (suc j) (suc n) x l = ap (λ zs. x ∷ zs) (take_replicate j n x (omega arith))

count_all : (n x : ℕ) → count_by (nat_eq x) (replicate n x) ≡ n
count_all zero x = refl
count_all (suc n) x = omega (arith, sum_by-cons (λ y. cond (nat_eq x y) 1 0) x (replicate n x), ap {B = ℕ} (λ (b : Bool). cond b 1 0) (eq-eqb x x refl), count_all n x)

count_none : (n x y : ℕ) → (x ≡ y → ⊥) → count_by (nat_eq x) (replicate n y) ≡ 0
count_none zero x y ne = refl
count_none (suc n) x y ne = omega (arith, sum_by-cons (λ z. cond (nat_eq x z) 1 0) y (replicate n y), ap {B = ℕ} (λ (b : Bool). cond b 1 0) (ne_eqb x y ne), count_none n x y ne)

count_append : (x : ℕ) (xs ys : List ℕ) → count_by (nat_eq x) (xs ++ ys) ≡ count_by (nat_eq x) xs + count_by (nat_eq x) ys
count_append x xs ys = sum_by-append (λ y. cond (nat_eq x y) 1 0) xs ys

-- ---- one statement more

-- the calls that a statement runs, and how many they are
abbrev pub calls_run : PatternStatement → List ScanCall
calls_run s = calls_in (events_of s)

new_patterns : (ss : List PatternStatement) (s : PatternStatement) → patterns_run (ss ++ s ∷ []) ≡ patterns_run ss ++ replicate (length (calls_run s)) (pattern_of s + 1)
new_patterns ss s =
    flat_map-append (λ (x : PatternStatement). replicate (length (calls_in (events_of x))) (pattern_of x + 1)) ss (s ∷ [])
    ∙ ap (λ ps. patterns_run ss ++ ps) (append-nil (replicate (length (calls_run s)) (pattern_of s + 1)))

new_calls : (ss : List PatternStatement) (s : PatternStatement) → calls_in (all_events (ss ++ s ∷ [])) ≡ calls_in (all_events ss) ++ calls_run s
new_calls ss s =
    ap calls_in (flat_map-append events_of ss (s ∷ []))
    ∙ calls_in-append (all_events ss) (all_events (s ∷ []))
    ∙ ap (λ es. calls_in (all_events ss) ++ calls_in es) (append-nil (events_of s))

runs_long : (ss : List PatternStatement) → length (patterns_run ss) ≡ length (calls_in (all_events ss))
runs_long [] = refl
runs_long (s ∷ ss) =
    omega (
      arith,
      length-append (replicate (length (calls_run s)) (pattern_of s + 1)) (patterns_run ss),
      length-replicate (length (calls_run s)) (pattern_of s + 1),
      runs_long ss,
      ap length (calls_in-append (events_of s) (all_events ss)),
      length-append (calls_run s) (calls_in (all_events ss)),
    )

-- how many scan calls of its Pattern run before a statement
abbrev pub before_it : List PatternStatement → PatternStatement → ℕ
before_it ss s = count_by (nat_eq (pattern_of s + 1)) (patterns_run ss)

-- a statement that is run behind others has this place
pub record RunsHere (chains : Chains) (ss : List PatternStatement) (s : PatternStatement) (line : LogLine) (call : ScanCall) : Type 0 where
  pub number : ℕ
  pub pattern : line.pattern ≡ pattern_of s + 1
  pub scan : line.scan ≡ before_it ss s + number + 1
  pub call_is : slice_get (calls_run s) number ≡ Some call
  pub place : IsPlaceIn chains call line

pub place_before : (chains : Chains) (ss : List PatternStatement) (s : PatternStatement) (line : LogLine) (call : ScanCall) → IsPlace (played chains ss) line call → IsPlace (played chains (ss ++ s ∷ [])) line call
place_before chains ss s line call p =
    let within : p.at < length (patterns_run ss) = slice_get_within (patterns_run ss) p.at line.pattern p.scan_is.of_pattern in
    record {
      at = p.at;
      scan_is = record {
        of_pattern = ap (λ ps. slice_get ps p.at) (new_patterns ss s) ∙ get_left (patterns_run ss) (replicate (length (calls_run s)) (pattern_of s + 1)) p.at within ∙ p.scan_is.of_pattern;
        number = p.scan_is.number
            ∙ ap (λ ps. count_by (nat_eq line.pattern) ps + 1) (sym (ap (take p.at) (new_patterns ss s) ∙ take-append-le p.at (patterns_run ss) (replicate (length (calls_run s)) (pattern_of s + 1)) (omega arith)));
      };
      call_is = ap (λ cs. slice_get cs p.at) (new_calls ss s) ∙ get_left (calls_in (all_events ss)) (calls_run s) p.at (omega (arith, within, runs_long ss)) ∙ p.call_is;
      chain = p.chain;
      chain_is = p.chain_is;
      compared = p.compared;
    }

-- the scan calls of a Pattern before one that the statement runs
count_here : (ss : List PatternStatement) (s : PatternStatement) (at j : ℕ) → at ≡ length (patterns_run ss) + j → j ≤ length (calls_run s)
    → count_by (nat_eq (pattern_of s + 1)) (take at (patterns_run (ss ++ s ∷ []))) ≡ before_it ss s + j
count_here ss s at j e l =
    ap (λ ps. count_by (nat_eq (pattern_of s + 1)) (take at ps)) (new_patterns ss s)
    ∙ ap (count_by (nat_eq (pattern_of s + 1))) (take_right (patterns_run ss) (replicate (length (calls_run s)) (pattern_of s + 1)) at j e)
    ∙ count_append (pattern_of s + 1) (patterns_run ss) (take j (replicate (length (calls_run s)) (pattern_of s + 1)))
    ∙ ap (λ n. before_it ss s + n) (ap (count_by (nat_eq (pattern_of s + 1))) (take_replicate j (length (calls_run s)) (pattern_of s + 1) l) ∙ count_all j (pattern_of s + 1))

pub place_here : (chains : Chains) (ss : List PatternStatement) (s : PatternStatement) (line : LogLine) (call : ScanCall) → RunsHere chains ss s line call → IsPlace (played chains (ss ++ s ∷ [])) line call
place_here chains ss s line call h =
    let at : ℕ = length (patterns_run ss) + h.number in
    let within : h.number < length (calls_run s) = slice_get_within (calls_run s) h.number call h.call_is in
    record {
      at = at;
      scan_is = record {
        of_pattern = ap (λ ps. slice_get ps at) (new_patterns ss s)
            ∙ get_right (patterns_run ss) (replicate (length (calls_run s)) (pattern_of s + 1)) at h.number refl
            ∙ replicate_get (length (calls_run s)) h.number (pattern_of s + 1) within
            ∙ ap Some (sym h.pattern);
        number = h.scan ∙ ap (λ n. n + 1) (sym (count_here ss s at h.number refl (omega (arith, within)))) ∙ ap (λ p. count_by (nat_eq p) (take at (patterns_run (ss ++ s ∷ []))) + 1) (sym h.pattern);
      };
      call_is = ap (λ cs. slice_get cs at) (new_calls ss s) ∙ get_right (calls_in (all_events ss)) (calls_run s) at h.number (omega (arith, runs_long ss)) ∙ h.call_is;
      chain = h.place.chain;
      chain_is = h.place.chain_is;
      compared = h.place.compared;
    }

pub place_split : (chains : Chains) (ss : List PatternStatement) (s : PatternStatement) (line : LogLine) (call : ScanCall) → IsPlace (played chains (ss ++ s ∷ [])) line call
    → IsPlace (played chains ss) line call ⊎ RunsHere chains ss s line call
place_split chains ss s line call p =
    let behind : List ℕ = replicate (length (calls_run s)) (pattern_of s + 1) in
    let there : slice_get (patterns_run ss ++ behind) p.at ≡ Some line.pattern = ap (λ ps. slice_get ps p.at) (sym (new_patterns ss s)) ∙ p.scan_is.of_pattern in
    let calls : slice_get (calls_in (all_events ss) ++ calls_run s) p.at ≡ Some call = ap (λ cs. slice_get cs p.at) (sym (new_calls ss s)) ∙ p.call_is in
    ⊎_elim (λ (l : p.at < length (patterns_run ss)).
    inl (record {
      at = p.at;
      scan_is = record {
        of_pattern = sym (get_left (patterns_run ss) behind p.at l) ∙ there;
        number = p.scan_is.number ∙ ap (λ ps. count_by (nat_eq line.pattern) ps + 1) (ap (take p.at) (new_patterns ss s) ∙ take-append-le p.at (patterns_run ss) behind (omega arith));
      };
      call_is = sym (get_left (calls_in (all_events ss)) (calls_run s) p.at (omega (arith, l, runs_long ss))) ∙ calls;
      chain = p.chain;
      chain_is = p.chain_is;
      compared = p.compared;
    }))
    (λ (g : length (patterns_run ss) ≤ p.at).
    let j : ℕ = p.at - length (patterns_run ss) in
    let at : p.at ≡ length (patterns_run ss) + j = omega arith in
    let here = get_replicate (length (calls_run s)) j (pattern_of s + 1) line.pattern (sym (get_right (patterns_run ss) behind p.at j at) ∙ there) in
    inr (record {
      number = j;
      pattern = sym here.1;
      scan = p.scan_is.number ∙ ap (λ q. count_by (nat_eq q) (take p.at (patterns_run (ss ++ s ∷ []))) + 1) (sym here.1) ∙ ap (λ n. n + 1) (count_here ss s p.at j at (omega (arith, here.0)));
      call_is = sym (get_right (calls_in (all_events ss)) (calls_run s) p.at j (omega (arith, at, runs_long ss))) ∙ calls;
      place = record { chain = p.chain; chain_is = p.chain_is; compared = p.compared };
    }))
    (cases_lt p.at (length (patterns_run ss)))

-- ---- the counts

-- how many scan calls a statement runs
pub count_run : (s : PatternStatement) → length (calls_run s) ≡ times_of s * length (round_calls s)
count_run s = ap length (statement_calls s) ∙ length-over (times_of s) (round_calls s)

pub counts_more : (ss : List PatternStatement) (s : PatternStatement) (old new : List ℕ) → AreCountsOf ss old → get_or new (pattern_of s) 0 ≡ before_it ss s + times_of s * length (round_calls s)
    → ((k : ℕ) → (k ≡ pattern_of s → ⊥) → get_or new k 0 ≡ get_or old k 0) → AreCountsOf (ss ++ s ∷ []) new
counts_more ss s old new counts here others k =
    let all : count_by (nat_eq (k + 1)) (patterns_run (ss ++ s ∷ [])) ≡ count_by (nat_eq (k + 1)) (patterns_run ss) + count_by (nat_eq (k + 1)) (replicate (length (calls_run s)) (pattern_of s + 1))
    = ap (count_by (nat_eq (k + 1))) (new_patterns ss s) ∙ count_append (k + 1) (patterns_run ss) (replicate (length (calls_run s)) (pattern_of s + 1)) in
    ⊎_elim (λ (e : k ≡ pattern_of s).
    let same : count_by (nat_eq (k + 1)) (replicate (length (calls_run s)) (pattern_of s + 1)) ≡ length (calls_run s)
    = ap (λ p. count_by (nat_eq (p + 1)) (replicate (length (calls_run s)) (pattern_of s + 1))) e ∙ count_all (length (calls_run s)) (pattern_of s + 1) in
    ap (λ p. get_or new p 0) e ∙ here ∙ (λ i. count_by (nat_eq (sym e i + 1)) (patterns_run ss) + sym (same ∙ count_run s) i) ∙ sym all)
    (λ (ne : k ≡ pattern_of s → ⊥).
    let none : count_by (nat_eq (k + 1)) (replicate (length (calls_run s)) (pattern_of s + 1)) ≡ 0 = count_none (length (calls_run s)) (k + 1) (pattern_of s + 1) (λ e. ne (omega (arith, e))) in
    others k ne ∙ counts k ∙ sym (all ∙ omega (arith, none)))
    (cases_eq k (pattern_of s))

-- ---- the lines

-- the call of a line that the statement runs
its_call : (chains : Chains) (ss : List PatternStatement) (s : PatternStatement) (line : LogLine) (call : ScanCall) (h : RunsHere chains ss s line call) → 0 < length (round_calls s) → call_of_round (round_calls s) (before_it ss s) line ≡ call
its_call chains ss s line call h some =
    let within : h.number < length (calls_run s) = slice_get_within (calls_run s) h.number call h.call_is in
    let number : line.scan - before_it ss s - 1 ≡ h.number = omega (arith, h.scan) in
    ap (λ n. call_at (round_calls s) (n % length (round_calls s))) number
    ∙ sym (over_call (times_of s) h.number (round_calls s) some (omega (arith, within, count_run s)))
    ∙ ap (λ cs. call_at cs h.number) (sym (statement_calls s))
    ∙ get_or_from_slice_get (calls_run s) h.number call no_call h.call_is

-- a line whose scan call the statement runs
pub record IsRunHere (ss : List PatternStatement) (s : PatternStatement) (line : LogLine) : Type 0 where
  pub pattern : line.pattern ≡ pattern_of s + 1
  pub above : before_it ss s < line.scan
  pub upto : line.scan ≤ before_it ss s + times_of s * length (round_calls s)

run_here : (chains : Chains) (ss : List PatternStatement) (s : PatternStatement) (line : LogLine) (call : ScanCall) → RunsHere chains ss s line call → IsRunHere ss s line
run_here chains ss s line call h =
    record { pattern = h.pattern; above = omega (arith, h.scan); upto = omega (arith, h.scan, slice_get_within (calls_run s) h.number call h.call_is, count_run s) }

place_of_round : (chains : Chains) (ss : List PatternStatement) (s : PatternStatement) (line : LogLine) → IsRunHere ss s line → 0 < length (round_calls s) → IsPlaceIn chains (call_of_round (round_calls s) (before_it ss s) line) line
    → RunsHere chains ss s line (call_of_round (round_calls s) (before_it ss s) line)
place_of_round chains ss s line h some place =
    let j : ℕ = line.scan - before_it ss s - 1 in
    let within : j < times_of s * length (round_calls s) = omega (arith, h.above, h.upto) in
    record {
      number = j;
      pattern = h.pattern;
      scan = omega (arith, h.above);
      call_is = slice_get-get_or (calls_run s) j no_call (omega (arith, within, count_run s))
          ∙ ap Some (ap (λ cs. call_at cs j) (statement_calls s) ∙ over_call (times_of s) j (round_calls s) some within);
      place = place;
    }

-- a line stays as it was where the statement doesn't run its scan call
pub found_stays : (chains others : Chains) (ss : List PatternStatement) (s : PatternStatement) (line : LogLine) (mapped : Option LogLine) → IsFoundIn chains others ss line mapped → (IsRunHere ss s line → ⊥) → IsFoundIn chains others (ss ++ s ∷ []) line mapped
found_stays chains others ss s line None none out =
    λ call p. ⊎_elim (λ (q : IsPlace (played others ss) line call). none call q) (λ (h : RunsHere others ss s line call). out (run_here others ss s line call h)) (place_split others ss s line call p)
found_stays chains others ss s line (Some mapped) found out = ((found.0.0, place_before others ss s line found.0.0 found.0.1), found.1)

-- or where it was found
pub found_kept : (chains others : Chains) (ss : List PatternStatement) (s : PatternStatement) (line : LogLine) (mapped : Option LogLine) → IsFoundIn chains others ss line mapped → 0 < length (round_calls s)
    → (IsPlaceIn others (call_of_round (round_calls s) (before_it ss s) line) line → ⊥) → IsFoundIn chains others (ss ++ s ∷ []) line mapped
found_kept chains others ss s line None none some out =
    λ call p.
    ⊎_elim (λ (q : IsPlace (played others ss) line call). none call q)
    (λ (h : RunsHere others ss s line call). out (subst (λ (c : ScanCall). IsPlaceIn others c line) (sym (its_call others ss s line call h some)) h.place))
    (place_split others ss s line call p)
found_kept chains others ss s line (Some mapped) found some out = ((found.0.0, place_before others ss s line found.0.0 found.0.1), found.1)

-- and what was tried with its scan call is known
pub found_tried : (chains others : Chains) (ss : List PatternStatement) (s : PatternStatement) (line : LogLine) (before after : Option LogLine) → IsFoundIn chains others ss line before → IsRunHere ss s line → 0 < length (round_calls s)
    → IsTried chains others (call_of_round (round_calls s) (before_it ss s) line) line before after → IsFoundIn chains others (ss ++ s ∷ []) line after
found_tried chains others ss s line before after known here some (inl stays) =
    subst (λ (m : Option LogLine). IsFoundIn chains others (ss ++ s ∷ []) line m) (sym stays.1) (found_kept chains others ss s line before known some stays.0)
found_tried chains others ss s line before after known here some (inr is) =
    subst (λ (m : Option LogLine). IsFoundIn chains others (ss ++ s ∷ []) line m) (sym is.1)
    ((call_of_round (round_calls s) (before_it ss s) line, place_here others ss s line (call_of_round (round_calls s) (before_it ss s) line) (place_of_round others ss s line here some is.0)), refl)

-- ---- the stretch of a statement's lines

pub in_stretch : (ss : List PatternStatement) (s : PatternStatement) (line : LogLine) (first end : ℕ) → first ≡ before_it ss s + 1 → end ≡ before_it ss s + times_of s * length (round_calls s) + 1
    → (IsEarlier (pattern_of s + 1) first line → ⊥) → IsEarlier (pattern_of s + 1) end line → IsRunHere ss s line
in_stretch ss s line first end e f late (inl p) = absurd (late (inl p))
in_stretch ss s line first end e f late (inr p) =
    ⊎_elim (λ (l : line.scan < first). absurd (late (inr (p.0, l)))) (λ (g : first ≤ line.scan). record { pattern = p.0; above = omega (arith, e, g); upto = omega (arith, f, p.1) }) (cases_lt line.scan first)

pub not_before_stretch : (ss : List PatternStatement) (s : PatternStatement) (line : LogLine) (first : ℕ) → first ≡ before_it ss s + 1 → IsEarlier (pattern_of s + 1) first line → IsRunHere ss s line → ⊥
not_before_stretch ss s line first e (inl p) h = omega (arith, p, h.pattern)
not_before_stretch ss s line first e (inr p) h = omega (arith, p.1, e, h.above)

pub not_behind_stretch : (ss : List PatternStatement) (s : PatternStatement) (line : LogLine) (end : ℕ) → end ≡ before_it ss s + times_of s * length (round_calls s) + 1 → (IsEarlier (pattern_of s + 1) end line → ⊥) → IsRunHere ss s line → ⊥
not_behind_stretch ss s line end e late h = late (inr (h.pattern, omega (arith, e, h.upto)))
