-- Tokens cut into statements: what the first statement is, and that there is one cut only.
use Rattle.std.proofs.Common.{◌≡◌, ℕ, zero, suc, ◌+◌, ◌<◌, ◌≤◌, Bool, true, false, List, [], ◌∷◌, ◌++◌, length, take, drop, ◌⊎◌, inl, inr, refl, sym, ap, ◌∙◌, arith, length-take, length-drop}
use Rattle.std.proofs.lemmas.Bool.{cases_order, cond_both, both_ways}
use Rattle.std.proofs.lemmas.List.{take-append-drop, take-take, length-append}
use Rattle.std.proofs.Math.Seq.{drop-append_seam, take-append_seam}
use Rattle.token_forms.specs.Tokens.{Token}
use Rattle.stil_tokens.specs.StilStatements.{token_ends, depth_behind, closed_in, is_closed, len_in, statement_len, statements_within, stil_statements, IsFirstStatement, IsStatementSplit, OnlyStatementsLaw, StatementsLaw, FirstLaw}

-- the front has the end of a statement, or is all, and no shorter one has it
record Closes (closed : List Token → Bool) (ts : List Token) (n : ℕ) : Type 0 where
  some : 0 < n
  within : n ≤ length ts
  ends : (closed (take n ts) ≡ true) ⊎ (drop n ts ≡ [])
  shortest : (m : ℕ) → m < n → closed (take m ts) ≡ false

-- one token more, which is not the end
closes_later : (depth : ℕ) (t : Token) (ts : List Token) (n : ℕ) → token_ends depth t.text ≡ false → Closes (closed_in false (depth_behind depth t.text)) ts n → Closes (closed_in false depth) (t ∷ ts) (1 + n)
closes_later depth t ts n here h =
    let k : 1 + n ≡ suc n = omega arith in
    let some = h.some in
    let within = h.within in
    let more : (us : List Token) → closed_in false depth (t ∷ us) ≡ closed_in false (depth_behind depth t.text) us = λ us. ap (λ b. closed_in b (depth_behind depth t.text) us) here in
    let ends : (closed_in false depth (t ∷ take n ts) ≡ true) ⊎ (drop n ts ≡ []) = elim h.ends [ inl e ↦ inl (more (take n ts) ∙ e) | inr e ↦ inr e ] in
    let short : (m : ℕ) → m < suc n → closed_in false depth (take m (t ∷ ts)) ≡ false
    = λ m. elim m as (λ m. m < suc n → closed_in false depth (take m (t ∷ ts)) ≡ false) [
      | zero ↦ λ lt. refl
      | suc m ↦ λ lt. more (take m ts) ∙ h.shortest m (omega arith)
    ]
    in
    rw k (record { some = omega arith; within = omega arith; ends = ends; shortest = short })

-- the first token closes
closes_here : (depth : ℕ) (t : Token) (ts : List Token) → token_ends depth t.text ≡ true → Closes (closed_in false depth) (t ∷ ts) 1
closes_here depth t ts here =
    record {
      some = omega arith;
      within = omega arith;
      ends = inl here;
      shortest = λ m. elim m as (λ m. m < 1 → closed_in false depth (take m (t ∷ ts)) ≡ false) [ zero ↦ λ lt. refl | suc m ↦ λ lt. absurd (omega arith) ];
    }

closes_in : (depth : ℕ) (t : Token) (ts : List Token) → Closes (closed_in false depth) (t ∷ ts) (len_in depth (t ∷ ts))
closes_in depth t [] =
    cond_both (token_ends depth t.text) 1 1 (Closes (closed_in false depth) (t ∷ [])) (λ is. closes_here depth t [] is)
    (λ not. record {
      some = omega arith;
      within = omega arith;
      ends = inr refl;
      shortest = λ m. elim m as (λ m. m < 1 → closed_in false depth (take m (t ∷ [])) ≡ false) [ zero ↦ λ lt. refl | suc m ↦ λ lt. absurd (omega arith) ];
    })
closes_in depth t (u ∷ us) =
    cond_both (token_ends depth t.text) 1 (1 + len_in (depth_behind depth t.text) (u ∷ us)) (Closes (closed_in false depth) (t ∷ u ∷ us)) (λ is. closes_here depth t (u ∷ us) is)
    (λ here. closes_later depth t (u ∷ us) (len_in (depth_behind depth t.text) (u ∷ us)) here (closes_in (depth_behind depth t.text) u us))

closes : (t : Token) (ts : List Token) → Closes is_closed (t ∷ ts) (statement_len (t ∷ ts))
closes t ts = closes_in 0 t ts

pub statement_len-some : (t : Token) (ts : List Token) → 0 < statement_len (t ∷ ts)
statement_len-some t ts = (closes t ts).some

pub statement_len-le : (ts : List Token) → statement_len ts ≤ length ts
statement_len-le [] = omega arith
statement_len-le (t ∷ ts) = (closes t ts).within

-- the front of that length is the first statement
pub first_statement : (t : Token) (ts : List Token) → IsFirstStatement (take (statement_len (t ∷ ts)) (t ∷ ts)) (t ∷ ts)
first_statement t ts =
    let n = statement_len (t ∷ ts) in
    let c = closes t ts in
    let some = c.some in
    let within = c.within in
    let len = length-take n (t ∷ ts) in
    record {
      rest = drop n (t ∷ ts);
      is = sym (take-append-drop n (t ∷ ts));
      some = omega arith;
      ends = c.ends;
      shortest = λ m lt. ap is_closed (take-take m n (t ∷ ts) (omega arith)) ∙ c.shortest m (omega arith);
    }

-- and no other front is
front_is : (s ts : List Token) (f : IsFirstStatement s ts) → s ≡ take (length s) ts
front_is s ts f = sym (take-append_seam s f.rest) ∙ ap (λ (x : List Token). take (length s) x) (sym f.is)

no_shorter : (s u ts : List Token) → IsFirstStatement s ts → IsFirstStatement u ts → length s < length u → ⊥
no_shorter s u ts f g lt =
    let cut : take (length s) u ≡ s =
    ap (λ (x : List Token). take (length s) x) (front_is u ts g) ∙ take-take (length s) (length u) ts (omega arith) ∙ sym (front_is s ts f)
    in
    let open_is : is_closed s ≡ false = ap is_closed (sym cut) ∙ g.shortest (length s) lt in
    let all = ap (λ (x : List Token). length x) f.is ∙ length-append s f.rest in
    let whole = ap (λ (x : List Token). length x) g.is ∙ length-append u g.rest in
    elim f.ends [ inl e ↦ both_ways (is_closed s) open_is e | inr e ↦ let none = ap (λ (x : List Token). length x) e in omega arith ]

first_only : (s u ts : List Token) → IsFirstStatement s ts → IsFirstStatement u ts → s ≡ u
first_only s u ts f g =
    elim (cases_order (length s) (length u)) [
      | inl e ↦ front_is s ts f ∙ ap (λ (n : ℕ). take n ts) e ∙ sym (front_is u ts g)
      | inr (inl lt) ↦ absurd (no_shorter s u ts f g lt)
      | inr (inr gt) ↦ absurd (no_shorter u s ts g f gt)
    ]

-- however many more statements there could be
within_same : (m n : ℕ) (ts : List Token) → length ts ≤ m → length ts ≤ n → statements_within m ts ≡ statements_within n ts
unfolding statements_within
within_same zero zero ts short short' = refl
within_same zero (suc n) [] short short' = refl
within_same zero (suc n) (t ∷ ts) short short' = absurd (omega arith)
within_same (suc m) zero [] short short' = refl
within_same (suc m) zero (t ∷ ts) short short' = absurd (omega arith)
within_same (suc m) (suc n) [] short short' = refl
within_same (suc m) (suc n) (t ∷ ts) short short' =
    let len = length-drop (statement_len (t ∷ ts)) (t ∷ ts) in
    let some = statement_len-some t ts in
    ap (λ (ss : List (List Token)). take (statement_len (t ∷ ts)) (t ∷ ts) ∷ ss) (within_same m n (drop (statement_len (t ∷ ts)) (t ∷ ts)) (omega arith) (omega arith))

pub first_law : FirstLaw
unfolding statements_within
first_law t ts =
    let rest = drop (statement_len (t ∷ ts)) (t ∷ ts) in
    let len = length-drop (statement_len (t ∷ ts)) (t ∷ ts) in
    let some = statement_len-some t ts in
    ap (λ (ss : List (List Token)). take (statement_len (t ∷ ts)) (t ∷ ts) ∷ ss) (within_same (length ts) (length rest) rest (omega arith) (omega arith))

split_within : (n : ℕ) (ts : List Token) → length ts ≤ n → IsStatementSplit ts (statements_within n ts)
unfolding statements_within first_statement
split_within zero [] short = refl
split_within zero (t ∷ ts) short = absurd (omega arith)
split_within (suc n) [] short = refl
split_within (suc n) (t ∷ ts) short =
    let len = length-drop (statement_len (t ∷ ts)) (t ∷ ts) in
    let some = statement_len-some t ts in
    (first_statement t ts, split_within n (drop (statement_len (t ∷ ts)) (t ∷ ts)) (omega arith))

pub statements_law : StatementsLaw
statements_law ts = split_within (length ts) ts (omega arith)

-- the statement and those behind it, where they are the split
behind_first : (s ts : List Token) (ss : List (List Token)) (f : IsFirstStatement s ts) → ss ≡ stil_statements f.rest → s ∷ ss ≡ stil_statements ts
unfolding first_statement
behind_first s [] ss f later =
    let some = f.some in
    let none = ap (λ (x : List Token). length x) f.is ∙ length-append s f.rest in
    absurd (omega arith)
behind_first s (t ∷ ts) ss f later =
    let g = first_statement t ts in
    let same = first_only s (take (statement_len (t ∷ ts)) (t ∷ ts)) (t ∷ ts) f g in
    let cut : f.rest ≡ drop (statement_len (t ∷ ts)) (t ∷ ts) = rest_same s (take (statement_len (t ∷ ts)) (t ∷ ts)) (t ∷ ts) f.rest g.rest same f.is g.is in
    ap (λ (x : List Token). x ∷ ss) same ∙ ap (λ (x : List (List Token)). take (statement_len (t ∷ ts)) (t ∷ ts) ∷ x) (later ∙ ap stil_statements cut) ∙ sym (first_law t ts)
  where
    rest_same : (s u ts a b : List Token) → s ≡ u → ts ≡ s ++ a → ts ≡ u ++ b → a ≡ b
    rest_same s u ts a b same first second =
        sym (drop-append_seam s a) ∙ ap (λ (x : List Token). drop (length s) x) (sym first ∙ second) ∙ ap (λ (n : ℕ). drop n (u ++ b)) (ap (λ (x : List Token). length x) same) ∙ drop-append_seam u b

pub only_statements_law : OnlyStatementsLaw
unfolding statements_within
only_statements_law ts [] split = sym (ap stil_statements split)
only_statements_law ts (s ∷ ss) split = behind_first s ts ss split.0 (only_statements_law split.0.rest ss split.1)
