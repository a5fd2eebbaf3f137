-- Tokens cut into statements: what the first statement is, and that there is one cut only.
use Rattle.std.proofs.Common.{◌≡◌, ℕ, zero, suc, ◌+◌, ◌<◌, ◌≤◌, Bool, true, false, min, List, [], ◌∷◌, ◌++◌, length, take, drop, ◌⊎◌, inl, inr, refl, sym, ap, ◌∙◌, arith, length-take, length-drop, codes}
use Rattle.std.specs.Str.{bytes_eq}
use Rattle.std.proofs.lemmas.Bool.{cases_order, cond_both, both_ways}
use Rattle.std.proofs.lemmas.Bool.Decides.{nat_tests}
use Rattle.std.proofs.lemmas.List.{take-append-drop, take-take, length-append}
use Rattle.std.proofs.Math.Seq.{drop-append_seam, take-append_seam}
use Rattle.token_forms.specs.Tokens.{Token}
use Rattle.def_tokens.specs.DefStatements.{ends_with, is_closed, count_with, statement_len, statements_within, def_statements, IsFirstStatement, IsStatementSplit, OnlyStatementsLaw, StatementsLaw, FirstLaw}

pub count_with-le : (w : List ℕ) (ts : List Token) → count_with w ts ≤ length ts
count_with-le w [] = omega arith
count_with-le w (t ∷ ts) = let h = count_with-le w ts in grind (arith, nat_tests)

pub count_with-some : (w : List ℕ) (t : Token) (ts : List Token) → 0 < count_with w (t ∷ ts)
count_with-some w t ts = grind (arith, nat_tests)

ends_more : (w : List ℕ) (t : Token) (us : List Token) → ends_with w us ≡ true → ends_with w (t ∷ us) ≡ true
ends_more w t [] h = absurd cc
ends_more w t (u ∷ us) h = h

ends_less : (w : List ℕ) (t : Token) (us : List Token) → bytes_eq t.text w ≡ false → ends_with w us ≡ false → ends_with w (t ∷ us) ≡ false
ends_less w t [] here h = here
ends_less w t (u ∷ us) here h = h

-- the front has the end of a statement, or is all, and no shorter one has it
record Closes (closed : List Token → Bool) (ts : List Token) (n : ℕ) : Type 0 where
  some : 0 < n
  within : n ≤ length ts
  ends : (closed (take n ts) ≡ true) ⊎ (drop n ts ≡ [])
  shortest : (m : ℕ) → m < n → closed (take m ts) ≡ false

-- one token more, which is not the end
closes_later : (w : List ℕ) (t : Token) (ts : List Token) (n : ℕ) → bytes_eq t.text w ≡ false → Closes (ends_with w) ts n → Closes (ends_with w) (t ∷ ts) (1 + n)
closes_later w t ts n here h =
    let k : 1 + n ≡ suc n = omega arith in
    let some = h.some in
    let within = h.within in
    let ends : (ends_with w (t ∷ take n ts) ≡ true) ⊎ (drop n ts ≡ []) = elim h.ends [ inl e ↦ inl (ends_more w t (take n ts) e) | inr e ↦ inr e ] in
    let short : (m : ℕ) → m < suc n → ends_with w (take m (t ∷ ts)) ≡ false
    = λ m. elim m as (λ m. m < suc n → ends_with w (take m (t ∷ ts)) ≡ false) [
      | zero ↦ λ lt. refl
      | suc m ↦ λ lt. ends_less w t (take m ts) here (h.shortest m (omega arith))
    ]
    in
    rw k (record { some = omega arith; within = omega arith; ends = ends; shortest = short })

-- the first token closes
closes_here : (closed : List Token → Bool) (t : Token) (ts : List Token) → closed [] ≡ false → closed (t ∷ []) ≡ true → Closes closed (t ∷ ts) 1
closes_here closed t ts none here =
    record {
      some = omega arith;
      within = omega arith;
      ends = inl here;
      shortest = λ m. elim m as (λ m. m < 1 → closed (take m (t ∷ ts)) ≡ false) [ zero ↦ λ lt. none | suc m ↦ λ lt. absurd (omega arith) ];
    }

count_closes : (w : List ℕ) (t : Token) (ts : List Token) → Closes (ends_with w) (t ∷ ts) (count_with w (t ∷ ts))
count_closes w t [] =
    cond_both (bytes_eq t.text w) 1 1 (Closes (ends_with w) (t ∷ [])) (λ is. closes_here (ends_with w) t [] refl is)
    (λ not. record {
      some = omega arith;
      within = omega arith;
      ends = inr refl;
      shortest = λ m. elim m as (λ m. m < 1 → ends_with w (take m (t ∷ [])) ≡ false) [ zero ↦ λ lt. refl | suc m ↦ λ lt. absurd (omega arith) ];
    })
count_closes w t (u ∷ us) =
    cond_both (bytes_eq t.text w) 1 (1 + count_with w (u ∷ us)) (Closes (ends_with w) (t ∷ u ∷ us)) (λ is. closes_here (ends_with w) t (u ∷ us) refl is)
    (λ here. closes_later w t (u ∷ us) (count_with w (u ∷ us)) here (count_closes w u us))

end_closes : (t : Token) (ts : List Token) → bytes_eq t.text (codes "END") ≡ true → Closes is_closed (t ∷ ts) (min 2 (1 + length ts))
end_closes t [] e =
    record {
      some = omega arith;
      within = omega arith;
      ends = inr refl;
      shortest = λ m. elim m as (λ m. m < 1 → is_closed (take m (t ∷ [])) ≡ false) [ zero ↦ λ lt. refl | suc m ↦ λ lt. absurd (omega arith) ];
    }
end_closes t (u ∷ us) e =
    let k : min 2 (1 + length (u ∷ us)) ≡ 2 = omega arith in
    let one : is_closed (t ∷ []) ≡ false = rw e refl in
    let two : is_closed (t ∷ u ∷ []) ≡ true = rw e refl in
    let short : (m : ℕ) → m < 2 → is_closed (take m (t ∷ u ∷ us)) ≡ false
    = λ m. elim m as (λ m. m < 2 → is_closed (take m (t ∷ u ∷ us)) ≡ false) [
      | zero ↦ λ lt. refl
      | suc m ↦ elim m as (λ m. suc m < 2 → is_closed (t ∷ take m (u ∷ us)) ≡ false) [ zero ↦ λ lt. one | suc m ↦ λ lt. absurd (omega arith) ]
    ]
    in
    rw k (record { some = omega arith; within = omega arith; ends = inl two; shortest = short })

module _ (t : Token) (ts : List Token) (no_end : bytes_eq t.text (codes "END") ≡ false) where
  definitions_close : bytes_eq t.text (codes "PROPERTYDEFINITIONS") ≡ true → Closes is_closed (t ∷ ts) 1
  definitions_close e = closes_here is_closed t ts refl (rw (no_end, e) refl)

  module _ (no_definitions : bytes_eq t.text (codes "PROPERTYDEFINITIONS") ≡ false) where
    extension : (us : List Token) → bytes_eq t.text (codes "BEGINEXT") ≡ true → is_closed (t ∷ us) ≡ ends_with (codes "ENDEXT") us
    extension us e = rw (no_end, no_definitions, e) refl

    plain : (us : List Token) → bytes_eq t.text (codes "BEGINEXT") ≡ false → is_closed (t ∷ us) ≡ ends_with (codes ";") (t ∷ us)
    plain us e = rw (no_end, no_definitions, e) refl

    extension_closes : (us : List Token) → ts ≡ us → bytes_eq t.text (codes "BEGINEXT") ≡ true → Closes is_closed (t ∷ us) (1 + count_with (codes "ENDEXT") us)
    extension_closes [] same e =
        let one : is_closed (t ∷ []) ≡ false = extension [] e in
        record {
          some = omega arith;
          within = omega arith;
          ends = inr refl;
          shortest = λ m. elim m as (λ m. m < 1 → is_closed (take m (t ∷ [])) ≡ false) [ zero ↦ λ lt. refl | suc m ↦ λ lt. absurd (omega arith) ];
        }
    extension_closes (u ∷ us) same e =
        let n = count_with (codes "ENDEXT") (u ∷ us) in
        let h = count_closes (codes "ENDEXT") u us in
        let k : 1 + n ≡ suc n = omega arith in
        let some = h.some in
        let within = h.within in
        let ends : (is_closed (t ∷ take n (u ∷ us)) ≡ true) ⊎ (drop n (u ∷ us) ≡ []) = elim h.ends [ inl e' ↦ inl (extension (take n (u ∷ us)) e ∙ e') | inr e' ↦ inr e' ] in
        let short : (m : ℕ) → m < suc n → is_closed (take m (t ∷ u ∷ us)) ≡ false
        = λ m. elim m as (λ m. m < suc n → is_closed (take m (t ∷ u ∷ us)) ≡ false) [
          | zero ↦ λ lt. refl
          | suc m ↦ λ lt. extension (take m (u ∷ us)) e ∙ h.shortest m (omega arith)
        ]
        in
        rw k (record { some = omega arith; within = omega arith; ends = ends; shortest = short })

    plain_closes : bytes_eq t.text (codes "BEGINEXT") ≡ false → Closes is_closed (t ∷ ts) (count_with (codes ";") (t ∷ ts))
    plain_closes e =
        let n = count_with (codes ";") (t ∷ ts) in
        let h = count_closes (codes ";") t ts in
        let at : (m : ℕ) → is_closed (take m (t ∷ ts)) ≡ ends_with (codes ";") (take m (t ∷ ts))
        = λ m. elim m as (λ m. is_closed (take m (t ∷ ts)) ≡ ends_with (codes ";") (take m (t ∷ ts))) [ zero ↦ refl | suc m ↦ plain (take m ts) e ]
        in
        record {
          some = h.some;
          within = h.within;
          ends = elim h.ends [ inl e' ↦ inl (at n ∙ e') | inr e' ↦ inr e' ];
          shortest = λ m lt. at m ∙ h.shortest m lt;
        }

closes : (t : Token) (ts : List Token) → Closes is_closed (t ∷ ts) (statement_len (t ∷ ts))
unfolding statement_len
closes t ts =
    cond_both _ _ _ (Closes is_closed (t ∷ ts)) (end_closes t ts)
    (λ no_end. cond_both _ _ _ (Closes is_closed (t ∷ ts)) (definitions_close t ts no_end)
    (λ no_definitions. cond_both _ _ _ (Closes is_closed (t ∷ ts)) (extension_closes t ts no_end no_definitions ts refl) (plain_closes t ts no_end no_definitions)))

pub statement_len-some : (t : Token) (ts : List Token) → 0 < statement_len (t ∷ ts)
statement_len-some t ts = (closes t ts).some

pub statement_len-le : (ts : List Token) → statement_len ts ≤ length ts
unfolding statement_len
statement_len-le [] = omega arith
statement_len-le (t ∷ ts) = (closes t ts).within

-- the front of that length is the first statement
pub first_statement : (t : Token) (ts : List Token) → IsFirstStatement (take (statement_len (t ∷ ts)) (t ∷ ts)) (t ∷ ts)
first_statement t ts =
    let n = statement_len (t ∷ ts) in
    let c = closes t ts in
    let some = c.some in
    let within = c.within in
    let len = length-take n (t ∷ ts) in
    record {
      rest = drop n (t ∷ ts);
      is = sym (take-append-drop n (t ∷ ts));
      some = omega arith;
      ends = c.ends;
      shortest = λ m lt. ap is_closed (take-take m n (t ∷ ts) (omega arith)) ∙ c.shortest m (omega arith);
    }

-- and no other front is
front_is : (s ts : List Token) (f : IsFirstStatement s ts) → s ≡ take (length s) ts
front_is s ts f = sym (take-append_seam s f.rest) ∙ ap (λ (x : List Token). take (length s) x) (sym f.is)

no_shorter : (s u ts : List Token) → IsFirstStatement s ts → IsFirstStatement u ts → length s < length u → ⊥
no_shorter s u ts f g lt =
    let cut : take (length s) u ≡ s =
    ap (λ (x : List Token). take (length s) x) (front_is u ts g) ∙ take-take (length s) (length u) ts (omega arith) ∙ sym (front_is s ts f)
    in
    let open_is : is_closed s ≡ false = ap is_closed (sym cut) ∙ g.shortest (length s) lt in
    let all = ap (λ (x : List Token). length x) f.is ∙ length-append s f.rest in
    let whole = ap (λ (x : List Token). length x) g.is ∙ length-append u g.rest in
    elim f.ends [ inl e ↦ both_ways (is_closed s) open_is e | inr e ↦ let none = ap (λ (x : List Token). length x) e in omega arith ]

first_only : (s u ts : List Token) → IsFirstStatement s ts → IsFirstStatement u ts → s ≡ u
first_only s u ts f g =
    elim (cases_order (length s) (length u)) [
      | inl e ↦ front_is s ts f ∙ ap (λ (n : ℕ). take n ts) e ∙ sym (front_is u ts g)
      | inr (inl lt) ↦ absurd (no_shorter s u ts f g lt)
      | inr (inr gt) ↦ absurd (no_shorter u s ts g f gt)
    ]

-- however many more statements there could be
within_same : (m n : ℕ) (ts : List Token) → length ts ≤ m → length ts ≤ n → statements_within m ts ≡ statements_within n ts
unfolding statements_within
within_same zero zero ts short short' = refl
within_same zero (suc n) [] short short' = refl
within_same zero (suc n) (t ∷ ts) short short' = absurd (omega arith)
within_same (suc m) zero [] short short' = refl
within_same (suc m) zero (t ∷ ts) short short' = absurd (omega arith)
within_same (suc m) (suc n) [] short short' = refl
within_same (suc m) (suc n) (t ∷ ts) short short' =
    let len = length-drop (statement_len (t ∷ ts)) (t ∷ ts) in
    let some = statement_len-some t ts in
    ap (λ (ss : List (List Token)). take (statement_len (t ∷ ts)) (t ∷ ts) ∷ ss) (within_same m n (drop (statement_len (t ∷ ts)) (t ∷ ts)) (omega arith) (omega arith))

pub first_law : FirstLaw
unfolding statements_within
first_law t ts =
    let rest = drop (statement_len (t ∷ ts)) (t ∷ ts) in
    let len = length-drop (statement_len (t ∷ ts)) (t ∷ ts) in
    let some = statement_len-some t ts in
    ap (λ (ss : List (List Token)). take (statement_len (t ∷ ts)) (t ∷ ts) ∷ ss) (within_same (length ts) (length rest) rest (omega arith) (omega arith))

split_within : (n : ℕ) (ts : List Token) → length ts ≤ n → IsStatementSplit ts (statements_within n ts)
unfolding statements_within first_statement statement_len
split_within zero [] short = refl
split_within zero (t ∷ ts) short = absurd (omega arith)
split_within (suc n) [] short = refl
split_within (suc n) (t ∷ ts) short =
    let len = length-drop (statement_len (t ∷ ts)) (t ∷ ts) in
    let some = statement_len-some t ts in
    (first_statement t ts, split_within n (drop (statement_len (t ∷ ts)) (t ∷ ts)) (omega arith))

pub statements_law : StatementsLaw
statements_law ts = split_within (length ts) ts (omega arith)

-- the statement and those behind it, where they are the split
behind_first : (s ts : List Token) (ss : List (List Token)) (f : IsFirstStatement s ts) → ss ≡ def_statements f.rest → s ∷ ss ≡ def_statements ts
unfolding first_statement statement_len
behind_first s [] ss f later =
    let some = f.some in
    let none = ap (λ (x : List Token). length x) f.is ∙ length-append s f.rest in
    absurd (omega arith)
behind_first s (t ∷ ts) ss f later =
    let g = first_statement t ts in
    let same = first_only s (take (statement_len (t ∷ ts)) (t ∷ ts)) (t ∷ ts) f g in
    let cut : f.rest ≡ drop (statement_len (t ∷ ts)) (t ∷ ts) = rest_same s (take (statement_len (t ∷ ts)) (t ∷ ts)) (t ∷ ts) f.rest g.rest same f.is g.is in
    ap (λ (x : List Token). x ∷ ss) same ∙ ap (λ (x : List (List Token)). take (statement_len (t ∷ ts)) (t ∷ ts) ∷ x) (later ∙ ap def_statements cut) ∙ sym (first_law t ts)
  where
    rest_same : (s u ts a b : List Token) → s ≡ u → ts ≡ s ++ a → ts ≡ u ++ b → a ≡ b
    rest_same s u ts a b same first second =
        sym (drop-append_seam s a) ∙ ap (λ (x : List Token). drop (length s) x) (sym first ∙ second) ∙ ap (λ (n : ℕ). drop n (u ++ b)) (ap (λ (x : List Token). length x) same) ∙ drop-append_seam u b

pub only_statements_law : OnlyStatementsLaw
unfolding statements_within
only_statements_law ts [] split = sym (ap def_statements split)
only_statements_law ts (s ∷ ss) split = behind_first s ts ss split.0 (only_statements_law split.0.rest ss split.1)
