-- The first statement of tokens side by side, and all of them.
use Rattle.std.proofs.Common.{◌≡◌, ℕ, zero, suc, ◌+◌, ◌-◌, ◌<◌, ◌≤◌, Bool, true, false, ◌&&◌, ◌||◌, not, cond, eqb, inl, inr, List, [], ◌∷◌, ◌++◌, length, take, drop, map, filter, refl, sym, ap, ◌∙◌, subst, arith}
use Rattle.std.specs.List.{AllByRecursion as Each}
use Rattle.std.proofs.lemmas.Bool.{cases_Bool}
use Rattle.token_forms.specs.Tokens.{Token}
use Rattle.stil_tokens.specs.StilStatements.{is_only, token_ends, depth_behind, closed_in, len_in, statement_len, statements_within, stil_statements}
use Rattle.stil_tokens.proofs.StilCuts.{first_law}
use Rattle.stil_syntax.specs.Shapes.{closes_nothing, is_empty, body_statements}
use Rattle.head_alike.specs.Steps.{Step, Keep, Anew, olds, news, AreSteps, IsAnew, starts_behind, AreFree, meets}
use Rattle.head_alike.specs.Laws.{IsOne, SplitsAlike, SplitLaw}
use Rattle.head_alike.proofs.Words.{free_word}
use Rattle.head_alike.proofs.Ends.{free_end, free_depth, end_starts, len_over, closed_over, nothing_over, take_over, drop_over}

-- both are cut at one step
pub record Cut (allow begins : Bool) (old new : ℕ) (s : List Step) : Type 0 where
  pub front : List Step
  pub rest : List Step
  pub old_front : take old (olds s) ≡ olds front
  pub new_front : take new (news s) ≡ news front
  pub old_rest : drop old (olds s) ≡ olds rest
  pub new_rest : drop new (news s) ≡ news rest
  pub front_are : AreSteps allow begins front
  pub rest_are : AreSteps allow true rest
  pub shorter : length rest ≤ length s - 1

-- the length of a first statement
pub len_here : (depth : ℕ) (t : Token) (ts : List Token) → token_ends depth t.text ≡ true → len_in depth (t ∷ ts) ≡ suc zero
len_here depth t ts e = ap (λ (k : Bool). cond k 1 (1 + len_in (depth_behind depth t.text) ts)) e

pub len_later : (depth : ℕ) (t : Token) (ts : List Token) → token_ends depth t.text ≡ false → len_in depth (t ∷ ts) ≡ suc (len_in (depth_behind depth t.text) ts)
len_later depth t ts e =
    let k : len_in depth (t ∷ ts) ≡ 1 + len_in (depth_behind depth t.text) ts = ap (λ (k : Bool). cond k 1 (1 + len_in (depth_behind depth t.text) ts)) e in
    omega (arith, k)

-- what the first token of the front meets
meets_front : (t : Token) (depth : ℕ) (ts : List Token) → meets t (take (len_in depth ts) ts) ≡ meets t ts
meets_front t depth [] = refl
meets_front t depth (u ∷ us) = elim (cases_Bool (token_ends depth u.text)) [
  | inl e ↦ ap (λ (n : ℕ). meets t (take n (u ∷ us))) (len_here depth u us e)
  | inr e ↦ ap (λ (n : ℕ). meets t (take n (u ∷ us))) (len_later depth u us e)
]

module _ (allow begins : Bool) (t u : Token) (s : List Step) where
  end_keep : t.text ≡ u.text → starts_behind t.text ≡ true → AreSteps allow (starts_behind t.text) s → Cut allow begins 1 1 (Keep t u ∷ s)
  end_keep same starts are = record {
    front = Keep t u ∷ [];
    rest = s;
    old_front = refl;
    new_front = refl;
    old_rest = refl;
    new_rest = refl;
    front_are = (same, refl, tt);
    rest_are = subst (λ (b : Bool). AreSteps allow b s) starts are;
    shorter = omega arith;
  }

  put_keep : (m n : ℕ) → t.text ≡ u.text → meets t (take m (olds s)) ≡ meets u (take n (news s)) → Cut allow (starts_behind t.text) m n s → Cut allow begins (suc m) (suc n) (Keep t u ∷ s)
  put_keep m n same meet c =
      let short = c.shorter in
      record {
        front = Keep t u ∷ c.front;
        rest = c.rest;
        old_front = ap (λ (l : List Token). t ∷ l) c.old_front;
        new_front = ap (λ (l : List Token). u ∷ l) c.new_front;
        old_rest = c.old_rest;
        new_rest = c.new_rest;
        front_are = (same, ap (meets t) (sym c.old_front) ∙ meet ∙ ap (meets u) c.new_front, c.front_are);
        rest_are = c.rest_are;
        shorter = omega (arith, short);
      }

  module _ (xs ys : List Token) (c d : Token) (is : IsAnew allow begins t u xs ys c d) where
    end_anew : AreSteps allow true s → Cut allow begins (suc (length xs + suc zero)) (suc (length ys + suc zero)) (Anew t u xs ys c d ∷ s)
    end_anew are = record {
      front = Anew t u xs ys c d ∷ [];
      rest = s;
      old_front = ap (λ (l : List Token). t ∷ l) (take_over xs (c ∷ olds s) (suc zero));
      new_front = ap (λ (l : List Token). u ∷ l) (take_over ys (d ∷ news s) (suc zero));
      old_rest = drop_over xs (c ∷ olds s) (suc zero);
      new_rest = drop_over ys (d ∷ news s) (suc zero);
      front_are = (is, tt);
      rest_are = are;
      shorter = omega arith;
    }

    put_anew : (m n : ℕ) → Cut allow true m n s → Cut allow begins (suc (length xs + suc m)) (suc (length ys + suc n)) (Anew t u xs ys c d ∷ s)
    put_anew m n k =
        let short = k.shorter in
        record {
          front = Anew t u xs ys c d ∷ k.front;
          rest = k.rest;
          old_front = ap (λ (l : List Token). t ∷ l) (take_over xs (c ∷ olds s) (suc m) ∙ ap (λ (l : List Token). xs ++ c ∷ l) k.old_front);
          new_front = ap (λ (l : List Token). u ∷ l) (take_over ys (d ∷ news s) (suc n) ∙ ap (λ (l : List Token). ys ++ d ∷ l) k.new_front);
          old_rest = drop_over xs (c ∷ olds s) (suc m) ∙ k.old_rest;
          new_rest = drop_over ys (d ∷ news s) (suc n) ∙ k.new_rest;
          front_are = (is, k.front_are);
          rest_are = k.rest_are;
          shorter = omega (arith, short);
        }

-- the length of a first statement that begins anew
pub anew_len : (depth n : ℕ) (t : Token) (xs : List Token) (c : Token) (ts : List Token) → starts_behind t.text ≡ false → AreFree xs → len_in depth (c ∷ ts) ≡ n → len_in depth (t ∷ (xs ++ c ∷ ts)) ≡ suc (length xs + n)
anew_len depth n t xs c ts free f e =
    let a = len_later depth t (xs ++ c ∷ ts) (free_end depth t.text free) in
    let b : len_in (depth_behind depth t.text) (xs ++ c ∷ ts) ≡ len_in depth (xs ++ c ∷ ts) = ap (λ (d : ℕ). len_in d (xs ++ c ∷ ts)) (free_depth depth t.text free) in
    let k = len_over depth xs (c ∷ ts) f in
    omega (arith, a, b, k, e)

pub semicolon_here : (depth : ℕ) (c : Token) → c.text ≡ 59 ∷ [] → eqb depth 0 ≡ true → token_ends depth c.text ≡ true
semicolon_here depth c is e = rw (is, e) refl

pub semicolon_later : (depth : ℕ) (c : Token) → c.text ≡ 59 ∷ [] → eqb depth 0 ≡ false → token_ends depth c.text ≡ false
semicolon_later depth c is e = rw (is, e) refl

pub semicolon_depth : (depth : ℕ) (c : Token) → c.text ≡ 59 ∷ [] → depth_behind depth c.text ≡ depth
semicolon_depth depth c is = rw is refl

cut_by : (allow begins : Bool) (s : List Step) (m n m' n' : ℕ) → m ≡ m' → n ≡ n' → Cut allow begins m' n' s → Cut allow begins m n s
cut_by allow begins s m n m' n' e f c = subst (λ (k : ℕ). Cut allow begins k n s) (sym e) (subst (λ (k : ℕ). Cut allow begins m' k s) (sym f) c)

pub cut : (allow begins : Bool) (depth : ℕ) (s : List Step) → AreSteps allow begins s → Cut allow begins (len_in depth (olds s)) (len_in depth (news s)) s
cut allow begins depth [] are = record { front = []; rest = []; old_front = refl; new_front = refl; old_rest = refl; new_rest = refl; front_are = tt; rest_are = tt; shorter = omega arith }
cut allow begins depth (Keep t u ∷ s) are = elim (cases_Bool (token_ends depth t.text)) [
  | inl e ↦ cut_by allow begins (Keep t u ∷ s) _ _ 1 1 (len_here depth t (olds s) e) (len_here depth u (news s) (ap (token_ends depth) (sym are.0) ∙ e))
      (end_keep allow begins t u s are.0 (end_starts depth t.text e) are.2)
  | inr e ↦
      let behind = depth_behind depth t.text in
      let new_len : len_in depth (u ∷ news s) ≡ suc (len_in behind (news s)) =
      len_later depth u (news s) (ap (token_ends depth) (sym are.0) ∙ e) ∙ ap (λ (w : List ℕ). suc (len_in (depth_behind depth w) (news s))) (sym are.0) in
      cut_by allow begins (Keep t u ∷ s) _ _ (suc (len_in behind (olds s))) (suc (len_in behind (news s))) (len_later depth t (olds s) e) new_len
      (put_keep allow begins t u s (len_in behind (olds s)) (len_in behind (news s)) are.0 (meets_front t behind (olds s) ∙ are.1 ∙ sym (meets_front u behind (news s))) (cut allow (starts_behind t.text) behind s are.2))
]
cut allow begins depth (Anew t u xs ys c d ∷ s) are =
    let is = are.0 in
    let free : starts_behind u.text ≡ false = ap starts_behind (sym is.word) ∙ (free_word t.text is.which) in
    elim (cases_Bool (eqb depth 0)) [
      | inl e ↦
          cut_by allow begins (Anew t u xs ys c d ∷ s) _ _ (suc (length xs + suc zero)) (suc (length ys + suc zero))
          (anew_len depth 1 t xs c (olds s) (free_word t.text is.which) is.old_free (len_here depth c (olds s) (semicolon_here depth c is.old_end e)))
          (anew_len depth 1 u ys d (news s) free is.new_free (len_here depth d (news s) (semicolon_here depth d is.new_end e)))
          (end_anew allow begins t u s xs ys c d is are.1)
      | inr e ↦
          cut_by allow begins (Anew t u xs ys c d ∷ s) _ _ (suc (length xs + suc (len_in depth (olds s)))) (suc (length ys + suc (len_in depth (news s))))
          (anew_len depth (suc (len_in depth (olds s))) t xs c (olds s) (free_word t.text is.which) is.old_free (len_later depth c (olds s) (semicolon_later depth c is.old_end e) ∙ ap (λ (k : ℕ). suc (len_in k (olds s))) (semicolon_depth depth c is.old_end)))
          (anew_len depth (suc (len_in depth (news s))) u ys d (news s) free is.new_free (len_later depth d (news s) (semicolon_later depth d is.new_end e) ∙ ap (λ (k : ℕ). suc (len_in k (news s))) (semicolon_depth depth d is.new_end)))
          (put_anew allow begins t u s xs ys c d is (len_in depth (olds s)) (len_in depth (news s)) (cut allow true depth s are.1))
    ]

-- whether the last token ends a statement, and whether a } closes nothing
pub closed_same : (allow begins closed : Bool) (depth : ℕ) (s : List Step) → AreSteps allow begins s → closed_in closed depth (olds s) ≡ closed_in closed depth (news s)
closed_same allow begins closed depth [] are = refl
closed_same allow begins closed depth (Keep t u ∷ s) are =
    closed_same allow (starts_behind t.text) (token_ends depth t.text) (depth_behind depth t.text) s are.2 ∙ ap (λ (w : List ℕ). closed_in (token_ends depth w) (depth_behind depth w) (news s)) are.0
closed_same allow begins closed depth (Anew t u xs ys c d ∷ s) are =
    let is = are.0 in
    let free : starts_behind u.text ≡ false = ap starts_behind (sym is.word) ∙ (free_word t.text is.which) in
    let texts : c.text ≡ d.text = is.old_end ∙ sym is.new_end in
    ap (λ (k : ℕ). closed_in (token_ends depth t.text) k (xs ++ c ∷ olds s)) (free_depth depth t.text (free_word t.text is.which))
    ∙ closed_over (token_ends depth t.text) depth xs c (olds s) is.old_free
    ∙ closed_same allow true (token_ends depth c.text) (depth_behind depth c.text) s are.1
    ∙ ap (λ (w : List ℕ). closed_in (token_ends depth w) (depth_behind depth w) (news s)) texts
    ∙ sym (closed_over (token_ends depth u.text) depth ys d (news s) is.new_free)
    ∙ ap (λ (k : ℕ). closed_in (token_ends depth u.text) k (ys ++ d ∷ news s)) (sym (free_depth depth u.text free))

nothing_one : (depth : ℕ) (t : Token) (ts : List Token) → starts_behind t.text ≡ false → closes_nothing depth (t ∷ ts) ≡ closes_nothing depth ts
nothing_one depth t ts f = nothing_over depth (t ∷ []) ts (f, tt)

pub nothing_semicolon : (depth : ℕ) (c : Token) (ts : List Token) → c.text ≡ 59 ∷ [] → closes_nothing depth (c ∷ ts) ≡ closes_nothing depth ts
nothing_semicolon depth c ts e = rw e refl

pub nothing_same : (allow begins : Bool) (depth : ℕ) (s : List Step) → AreSteps allow begins s → closes_nothing depth (olds s) ≡ closes_nothing depth (news s)
nothing_same allow begins depth [] are = refl
nothing_same allow begins depth (Keep t u ∷ s) are =
    ap (λ (b : Bool). (is_only 125 t.text && eqb depth 0) || b) (nothing_same allow (starts_behind t.text) (depth_behind depth t.text) s are.2)
    ∙ ap (λ (w : List ℕ). (is_only 125 w && eqb depth 0) || closes_nothing (depth_behind depth w) (news s)) are.0
nothing_same allow begins depth (Anew t u xs ys c d ∷ s) are =
    let is = are.0 in
    let free : starts_behind u.text ≡ false = ap starts_behind (sym is.word) ∙ (free_word t.text is.which) in
    nothing_one depth t (xs ++ c ∷ olds s) (free_word t.text is.which) ∙ nothing_over depth xs (c ∷ olds s) is.old_free ∙ nothing_semicolon depth c (olds s) is.old_end
    ∙ nothing_same allow true depth s are.1
    ∙ sym (nothing_one depth u (ys ++ d ∷ news s) free ∙ nothing_over depth ys (d ∷ news s) is.new_free ∙ nothing_semicolon depth d (news s) is.new_end)

-- the first statement of the first statement
pub len_take : (depth : ℕ) (ts : List Token) → len_in depth (take (len_in depth ts) ts) ≡ length (take (len_in depth ts) ts)
len_take depth [] = refl
len_take depth (t ∷ ts) = elim (cases_Bool (token_ends depth t.text)) [
  | inl e ↦ subst (λ (n : ℕ). len_in depth (take n (t ∷ ts)) ≡ length (take n (t ∷ ts))) (sym (len_here depth t ts e)) (len_here depth t [] e)
  | inr e ↦
      let n = len_in (depth_behind depth t.text) ts in
      let k = len_later depth t (take n ts) e in
      let more = len_take (depth_behind depth t.text) ts in
      subst (λ (n : ℕ). len_in depth (take n (t ∷ ts)) ≡ length (take n (t ∷ ts))) (sym (len_later depth t ts e)) (k ∙ ap suc more)
]

-- all statements
pub record Splits (allow : Bool) (s : List Step) : Type 0 where
  pub rows : List (List Step)
  pub old : stil_statements (olds s) ≡ map olds rows
  pub new : stil_statements (news s) ≡ map news rows
  pub each : Each (AreSteps allow true) rows
  pub ones : Each IsOne rows

pub statements_none : stil_statements [] ≡ []
unfolding statements_within
statements_none = refl

module _ (allow : Bool) (t u : Token) (os ns : List Token) (s : List Step) (old_is : olds s ≡ t ∷ os) (new_is : news s ≡ u ∷ ns) (c : Cut allow true (len_in 0 (olds s)) (len_in 0 (news s)) s) (rest : Splits allow c.rest) where
  put_row : Splits allow s
  put_row =
      let e = first_law t os in
      let f = first_law u ns in
      let e' : stil_statements (olds s) ≡ take (statement_len (olds s)) (olds s) ∷ stil_statements (drop (statement_len (olds s)) (olds s)) = subst (λ (l : List Token). stil_statements l ≡ take (statement_len l) l ∷ stil_statements (drop (statement_len l) l)) (sym old_is) e in
      let f' : stil_statements (news s) ≡ take (statement_len (news s)) (news s) ∷ stil_statements (drop (statement_len (news s)) (news s)) = subst (λ (l : List Token). stil_statements l ≡ take (statement_len l) l ∷ stil_statements (drop (statement_len l) l)) (sym new_is) f in
      record {
        rows = c.front ∷ rest.rows;
        old = e' ∙ ap (λ (l : List Token). l ∷ stil_statements (drop (statement_len (olds s)) (olds s))) c.old_front
            ∙ ap (λ (l : List Token). olds c.front ∷ stil_statements l) c.old_rest ∙ ap (λ (l : List (List Token)). olds c.front ∷ l) rest.old;
        new = f' ∙ ap (λ (l : List Token). l ∷ stil_statements (drop (statement_len (news s)) (news s))) c.new_front
            ∙ ap (λ (l : List Token). news c.front ∷ stil_statements l) c.new_rest ∙ ap (λ (l : List (List Token)). news c.front ∷ l) rest.new;
        each = (c.front_are, rest.each);
        ones = (subst (λ (l : List Token). len_in 0 l ≡ length l) c.old_front (len_take 0 (olds s)), rest.ones);
      }

splits : (fuel : ℕ) (allow : Bool) (s : List Step) → length s ≤ fuel → AreSteps allow true s → Splits allow s
splits fuel allow [] short are = record { rows = []; old = statements_none; new = statements_none; each = tt; ones = tt }
splits zero allow (p ∷ s) short are = absurd (omega arith)
splits (suc fuel) allow (Keep t u ∷ s) short are =
    let whole = Keep t u ∷ s in
    let c = cut allow true 0 whole are in
    let less = c.shorter in
    put_row allow t u (olds s) (news s) whole refl refl c (splits fuel allow c.rest (omega (arith, less)) c.rest_are)
splits (suc fuel) allow (Anew t u xs ys a b ∷ s) short are =
    let whole = Anew t u xs ys a b ∷ s in
    let c = cut allow true 0 whole are in
    let less = c.shorter in
    put_row allow t u (xs ++ a ∷ olds s) (ys ++ b ∷ news s) whole refl refl c (splits fuel allow c.rest (omega (arith, less)) c.rest_are)

pub splits_all : (allow : Bool) (s : List Step) → AreSteps allow true s → Splits allow s
splits_all allow s are = splits (length s) allow s (omega arith) are
