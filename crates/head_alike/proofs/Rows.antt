-- The statements of both without the empty ones.
use Rattle.std.proofs.Common.{◌≡◌, ℕ, Bool, true, false, not, cond, inl, inr, List, [], ◌∷◌, map, filter, refl, sym, ap, ◌∙◌, subst}
use Rattle.std.specs.List.{AllByRecursion as Each}
use Rattle.std.proofs.lemmas.Bool.{cases_Bool}
use Rattle.token_forms.specs.Tokens.{Token}
use Rattle.stil_tokens.specs.StilStatements.{is_only}
use Rattle.stil_syntax.specs.Shapes.{is_empty}
use Rattle.head_alike.specs.Steps.{Step, Keep, Anew, olds, news, AreSteps}
use Rattle.head_alike.specs.Laws.{IsOne, SplitsAlike, SplitLaw}
use Rattle.head_alike.proofs.Cuts.{Splits, splits_all}

pub empty_same : (allow begins : Bool) (s : List Step) → AreSteps allow begins s → is_empty (olds s) ≡ is_empty (news s)
empty_same allow begins [] are = refl
empty_same allow begins (Keep t u ∷ s) are = ap (is_only 59) are.0
empty_same allow begins (Anew t u xs ys c d ∷ s) are = ap (is_only 59) are.0.word

abbrev pub is_row : List Step → Bool
is_row r = not (is_empty (olds r))

put_if : (b : Bool) (x : List Token) (y : List Step) (xs : List (List Token)) (ys : List (List Step)) (f : List Step → List Token) → x ≡ f y → xs ≡ map f ys → cond b (x ∷ xs) xs ≡ map f (cond b (y ∷ ys) ys)
put_if true x y xs ys f e h = ap (λ (l : List Token). l ∷ xs) e ∙ ap (λ (l : List (List Token)). f y ∷ l) h
put_if false x y xs ys f e h = h

pub old_rows : (rows : List (List Step)) → filter (λ s. not (is_empty s)) (map olds rows) ≡ map olds (filter is_row rows)
old_rows [] = refl
old_rows (r ∷ rows) = put_if (is_row r) (olds r) r (filter (λ s. not (is_empty s)) (map olds rows)) (filter is_row rows) olds refl (old_rows rows)

pub new_rows : (allow : Bool) (rows : List (List Step)) → Each (AreSteps allow true) rows → filter (λ s. not (is_empty s)) (map news rows) ≡ map news (filter is_row rows)
new_rows allow [] each = refl
new_rows allow (r ∷ rows) each =
    ap (λ (b : Bool). cond (not b) (news r ∷ filter (λ s. not (is_empty s)) (map news rows)) (filter (λ s. not (is_empty s)) (map news rows))) (sym (empty_same allow true r each.0))
    ∙ put_if (is_row r) (news r) r (filter (λ s. not (is_empty s)) (map news rows)) (filter is_row rows) news refl (new_rows allow rows each.1)

pub each_if : (P : List Step → Type 0) (b : Bool) (r : List Step) (rows : List (List Step)) → P r → Each P rows → Each P (cond b (r ∷ rows) rows)
each_if P true r rows p e = (p, e)
each_if P false r rows p e = e

pub each_rows : (P : List Step → Type 0) (rows : List (List Step)) → Each P rows → Each P (filter is_row rows)
each_rows P [] e = tt
each_rows P (r ∷ rows) e = each_if P (is_row r) r (filter is_row rows) e.0 (each_rows P rows e.1)

pub split_law : SplitLaw
split_law allow s are =
    let k = splits_all allow s are in
    record {
      rows = filter is_row k.rows;
      old = ap (λ (l : List (List Token)). filter (λ s. not (is_empty s)) l) k.old ∙ old_rows k.rows;
      new = ap (λ (l : List (List Token)). filter (λ s. not (is_empty s)) l) k.new ∙ new_rows allow k.rows k.each;
      each = each_rows (AreSteps allow true) k.rows k.each;
      ones = each_rows IsOne k.rows k.ones;
    }
