-- The heading of a statement doesn't hang on what stands behind its brace.
use Rattle.std.proofs.Common.{◌≡◌, ℕ, zero, suc, ◌≤◌, cond, List, [], ◌∷◌, ◌++◌, length, Option, Some, None, refl, sym, ap, ◌∙◌, arith, length-append}
use Rattle.token_forms.specs.Tokens.{Token}
use Rattle.stil_syntax.specs.Names.{name_at}
use Rattle.stil_syntax.specs.Shapes.{label_at, behind_labels, is_call}
use Rattle.stil_writer.proofs.Heads.{with_more, and_more, name_on, label_on, label_shorter, labels_on}
use Rattle.stil_written.specs.Readings.{name_there, label_names, word_and_name, heading_by}
use Rattle.pattern_laws.specs.Laws.{HeadingLaw}

there_on : (o : Option (List ℕ × List Token)) (ts : List Token) → name_there (with_more o ts) ≡ name_there o
there_on None ts = refl
there_on (Some n) ts = refl

names_zero : (ts : List Token) → label_names zero ts ≡ []
unfolding label_names
names_zero ts = refl

names_none : (n : ℕ) (ts : List Token) → label_at ts ≡ None → label_names n ts ≡ []
unfolding label_names
names_none zero ts e = refl
names_none (suc n) ts e = rw (e, label_names) refl

names_some : (n : ℕ) (ts r : List Token) → label_at ts ≡ Some r → label_names (suc n) ts ≡ name_there (name_at ts) ++ label_names n r
unfolding label_names
names_some n ts r e = rw (e, label_names) refl

-- more fuel changes nothing
names_fuel_as : (m n : ℕ) (ts : List Token) (o : Option (List Token)) → label_at ts ≡ o → length ts ≤ suc m → length ts ≤ suc n → ((r : List Token) → length r ≤ m → length r ≤ n → label_names m r ≡ label_names n r) → label_names (suc m) ts ≡ label_names (suc n) ts
names_fuel_as m n ts None e a b more = names_none (suc m) ts e ∙ sym (names_none (suc n) ts e)
names_fuel_as m n ts (Some r) e a b more =
    names_some m ts r e ∙ ap (λ (l : List (List ℕ)). name_there (name_at ts) ++ l) (more r (omega (arith, label_shorter ts r e)) (omega (arith, label_shorter ts r e))) ∙ sym (names_some n ts r e)

no_label : label_at [] ≡ None
unfolding label_at name_at
no_label = refl

names_fuel : (m n : ℕ) (ts : List Token) → length ts ≤ m → length ts ≤ n → label_names m ts ≡ label_names n ts
names_fuel zero n [] a b = names_none zero [] no_label ∙ sym (names_none n [] no_label)
names_fuel zero n (t ∷ ts) a b = absurd (omega arith)
names_fuel (suc m) zero [] a b = names_none (suc m) [] no_label ∙ sym (names_none zero [] no_label)
names_fuel (suc m) zero (t ∷ ts) a b = absurd (omega arith)
names_fuel (suc m) (suc n) ts a b = names_fuel_as m n ts (label_at ts) refl a b (λ r c d. names_fuel m n r c d)

abbrev front_end : List Token → List (List ℕ)
front_end [] = (123 ∷ []) ∷ []
front_end (t ∷ ts) = word_and_name (t ∷ ts)

module _ (b : Token) (bs : List Token) (brace : b.text ≡ 123 ∷ []) where
  names_as : (n : ℕ) (us : List Token) (o : Option (List Token)) → label_at us ≡ o → ((r : List Token) → label_names n (r ++ b ∷ bs) ≡ label_names n r) → label_names (suc n) (us ++ b ∷ bs) ≡ label_names (suc n) us
  names_as n us None e more = names_none (suc n) (us ++ b ∷ bs) (label_on b bs brace us ∙ ap (λ (o : Option (List Token)). and_more o (b ∷ bs)) e) ∙ sym (names_none (suc n) us e)
  names_as n us (Some r) e more =
      names_some n (us ++ b ∷ bs) (r ++ b ∷ bs) (label_on b bs brace us ∙ ap (λ (o : Option (List Token)). and_more o (b ∷ bs)) e)
      ∙ ap (λ (l : List (List ℕ)). l ++ label_names n (r ++ b ∷ bs)) (ap name_there (name_on b bs brace us) ∙ there_on (name_at us) (b ∷ bs))
      ∙ ap (λ (l : List (List ℕ)). name_there (name_at us) ++ l) (more r) ∙ sym (names_some n us r e)

  names_on : (n : ℕ) (us : List Token) → label_names n (us ++ b ∷ bs) ≡ label_names n us
  names_on zero us = names_zero (us ++ b ∷ bs) ∙ sym (names_zero us)
  names_on (suc n) us = names_as n us (label_at us) refl (names_on n)

  end_on : (us : List Token) → word_and_name (us ++ b ∷ bs) ≡ front_end us
  end_on [] = ap (λ (w : List ℕ). w ∷ cond (is_call w) (name_there (name_at bs)) []) brace
  end_on (t ∷ us) = ap (λ (l : List (List ℕ)). t.text ∷ cond (is_call t.text) l []) (ap name_there (name_on b bs brace us) ∙ there_on (name_at us) (b ∷ bs))

  by_front : (us : List Token) → heading_by (us ++ b ∷ bs) ≡ label_names (length us) us ++ front_end (behind_labels us)
  by_front us =
      let names : label_names (length (us ++ b ∷ bs)) (us ++ b ∷ bs) ≡ label_names (length us) us =
      names_on (length (us ++ b ∷ bs)) us ∙ names_fuel (length (us ++ b ∷ bs)) (length us) us (omega (arith, length-append us (b ∷ bs))) (omega arith) in
      ap (λ (l : List (List ℕ)). l ++ word_and_name (behind_labels (us ++ b ∷ bs))) names
      ∙ ap (λ (l : List (List ℕ)). label_names (length us) us ++ l) (ap word_and_name (labels_on us b bs brace) ∙ end_on (behind_labels us))

pub heading_law : HeadingLaw
heading_law text new s =
    ap heading_by s.old_is ∙ by_front s.brace s.old_rest s.is_brace s.front
    ∙ sym (by_front s.brace s.new_rest s.is_brace s.front) ∙ sym (ap heading_by s.new_is)
