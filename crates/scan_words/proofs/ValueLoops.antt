-- The loops over the options of a table.
use Rattle.std.proofs.Common.{◌≡◌, ℕ, ◌+◌, ◌<◌, ◌≤◌, List, [], ◌++◌, length, get_or, drop, Option, Some, None, refl, sym, ap, ◌∙◌, append_assoc}
use Rattle.std.proofs.lemmas.List.{append-nil, drop_more, drop_all}
use Rattle.scan_words.specs.declared.table.OptionForm.{OptionForm}
use Rattle.scan_words.specs.Form.{◌>>=◌, Text}
use Rattle.scan_words.specs.Table.{Values, option_value, value_list, each_value}

abbrev pub with_front : List Text → Option (List Text) → Option (List Text)
with_front front read = read >>= λ xs. Some (front ++ xs)

pub front_none : (read : Option (List Text)) → with_front [] read ≡ read
front_none (Some x) = refl
front_none None = refl

abbrev behind : Option (Option Text) → Option (List Text) → Option (List Text)
behind value others = value >>= λ v. others >>= λ vs. Some (value_list v ++ vs)

front_more : (front : List Text) (value : Option Text) (read : Option (List Text)) → with_front front (behind (Some value) read) ≡ with_front (front ++ value_list value) read
front_more front value (Some xs) = ap (λ (ys : List Text). Some ys) (sym (append_assoc front (value_list value) xs))
front_more front value None = refl

module _ (values : Values) (table : List OptionForm) (i : ℕ) (o d : OptionForm) (front : List Text) (total : Option (List Text)) (lt : i < length table) (at : o ≡ get_or table i d) (so_far : with_front front (each_value values (drop i table)) ≡ total) where
  here : with_front front (behind (option_value o values) (each_value values (drop (i + 1) table))) ≡ total
  unfolding each_value
  here =
      ap (λ (p : OptionForm). with_front front (behind (option_value p values) (each_value values (drop (i + 1) table)))) at
      ∙ sym (ap (λ (os : List OptionForm). with_front front (each_value values os)) (drop_more table i d lt)) ∙ so_far

  value_is : (value : Option (Option Text)) → option_value o values ≡ value → with_front front (behind value (each_value values (drop (i + 1) table))) ≡ total
  value_is value is = ap (λ (v : Option (Option Text)). with_front front (behind v (each_value values (drop (i + 1) table)))) (sym is) ∙ here

  pub value_more : (value : Option Text) → option_value o values ≡ Some value → with_front (front ++ value_list value) (each_value values (drop (i + 1) table)) ≡ total
  value_more value one = sym (front_more front value _) ∙ value_is (Some value) one

  pub value_lacks : option_value o values ≡ None → total ≡ None
  value_lacks none = sym (value_is None none)

pub values_end : (values : Values) (table : List OptionForm) (i : ℕ) (front : List Text) (total : Option (List Text)) → length table ≤ i
    → with_front front (each_value values (drop i table)) ≡ total → total ≡ Some front
unfolding each_value
values_end values table i front total le same =
    sym same ∙ ap (λ (os : List OptionForm). with_front front (each_value values os)) (drop_all i table le) ∙ ap (λ (ys : List Text). Some ys) (append-nil front)
