-- The values of a command's options, one by one.
use Rattle.std.proofs.Common.{◌≡◌, ◌==◌, ℕ, Bool, true, false, cond, ◌&&◌, List, [], ◌∷◌, ◌++◌, ◌⊎◌, inl, inr, Option, Some, None, refl, sym, arith}
use Rattle.std.proofs.lemmas.Bool.Decides.{nat_tests}
use Rattle.std.proofs.lemmas.Option.{same_Some}
use Rattle.scan_words.specs.declared.verb.Verb.{Verb}
use Rattle.scan_words.specs.declared.table.OptionName.{OptionName}
use Rattle.scan_words.specs.declared.table.OptionForm.{OptionForm}
use Rattle.scan_words.specs.Form.{◌>>=◌, Text}
use Rattle.scan_words.specs.Table.{Values, option_text, value_form, has_form, is_given, value_among, value_list, each_value}
use Rattle.scan_words.specs.Verbs.{needed, optional, beside}
use Rattle.scan_job.specs.Requests.{IsAsked}

-- the values and the further words of a command's order
abbrev pub IsMade : Verb → List Text → List Text → Type 0
IsMade verb values further = IsAsked (record { verb = verb; values = values; further = further })

-- the value of an option that stands, and those behind it
pub record First (values : Values) (name : OptionName) (table : List OptionForm) (given : List Text) : Type 0 where
  pub value : Text
  pub rest : List Text
  pub is : values (option_text name) ≡ value ∷ []
  pub formed : has_form (value_form name) value ≡ true
  pub others : each_value values table ≡ Some rest
  pub same : given ≡ value ∷ rest

module _ (values : Values) (name : OptionName) (table : List OptionForm) (given : List Text) where
  by_form : (v : Text) (b : Bool) → has_form (value_form name) v ≡ b → values (option_text name) ≡ v ∷ [] → (others : Option (List Text)) → each_value values table ≡ others
      → (cond b (Some (Some v)) None >>= λ value. others >>= λ vs. Some (value_list value ++ vs)) ≡ Some given → First values name table given
  by_form v false formed is others e h = absurd cc
  by_form v true formed is None e h = absurd cc
  by_form v true formed is (Some vs) e h = record { value = v; rest = vs; is = is; formed = formed; others = e; same = sym (same_Some _ _ h) }

  by_values : (vs : List Text) → values (option_text name) ≡ vs
      → (value_among (needed name) values vs >>= λ value. each_value values table >>= λ others. Some (value_list value ++ others)) ≡ Some given → First values name table given
  by_values [] is h = absurd cc
  by_values (v ∷ []) is h = by_form v (has_form (value_form name) v) refl is (each_value values table) refl h
  by_values (v ∷ w ∷ ws) is h = absurd cc

  pub first : each_value values (needed name ∷ table) ≡ Some given → First values name table given
  unfolding each_value
  first h = by_values (values (option_text name)) refl h

-- an option that may be left out and one that stands beside it: neither stands, or both do
pub record Pair (values : Values) (one other : OptionName) (given : List Text) : Type 0 where
  pub first : Text
  pub second : Text
  pub same : given ≡ first ∷ second ∷ []

module _ (values : Values) (one other : OptionName) (given : List Text) where
  abbrev Both : Type 0
  Both = (given ≡ []) ⊎ Pair values one other given

  abbrev second_by : List Text → Option (List Text)
  second_by ws = value_among (beside one other) values ws >>= λ value. Some [] >>= λ others. Some (value_list value ++ others)

  abbrev both_by : List Text → List Text → Option (List Text)
  both_by vs ws = value_among (optional one) values vs >>= λ value. second_by ws >>= λ others. Some (value_list value ++ others)

  none_formed : (w : Text) (b : Bool) → is_given (values (option_text one)) ≡ false → (cond (is_given (values (option_text one)) && b) (Some (Some w)) None >>= λ value. Some [] >>= λ others. Some (value_list value ++ others)) ≡ None
  none_formed w b lacks = rw lacks refl

  without : (ws : List Text) → values (option_text one) ≡ [] → both_by [] ws ≡ Some given → Both
  without [] lacks h = inl (sym (same_Some _ _ (rw lacks at h)))
  without (w ∷ []) lacks h = let none : None ≡ Some given = rw lacks at h in absurd cc
  without (w ∷ x ∷ ws) lacks h = absurd cc

  with_second : (v : Text) (ws : List Text) (b : Bool) → values (option_text one) ≡ v ∷ [] → (cond b (Some (Some v)) None >>= λ value. second_by ws >>= λ others. Some (value_list value ++ others)) ≡ Some given → Both
  with_second v ws false stands h = absurd cc
  with_second v [] true stands h = let none : None ≡ Some given = rw stands at h in absurd cc
  with_second v (w ∷ []) true stands h = formed (has_form (value_form other) w) (rw stands at h)
    where
      formed : (c : Bool) → ((cond c (Some (Some w)) None >>= λ value. Some [] >>= λ others. Some (value_list value ++ others)) >>= λ others. Some (v ∷ others)) ≡ Some given → Both
      formed false k = absurd cc
      formed true k = inr (record { first = v; second = w; same = sym (same_Some _ _ k) })
  with_second v (w ∷ x ∷ ws) true stands h = absurd cc

  by_first : (vs ws : List Text) → values (option_text one) ≡ vs → both_by vs ws ≡ Some given → Both
  by_first [] ws is h = without ws is h
  by_first (v ∷ []) ws is h = with_second v ws (has_form (value_form one) v) is h
  by_first (v ∷ w ∷ vs) ws is h = absurd cc

  pub pair_left : each_value values (optional one ∷ beside one other ∷ []) ≡ Some given → Both
  unfolding each_value
  pair_left h = by_first (values (option_text one)) (values (option_text other)) refl h

-- an option that may be left out: it doesn't stand, or it does with a value of its form
pub record One (name : OptionName) (given : List Text) : Type 0 where
  pub value : Text
  pub formed : has_form (value_form name) value ≡ true
  pub same : given ≡ value ∷ []

module _ (values : Values) (name : OptionName) (given : List Text) where
  abbrev Maybe : Type 0
  Maybe = (given ≡ []) ⊎ One name given

  one_formed : (v : Text) (b : Bool) → has_form (value_form name) v ≡ b → (cond b (Some (Some v)) None >>= λ value. Some [] >>= λ others. Some (value_list value ++ others)) ≡ Some given → Maybe
  one_formed v false formed h = absurd cc
  one_formed v true formed h = inr (record { value = v; formed = formed; same = sym (same_Some _ _ h) })

  one_among : (vs : List Text) → (value_among (optional name) values vs >>= λ value. Some [] >>= λ others. Some (value_list value ++ others)) ≡ Some given → Maybe
  one_among [] h = inl (sym (same_Some _ _ h))
  one_among (v ∷ []) h = one_formed v (has_form (value_form name) v) refl h
  one_among (v ∷ w ∷ vs) h = absurd cc

  pub one_left : each_value values (optional name ∷ []) ≡ Some given → Maybe
  unfolding each_value
  one_left h = one_among (values (option_text name)) h

pub none_left : (values : Values) (given : List Text) → each_value values [] ≡ Some given → given ≡ []
unfolding each_value
none_left values given h = sym (same_Some _ _ h)

pub zero_is : (n : ℕ) → (n == 0) ≡ true → n ≡ 0
zero_is n h = grind (arith, nat_tests)
