-- The places of freed ports by their old sources.
use Rattle.std.proofs.Common.{◌≡◌, ℕ, suc, ◌+◌, ◌<◌, ◌==◌, Bool, true, false, cond, List, [], ◌∷◌, ◌++◌, length, take, get_or, Option, Some, None, refl, sym, ap, ◌∙◌, arith}
use Rattle.std.specs.List.{position_from}
use Rattle.std.specs.Option.{option_or, is_some}
use Rattle.std.proofs.lemmas.Bool.{false≢true}
use Rattle.std.proofs.lemmas.Cmp.{nat_eq_equiv}
use Rattle.std.proofs.lemmas.List.{take_more, length-take}
use Rattle.chain_trace.specs.declared.path.Source.{Source}
use Rattle.chain_trace.specs.declared.path.Source.TheVariants as sources
use Rattle.path_links.specs.Edits.{same_source}
use Rattle.path_links.proofs.PathSame.{source_true}
use Rattle.net_edit.specs.NewWires.{SourceKey, source_key, same_key}

turned : (a b : ℕ) → (a == b) ≡ (b == a)
turned a b = nat_eq_equiv.symm a b

-- keys are the same where their sources are
pub key_same : (a b : Source) → same_key (source_key a) (source_key b) ≡ same_source a b
key_same (sources.Port a) (sources.Port b) = refl
key_same (sources.Port a) (sources.Out b) = refl
key_same (sources.Out a) (sources.Port b) = refl
key_same (sources.Out a) (sources.Out b) = refl

none_or : (had : Option ℕ) → is_some had ≡ false → (b : Bool) (place : ℕ) → cond b (Some place) had ≡ option_or had (cond b (Some place) None)
none_or None lacks b place = refl
none_or (Some x) lacks b place = absurd (false≢true (sym lacks))

some_or : (had or : Option ℕ) → is_some had ≡ true → had ≡ option_or had or
some_or None or there = absurd (false≢true there)
some_or (Some x) or there = refl

or_none : (had : Option ℕ) → had ≡ option_or had None
or_none None = refl
or_none (Some x) = refl

-- one place more at a source that has none
pub place_put : (source other : Source) (get_it : SourceKey → Option ℕ) (new : Option ℕ) (key : SourceKey) (place : ℕ) → key ≡ source_key source → is_some (get_it key) ≡ false
    → new ≡ cond (same_key key (source_key other)) (Some place) (get_it (source_key other))
    → new ≡ option_or (get_it (source_key other)) (cond (same_source source other) (Some place) None)
place_put source other get_it new key place is lacks put =
    let same : same_key key (source_key other) ≡ same_source source other = ap (λ (k : SourceKey). same_key k (source_key other)) is ∙ key_same source other in
    put ∙ ap (λ (b : Bool). cond b (Some place) (get_it (source_key other))) same ∙ by_case (same_source source other) refl where
      by_case : (b : Bool) → same_source source other ≡ b → cond (same_source source other) (Some place) (get_it (source_key other)) ≡ option_or (get_it (source_key other)) (cond (same_source source other) (Some place) None)
      by_case true e =
          let one : key ≡ source_key other = is ∙ ap source_key (source_true source other e) in
          none_or (get_it (source_key other)) (ap (λ (k : SourceKey). is_some (get_it k)) (sym one) ∙ lacks) (same_source source other) place
      by_case false e =
          ap (λ (b : Bool). cond b (Some place) (get_it (source_key other))) e ∙ or_none (get_it (source_key other)) ∙ ap (λ (b : Bool). option_or (get_it (source_key other)) (cond b (Some place) None)) (sym e)

-- a source that has a place keeps it
pub place_kept : (source other : Source) (get_it : SourceKey → Option ℕ) (key : SourceKey) (place : ℕ) → key ≡ source_key source → is_some (get_it key) ≡ true
    → get_it (source_key other) ≡ option_or (get_it (source_key other)) (cond (same_source source other) (Some place) None)
place_kept source other get_it key place is there = by_case (same_source source other) refl where
  by_case : (b : Bool) → same_source source other ≡ b → get_it (source_key other) ≡ option_or (get_it (source_key other)) (cond (same_source source other) (Some place) None)
  by_case true e =
      let one : key ≡ source_key other = is ∙ ap source_key (source_true source other e) in
      some_or (get_it (source_key other)) (cond (same_source source other) (Some place) None) (ap (λ (k : SourceKey). is_some (get_it k)) (sym one) ∙ there)
  by_case false e = or_none (get_it (source_key other)) ∙ ap (λ (b : Bool). option_or (get_it (source_key other)) (cond b (Some place) None)) (sym e)

either : (k : ℕ) (b : Bool) (more less last : Option ℕ) → more ≡ option_or less last → cond b (Some k) more ≡ option_or (cond b (Some k) less) last
either k true more less last e = refl
either k false more less last e = e

module _ {X : Type 0} (test : X → Bool) where
  pub position_append : (k : ℕ) (xs : List X) (y : X) → position_from test k (xs ++ y ∷ []) ≡ option_or (position_from test k xs) (cond (test y) (Some (k + length xs)) None)
  position_append k [] y = ap (λ (m : ℕ). cond (test y) (Some m) None) (let e : k ≡ k + 0 = omega arith in e)
  position_append k (x ∷ xs) y =
      either k (test x) (position_from test (k + 1) (xs ++ y ∷ [])) (position_from test (k + 1) xs) (cond (test y) (Some (k + suc (length xs))) None)
      (position_append (k + 1) xs y ∙ ap (λ (m : ℕ). option_or (position_from test (k + 1) xs) (cond (test y) (Some m) None)) (let e : (k + 1) + length xs ≡ k + suc (length xs) = omega arith in e))

  pub position_more : (xs : List X) (i : ℕ) (d : X) → i < length xs → position_from test 0 (take (i + 1) xs) ≡ option_or (position_from test 0 (take i xs)) (cond (test (get_or xs i d)) (Some i) None)
  position_more xs i d lt =
      ap (position_from test 0) (take_more xs i d lt) ∙ position_append 0 (take i xs) (get_or xs i d)
      ∙ ap (λ (m : ℕ). option_or (position_from test 0 (take i xs)) (cond (test (get_or xs i d)) (Some m) None)) (let e : 0 + length (take i xs) ≡ i = omega (arith, length-take i xs) in e)
