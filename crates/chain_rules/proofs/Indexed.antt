-- Places that are looked up by their scan paths.
use Rattle.std.proofs.Common.{◌≡◌, ℕ, ◌+◌, ◌<◌, inl, inr, ⊎_elim, ◌==◌, ◌&&◌, Bool, true, false, cond, List, length, Option, Some, None, IsSome, refl, sym, ap, subst, ◌∙◌, arith, eqb-true, eq-eqb}
use Rattle.std.proofs.lemmas.Bool.{cases_eq, and_parts, false≢true}
use Rattle.std.specs.HashMap.{HashMap, get}
use Rattle.chain_rules.specs.declared.index.Place.{Place}
use Rattle.chain_rules.specs.declared.spec.StepSpec.{StepSpec}
use Rattle.chain_rules.specs.declared.spec.PathSpec.{PathSpec}
use Rattle.chain_rules.specs.Stretches.{path_at, step_at, IsOf, IsPlace}
use Rattle.chain_rules.specs.Indexes.{same_key, key_of, AreFirstPlaces}

key_self : (a b : ℕ) → same_key (a, b) (a, b) ≡ true
key_self a b = λ i. eq-eqb a a refl i && eq-eqb b b refl i

-- equal keys are of one scan path
key_is : (step : StepSpec) (q : ℕ × ℕ) → same_key (key_of step) q ≡ true → IsOf step q.0 q.1
key_is step q e =
    let both = and_parts (step.instance == q.0) (step.path == q.1) e in
    record { instance = eqb-true step.instance q.0 both.0; path = eqb-true step.path q.1 both.1 }

some_kept : {X : Type 0} (b : Bool) (v : X) (o : Option X) → IsSome o → IsSome (cond b (Some v) o)
some_kept true v o h = refl
some_kept false v o h = h

placed : (paths : List PathSpec) (b : Bool) (v p : Place) (q : ℕ × ℕ) (o : Option Place) → IsPlace paths v.path v.place → (b ≡ true → IsOf (step_at (path_at paths v.path) v.place) q.0 q.1)
    → (o ≡ Some p → IsPlace paths p.path p.place × IsOf (step_at (path_at paths p.path) p.place) q.0 q.1) → cond b (Some v) o ≡ Some p → IsPlace paths p.path p.place × IsOf (step_at (path_at paths p.path) p.place) q.0 q.1
placed paths true v p q o at of rest e =
    let same : v ≡ p = cc in
    subst (λ (x : Place). IsPlace paths x.path x.place × IsOf (step_at (path_at paths x.path) x.place) q.0 q.1) same (at, of refl)
placed paths false v p q o at of rest e = rest e

-- one step more
pub places_more : {S : Type 0} (paths : List PathSpec) (n k : ℕ) (step : StepSpec) (old new : HashMap (ℕ × ℕ) Place S) → IsPlace paths n k → step ≡ step_at (path_at paths n) k → AreFirstPlaces paths n k old
    → ((q : ℕ × ℕ) → get same_key new q ≡ cond (same_key (key_of step) q) (Some (record { path = n; place = k })) (get same_key old q)) → AreFirstPlaces paths n (k + 1) new
places_more paths n k step old new at is first put =
    let v : Place = record { path = n; place = k } in
    record {
      stands = λ q p e. placed paths (same_key (key_of step) q) v p q (get same_key old q) at (λ t. subst (λ (s : StepSpec). IsOf s q.0 q.1) is (key_is step q t)) (first.stands q p) (sym (put q) ∙ e);
      noted = λ m l there before.
          let q : ℕ × ℕ = key_of (step_at (path_at paths m) l) in
          subst IsSome (sym (put q))
          (⊎_elim
          (λ (below : m < n). some_kept (same_key (key_of step) q) v (get same_key old q) (first.noted m l there (inl below)))
          (λ (w : (m ≡ n) × (l < k + 1)).
          ⊎_elim
          (λ (e : l ≡ k).
          let here : step ≡ step_at (path_at paths m) l = is ∙ λ i. step_at (path_at paths (sym w.0 i)) (sym e i) in
          let yes : same_key (key_of step) q ≡ true = ap (λ (s : StepSpec). same_key (key_of s) q) here ∙ key_self q.0 q.1 in
          subst (λ (b : Bool). IsSome (cond b (Some v) (get same_key old q))) (sym yes) refl)
          (λ (ne : l ≡ k → ⊥). some_kept (same_key (key_of step) q) v (get same_key old q) (first.noted m l there (inr (w.0, omega arith))))
          (cases_eq l k))
          before);
    }

-- a whole path more
pub places_next : {S : Type 0} (paths : List PathSpec) (n k : ℕ) (places : HashMap (ℕ × ℕ) Place S) → length (path_at paths n).steps ≡ k → AreFirstPlaces paths n k places → AreFirstPlaces paths (n + 1) 0 places
places_next paths n k places long first =
    record {
      stands = first.stands;
      noted = λ m l there before. ⊎_elim
          (λ (below : m < n + 1).
          ⊎_elim
          (λ (e : m ≡ n).
          let within : l < length (path_at paths n).steps = subst (λ (x : ℕ). l < length (path_at paths x).steps) e there.step in
          first.noted m l there (inr (e, omega arith)))
          (λ (ne : m ≡ n → ⊥). first.noted m l there (inl (omega arith)))
          (cases_eq m n))
          (λ (w : (m ≡ n + 1) × (l < 0)). absurd (omega (arith, w.1)))
          before;
    }

-- nothing is noted before the first step
pub no_places : {S : Type 0} (paths : List PathSpec) (places : HashMap (ℕ × ℕ) Place S) → ((q : ℕ × ℕ) → get same_key places q ≡ None) → AreFirstPlaces paths 0 0 places
no_places paths places none =
    record {
      stands = λ q p e. absurd (none_some (sym (none q) ∙ e));
      noted = λ m l there before. absurd (⊎_elim (λ (h : m < 0). omega (arith, h)) (λ (w : (m ≡ 0) × (l < 0)). omega (arith, w.1)) before);
    }
  where
    none_some : {X : Type 0} {x : X} → None ≡ Some x → ⊥
    none_some e = cc

-- what isn't noted stands nowhere
pub stands_nowhere : {S : Type 0} (paths : List PathSpec) (places : HashMap (ℕ × ℕ) Place S) → AreFirstPlaces paths (length paths) 0 places → (instance scan : ℕ) → get same_key places (instance, scan) ≡ None
    → (n k : ℕ) → IsPlace paths n k → ¬ IsOf (step_at (path_at paths n) k) instance scan
stands_nowhere paths places are instance scan none n k there of =
    let key : (instance, scan) ≡ key_of (step_at (path_at paths n) k) = λ i. (sym of.instance i, sym of.path i) in
    let some : IsSome (get same_key places (instance, scan)) = subst (λ (q : ℕ × ℕ). IsSome (get same_key places q)) (sym key) (are.noted n k there (inl there.path)) in
    no_some (get same_key places (instance, scan)) none some
  where
    no_some : (o : Option Place) → o ≡ None → IsSome o → ⊥
    no_some None e h = false≢true h
    no_some (Some p) e h = cc
