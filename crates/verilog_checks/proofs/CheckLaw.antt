-- What a check answers, by places: the first statement that is bad.
use Rattle.std.proofs.Common.{◌≡◌, ℕ, zero, suc, ◌<◌, Bool, true, false, cond, List, [], ◌∷◌, ◌++◌, take, Some, Ok, Err, refl, sym, ap, ◌∙◌, subst, append_assoc, arith}
use Rattle.std.specs.Prelude.{slice_get}
use Rattle.std.proofs.lemmas.List.{append-nil}
use Rattle.std.proofs.lemmas.Bool.{false_from_ne_true}
use Rattle.base_types.specs.declared.fault.Fault.{Fault}
use Rattle.base_types.specs.declared.kind.Kind.{Kind}
use Rattle.base_types.specs.declared.kind.Kind.TheVariants.{VerilogNumber, VerilogTwice, BadSelect}
use Rattle.base_types.proofs.TruthValues.{not_both}
use Rattle.verilog_syntax.specs.declared.reading.Placed.{Placed}
use Rattle.verilog_syntax.specs.Reading.{fault_at}
use Rattle.verilog_checks.specs.Checks.{check_from, check, bad_twice}
use Rattle.verilog_checks.specs.CheckLaws.{IsJudged, NumberLaw, TwiceLaw, SelectLaw}
use Rattle.verilog_checks.proofs.Cases.{test_law}
use Rattle.verilog_checks.specs.Faults.{IsFirstBad, HasNoBad, IsBadNumber, IsTwice, IsBadSelect, bad_number, bad_select}

-- the same where more statements stand before
record IsFirstBehind (bad : List Placed → Placed → Bool) (before ps : List Placed) (i : ℕ) (p : Placed) : Type 0 where
  there : slice_get ps i ≡ Some p
  fails : bad (before ++ take i ps) p ≡ true
  first : (j : ℕ) (q : Placed) → j < i → slice_get ps j ≡ Some q → bad (before ++ take j ps) q ≡ false

module _ (bad : List Placed → Placed → Bool) (kind : Kind) where
  abbrev Found : List Placed → List Placed → Fault → Type 0
  Found before ps f = (i : ℕ) × (p : Placed) × IsFirstBehind bad before ps i p × (f ≡ fault_at kind p.line)

  regroup : (before : List Placed) (q : Placed) (i : ℕ) (qs : List Placed) (p : Placed) (b : Bool) → bad ((before ++ q ∷ []) ++ take i qs) p ≡ b → bad (before ++ (q ∷ take i qs)) p ≡ b
  regroup before q i qs p b h = ap (λ (l : List Placed). bad l p) (sym (append_assoc before (q ∷ []) (take i qs))) ∙ h

  at_first : (before : List Placed) (q : Placed) (b : Bool) → bad before q ≡ b → bad (before ++ []) q ≡ b
  at_first before q b h = ap (λ (l : List Placed). bad l q) (append-nil before) ∙ h

  behind : (before : List Placed) (q : Placed) (qs : List Placed) (f : Fault) → bad before q ≡ false → Found (before ++ q ∷ []) qs f → Found before (q ∷ qs) f
  behind before q qs f good found =
      let w = found.2 in
      let each : (j : ℕ) (r : Placed) → j < suc found.0 → slice_get (q ∷ qs) j ≡ Some r → bad (before ++ take j (q ∷ qs)) r ≡ false
      = λ j r. elim j as (λ j. j < suc found.0 → slice_get (q ∷ qs) j ≡ Some r → bad (before ++ take j (q ∷ qs)) r ≡ false) [
        | zero ↦ λ lt is. let same : q ≡ r = cc in subst (λ (x : Placed). bad (before ++ []) x ≡ false) same (at_first before q false good)
        | suc j ↦ λ lt is. regroup before q j qs r false (w.first j r (omega arith) is)
      ]
      in
      (suc found.0, found.1, record { there = w.there; fails = regroup before q found.0 qs found.1 true w.fails; first = each }, found.3)

  found_from : (ps before : List Placed) (f : Fault) → check_from bad kind before ps ≡ Err f → Found before ps f
  unfolding check_from
  found_from [] before f h = absurd cc
  found_from (q ∷ qs) before f h =
      let cases : (t : Bool) → bad before q ≡ t → cond t (Err (fault_at kind q.line)) (check_from bad kind (before ++ q ∷ []) qs) ≡ Err f → Found before (q ∷ qs) f
      = λ t. elim t as (λ t. bad before q ≡ t → cond t (Err (fault_at kind q.line)) (check_from bad kind (before ++ q ∷ []) qs) ≡ Err f → Found before (q ∷ qs) f) [
        | true ↦ λ e k. (0, q, record { there = refl; fails = at_first before q true e; first = λ j r lt is. absurd (omega arith) }, cc)
        | false ↦ λ e k. behind before q qs f e (found_from qs (before ++ q ∷ []) f k)
      ]
      in cases (bad before q) refl h

  good_from : (ps before : List Placed) → check_from bad kind before ps ≡ Ok tt → (j : ℕ) (r : Placed) → slice_get ps j ≡ Some r → bad (before ++ take j ps) r ≡ false
  unfolding check_from
  good_from [] before h = λ j r is. absurd cc
  good_from (q ∷ qs) before h =
      let cases : (t : Bool) → bad before q ≡ t → cond t (Err (fault_at kind q.line)) (check_from bad kind (before ++ q ∷ []) qs) ≡ Ok tt → (j : ℕ) (r : Placed) → slice_get (q ∷ qs) j ≡ Some r → bad (before ++ take j (q ∷ qs)) r ≡ false
      = λ t. elim t as (λ t. bad before q ≡ t → cond t (Err (fault_at kind q.line)) (check_from bad kind (before ++ q ∷ []) qs) ≡ Ok tt → (j : ℕ) (r : Placed) → slice_get (q ∷ qs) j ≡ Some r → bad (before ++ take j (q ∷ qs)) r ≡ false) [
        | true ↦ λ e k j r is. absurd cc
        | false ↦ λ e k j r. elim j as (λ j. slice_get (q ∷ qs) j ≡ Some r → bad (before ++ take j (q ∷ qs)) r ≡ false) [
          | zero ↦ λ is. let same : q ≡ r = cc in subst (λ (x : Placed). bad (before ++ []) x ≡ false) same (at_first before q false e)
          | suc j ↦ λ is. regroup before q j qs r false (good_from qs (before ++ q ∷ []) k j r is)
        ]
      ]
      in cases (bad before q) refl h

  -- where no statement is bad, there is no fault
  passes_from : (ps before : List Placed) → ((i : ℕ) (p : Placed) → slice_get ps i ≡ Some p → bad (before ++ take i ps) p ≡ false) → check_from bad kind before ps ≡ Ok tt
  unfolding check_from
  passes_from [] before h = refl
  passes_from (q ∷ qs) before h =
      let here : bad before q ≡ false = ap (λ (l : List Placed). bad l q) (sym (append-nil before)) ∙ h 0 q refl in
      rw here (passes_from qs (before ++ q ∷ []) (λ i p is. ap (λ (l : List Placed). bad l p) (append_assoc before (q ∷ []) (take i qs)) ∙ h (suc i) p is))

-- a test that says of each statement whether it is bad
judged : (IsBad : List Placed → Placed → Type 0) (bad : List Placed → Placed → Bool) (kind : Kind) (ps : List Placed)
    → ((before : List Placed) (p : Placed) → (bad before p ≡ true → IsBad before p) × (IsBad before p → bad before p ≡ true)) → IsJudged IsBad kind ps (check bad kind ps)
judged IsBad bad kind ps says =
    record {
      passed = λ e i p there is. not_both (bad (take i ps) p) ((says (take i ps) p).1 is) (good_from bad kind ps [] e i p there);
      passes = λ none. passes_from bad kind ps [] (λ i p there. false_from_ne_true (bad (take i ps) p) (λ fails. none i p there ((says (take i ps) p).0 fails)));
      refused = λ f e.
          let found = found_from bad kind ps [] f e in
          let w = found.2 in (
            found.0,
            found.1,
            record {
              there = w.there;
              bad = (says (take found.0 ps) found.1).0 w.fails;
              first = λ j q lt there is. not_both (bad (take j ps) q) ((says (take j ps) q).1 is) (w.first j q lt there);
            },
            found.3,
          );
    }

pub number_law : NumberLaw
number_law ps = judged IsBadNumber bad_number VerilogNumber ps (λ before p. (λ h. h, λ h. h))

pub twice_law : TwiceLaw
twice_law ps = judged (IsTwice ps) (bad_twice ps) VerilogTwice ps (test_law ps)

pub select_law : SelectLaw
select_law ps = judged (IsBadSelect ps) (λ before p. bad_select ps p) BadSelect ps (λ before p. (λ h. h, λ h. h))
