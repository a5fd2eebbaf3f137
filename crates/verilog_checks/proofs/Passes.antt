-- A pass over statements that looks for the first one that fails a test.
use Rattle.std.proofs.Common.{◌≡◌, ℕ, ◌+◌, ◌<◌, ◌≤◌, Bool, true, false, cond, List, length, get_or, take, drop, Result, Ok, Err, refl, sym, ap, ◌∙◌}
use Rattle.std.proofs.lemmas.List.{at_drop_more, at_drop_all, take_more}
use Rattle.base_types.specs.declared.fault.Fault.{Fault}
use Rattle.base_types.specs.declared.kind.Kind.{Kind}
use Rattle.verilog_syntax.specs.declared.reading.Placed.{Placed}
use Rattle.verilog_syntax.specs.Reading.{fault_at}
use Rattle.verilog_checks.specs.Checks.{check_from, check}

module _ (bad : List Placed → Placed → Bool) (kind : Kind) (ps : List Placed) (i : ℕ) (p : Placed) (lt : i < length ps) (at : p ≡ get_or ps i p) where
  -- the check at the statement, or behind it
  choice : Bool → Result (Unit {0}) Fault
  choice b = cond b (Err (fault_at kind p.line)) (check_from bad kind (take (i + 1) ps) (drop (i + 1) ps))

  at_index : check_from bad kind (take i ps) (drop i ps) ≡ choice (bad (take i ps) p)
  unfolding check_from choice
  at_index =
      at_drop_more (check_from bad kind (take i ps)) ps i p lt
      ∙ ap (λ (before : List Placed). cond (bad (take i ps) (get_or ps i p)) (Err (fault_at kind (get_or ps i p).line)) (check_from bad kind before (drop (i + 1) ps))) (sym (take_more ps i p lt))
      ∙ ap (λ (x : Placed). cond (bad (take i ps) x) (Err (fault_at kind x.line)) (check_from bad kind (take (i + 1) ps) (drop (i + 1) ps))) (sym at)

  pub passes : bad (take i ps) p ≡ false → check_from bad kind (take i ps) (drop i ps) ≡ check bad kind ps
      → check_from bad kind (take (i + 1) ps) (drop (i + 1) ps) ≡ check bad kind ps
  unfolding choice
  passes good so_far = sym (at_index ∙ ap choice good) ∙ so_far

  pub fails : bad (take i ps) p ≡ true → check_from bad kind (take i ps) (drop i ps) ≡ check bad kind ps
      → check bad kind ps ≡ Err (fault_at kind p.line)
  unfolding choice
  fails is_bad so_far = sym so_far ∙ at_index ∙ ap choice is_bad

pub passed : (bad : List Placed → Placed → Bool) (kind : Kind) (ps : List Placed) (i : ℕ) → length ps ≤ i → check_from bad kind (take i ps) (drop i ps) ≡ check bad kind ps → check bad kind ps ≡ Ok tt
unfolding check_from
passed bad kind ps i le so_far = sym so_far ∙ at_drop_all (check_from bad kind (take i ps)) ps i le
