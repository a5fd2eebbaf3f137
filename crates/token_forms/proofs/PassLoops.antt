-- The loop that takes tokens that pass unread.
use Rattle.std.proofs.Common.{◌≡◌, ◌==◌, ◌≤◌, ◌+◌, ◌-◌, ℕ, Bool, true, false, if◌then◌else◌, List, [], ◌∷◌, length, Option, Some, None, Result, Ok, Err, refl, sym, ap, ◌∙◌, subst, arith}
use Rattle.std.specs.Str.{bytes_eq}
use Rattle.token_forms.specs.Tokens.{Token}
use Rattle.base_types.specs.declared.stop.Stop.{Stop}
use Rattle.base_types.specs.declared.stop.Stop.TheVariants.{NoForm as no_form}
use Rattle.token_forms.specs.Parsing.{Gives}
use Rattle.token_forms.specs.Classes.{is_in}
use Rattle.token_forms.specs.Forms.{Passing, depth_behind, passes_at}

given : (ts : List Token) (b : Bool) (r : Result (Unit {0}) Stop) → r ≡ (if b then Ok tt else Err no_form) → Gives r ts (if b then Some (tt, ts) else None)
given ts true r is = rw is refl
given ts false r is = rw is refl

module _ (p : Passing) (depth : ℕ) (t : Token) (ts us : List Token) where
  -- what is read where a token may pass or not
  step : Option ℕ → Option (Unit {0} × List Token)
  step o = elim o [ None ↦ if depth == 0 then Some (tt, t ∷ us) else None | Some d ↦ passes_at p d us ]

  unfolds : ts ≡ t ∷ us → passes_at p depth ts ≡ step (depth_behind p depth t.text)
  unfolding passes_at step
  unfolds is = ap (passes_at p depth) is

  pub passes_on : (d : ℕ) → ts ≡ t ∷ us → Some d ≡ depth_behind p depth t.text → passes_at p depth ts ≡ passes_at p d us
  unfolding step
  passes_on d is behind = unfolds is ∙ ap step (sym behind)

  pub passes_no_more : (r : Result (Unit {0}) Stop) → ts ≡ t ∷ us → None ≡ depth_behind p depth t.text → r ≡ (if depth == 0 then Ok tt else Err no_form) → Gives r ts (passes_at p depth ts)
  unfolding step
  passes_no_more r is behind closed =
      rw (unfolds is ∙ ap step (sym behind)) (subst (λ (us : List Token). Gives r ts (if depth == 0 then Some (tt, us) else None)) is (given ts (depth == 0) r closed))

pub passes_all : (p : Passing) (depth : ℕ) (ts : List Token) (r : Result (Unit {0}) Stop) → ts ≡ [] → r ≡ (if depth == 0 then Ok tt else Err no_form) → Gives r ts (passes_at p depth ts)
unfolding passes_at
passes_all p depth ts r is closed =
    let e : passes_at p depth ts ≡ (if depth == 0 then Some (tt, ts) else None) = rw is refl in
    rw e (given ts (depth == 0) r closed)

module _ (p : Passing) (depth : ℕ) (text : List ℕ) where
  pub depth_within : (d : ℕ) → Some d ≡ depth_behind p depth text → d ≤ depth + 1
  depth_within d is = by_tests (bytes_eq text p.opens) (depth == 0) (is_in p.outside text) (bytes_eq text p.closes) (is_in p.inside text) is
    where
      by_tests : (a b c e f : Bool) → Some d ≡ (if a then Some (depth + 1) else (if b then (if c then Some 0 else None) else (if e then Some (depth - 1) else (if f then Some depth else None)))) → d ≤ depth + 1
      by_tests true b c e f is = let k : d ≡ depth + 1 = cc in omega arith
      by_tests false true true e f is = let k : d ≡ 0 = cc in omega arith
      by_tests false true false e f is = absurd cc
      by_tests false false c true f is = let k : d ≡ depth - 1 = cc in omega arith
      by_tests false false c false true is = let k : d ≡ depth = cc in omega arith
      by_tests false false c false false is = absurd cc

pub one_less : (t : Token) (ts us vs : List Token) → ts ≡ t ∷ us → vs ≡ us → length vs + 1 ≡ length ts
one_less t ts us vs is same = rw (is, same) (omega arith)
