-- Statements of patterns in which nothing is wrong.
use Rattle.std.proofs.Common.{◌≡◌, ℕ, suc, ◌+◌, ◌<◌, Bool, cond, List, [], ◌∷◌, drop, take, count_by, Some, None, refl, sym, ap, ◌∙◌, subst, arith, zero}
use Rattle.std.proofs.lemmas.List.Sums.{sum_by-cons}
use Rattle.stil_types.specs.declared.head.StilHead.{StilHead}
use Rattle.stil_types.specs.declared.statement.PatternStatement.{PatternStatement}
use Rattle.stil_reader.specs.declared.cursor.PatternItem.{PatternItem}
use Rattle.stil_reader.specs.declared.cursor.PatternItem.TheVariants.{Named, Stated}
use Rattle.stil_reader.specs.Cursors.{Ahead, IsReadable, Takes}
use Rattle.verify_command.specs.Steps.{Passes, TakesStatement}

pub passes_begun : (a : Ahead) → a.fault ≡ None → Passes a a
passes_begun a sound = record { head = refl; statements = refl; sound = sound }

named : (b c : Ahead) (name : List ℕ) → Takes b (Some (Named name)) c → (c.head ≡ b.head) × (c.statements ≡ b.statements) × (c.fault ≡ b.fault)
named b c name e = (sym (ap (λ (a : Ahead). a.head) e), sym (ap (λ (a : Ahead). a.statements) e), sym (ap (λ (a : Ahead). a.fault) e))

module _ (a b c : Ahead) (p : Passes a b) where
  pub passes_other : (item : PatternItem) → ((s : PatternStatement) → item ≡ Stated s → ⊥) → Takes b (Some item) c → Passes a c
  passes_other (Named name) never e =
      let n = named b c name e in
      record { head = n.0 ∙ p.head; statements = n.1 ∙ p.statements; sound = n.2 ∙ p.sound }
  passes_other (Stated s) never e = absurd (never s refl)

  pub takes_stated : (s : PatternStatement) → Takes b (Some (Stated s)) c → IsReadable b.head s → TakesStatement a s c
  takes_stated s e r = record {
    first = sym p.statements ∙ ap (λ (x : Ahead). x.statements) e;
    head = sym (ap (λ (x : Ahead). x.head) e) ∙ p.head;
    sound = sym (ap (λ (x : Ahead). x.fault) e) ∙ p.sound;
    readable = subst (λ (h : StilHead). IsReadable h s) p.head r;
  }

  pub ends : Takes b None c → a.statements ≡ []
  ends e = sym p.statements ∙ e.0.nothing.no_statements

-- what is counted up to one more

module _ {X : Type 0} (test : X → Bool) where
  one : (x : X) (xs : List X) → count_by test (x ∷ xs) ≡ cond (test x) 1 0 + count_by test xs
  one x xs = sum_by-cons (λ (y : X). cond (test y) 1 0) x xs

  pub count_more : (xs : List X) (n : ℕ) (x : X) (ys : List X) → drop n xs ≡ x ∷ ys → count_by test (take (suc n) xs) ≡ cond (test x) 1 0 + count_by test (take n xs)
  count_more [] zero x ys e = absurd cc
  count_more [] (suc n) x ys e = absurd cc
  count_more (z ∷ zs) zero x ys e = let same : z ≡ x = cc in one z [] ∙ ap (λ (y : X). cond (test y) 1 0 + count_by test []) same
  count_more (z ∷ zs) (suc n) x ys e =
      let rest = count_more zs n x ys e in
      let left = one z (take (suc n) zs) in
      let right = one z (take n zs) in
      omega (arith, rest, left, right)

pub take_end : {X : Type 0} (xs : List X) (n m : ℕ) → drop n xs ≡ [] → n < suc m → take m xs ≡ take n xs
take_end [] zero zero e lt = refl
take_end [] zero (suc m) e lt = refl
take_end [] (suc n) zero e lt = refl
take_end [] (suc n) (suc m) e lt = refl
take_end (z ∷ zs) zero m e lt = absurd cc
take_end (z ∷ zs) (suc n) zero e lt = absurd (omega (arith, lt))
take_end (z ∷ zs) (suc n) (suc m) e lt = ap (λ (ys : List _). z ∷ ys) (take_end zs n m e (omega (arith, lt)))
