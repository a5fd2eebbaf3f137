-- Two cursors beside each other, statement by statement.
use Rattle.std.proofs.Common.{◌≡◌, ℕ, zero, suc, ◌+◌, ◌≤◌, List, [], ◌∷◌, drop, take, count_by, Bool, true, false, cond, Option, Some, None, IfSome, refl, sym, ap, ◌∙◌, subst, arith}
use Rattle.std.specs.Prelude.{nat_eq}
use Rattle.std.specs.List.{slice_get}
use Rattle.stil_types.specs.declared.head.StilHead.{StilHead}
use Rattle.stil_types.specs.declared.statement.PatternStatement.{PatternStatement}
use Rattle.stil_reader.specs.Cursors.{Ahead, IsReadable}
use Rattle.stil_tester.specs.declared.chains.Chains.{Chains}
use Rattle.scan_verify.specs.Patterns.{IsReady, IsSamePlace, differing, pattern_of}
use Rattle.declared_chains.specs.Files.{Fits}
use Rattle.verify_command.specs.declared.places.Difference.{Difference}
use Rattle.verify_command.specs.Steps.{TakesStatement, TakesNext, DiffersAt, IsFound, AreBeside, AreCounted}
use Rattle.verify_command.proofs.Comparing.{ready, up_begun, up_on, first_here, second_here, first_none, second_none, differs_at, all_found}
use Rattle.verify_command.proofs.Taken.{count_more, take_end}

module _ (chains others : Chains) (old new : Ahead) where
  pub beside_begun : old.fault ≡ None → new.fault ≡ None → AreBeside chains others old new 0 old new
  beside_begun one two = record { same = up_begun chains others old.statements new.statements; old_head = refl; new_head = refl; old_sound = one; new_sound = two }

  module _ (at : ℕ) (more rest : Ahead) (b : AreBeside chains others old new at more rest) (more' : Ahead) where
    pub ready_old : Fits old.head chains → (a : PatternStatement) → TakesStatement more a more' → IsReady chains a
    ready_old fits a t = ready old.head chains fits a (subst (λ (h : StilHead). IsReadable h a) b.old_head t.readable)

    module _ (rest' : Ahead) where
      pub ready_new : Fits new.head others → (o : Option PatternStatement) → TakesNext rest o rest' → IfSome o (IsReady others)
      ready_new fits None t = tt
      ready_new fits (Some s) t = ready new.head others fits s (subst (λ (h : StilHead). IsReadable h s) b.new_head t.readable)

      second_is : (o : Option PatternStatement) → TakesNext rest o rest' → slice_get new.statements at ≡ o
      second_is None t = second_none chains others old.statements new.statements at more.statements rest.statements b.same at (omega arith) t
      second_is (Some s) t = second_here chains others old.statements new.statements at more.statements rest.statements b.same s rest'.statements t.first

      pub beside_on : (a : PatternStatement) → TakesStatement more a more' → (o : Option PatternStatement) → TakesNext rest o rest' → IsSamePlace chains others (Some a) o
          → (next : ℕ) → next ≡ at + 1 → AreBeside chains others old new next more' rest'
      beside_on a s None t same next e = absurd same
      beside_on a s (Some u) t same next e = subst (λ (n : ℕ). AreBeside chains others old new n more' rest') (let f : suc at ≡ next = omega (arith, e) in f) (record {
        same = up_on chains others old.statements new.statements at more.statements rest.statements b.same a u more'.statements rest'.statements s.first t.first same;
        old_head = s.head ∙ b.old_head;
        new_head = t.head ∙ b.new_head;
        old_sound = s.sound;
        new_sound = t.sound;
      })

      pub differs_here : (a : PatternStatement) → TakesStatement more a more' → (o : Option PatternStatement) → TakesNext rest o rest' → ¬ IsSamePlace chains others (Some a) o
          → (d : Difference) → d.at ≡ at → d.pattern ≡ differing (Some a) o → DiffersAt chains others old.statements new.statements d
      differs_here a s o t never d place number =
          differs_at chains others old.statements new.statements at more.statements rest.statements b.same (Some a) o
          (first_here chains others old.statements new.statements at more.statements rest.statements b.same a more'.statements s.first) (second_is o t) never d place number

      pub differs_alone : more.statements ≡ [] → (s : PatternStatement) → TakesStatement rest s rest' → (d : Difference) → d.at ≡ at → d.pattern ≡ pattern_of s
          → DiffersAt chains others old.statements new.statements d
      differs_alone e s t d place number =
          differs_at chains others old.statements new.statements at more.statements rest.statements b.same None (Some s)
          (first_none chains others old.statements new.statements at more.statements rest.statements b.same at (omega arith) e) (second_is (Some s) t) (λ same. same) d place number

      pub none_differs : more.statements ≡ [] → rest.statements ≡ [] → IsFound chains others old.statements new.statements None
      none_differs e f = all_found chains others old.statements new.statements at more.statements rest.statements b.same e f

-- statements of a Pattern that are counted

module _ (pattern : ℕ) (all : Ahead) where
  pub counted_begun : all.fault ≡ None → AreCounted pattern all 0 0 all
  counted_begun sound = record { is = refl; left = refl; sound = sound }

  module _ (passed count : ℕ) (more more' : Ahead) (c : AreCounted pattern all passed count more) (s : PatternStatement) (t : TakesStatement more s more') where
    tail_left : {X : Type 0} (xs : List X) (n : ℕ) (x : X) (ys : List X) → drop n xs ≡ x ∷ ys → drop (suc n) xs ≡ ys
    tail_left [] zero x ys e = absurd cc
    tail_left [] (suc n) x ys e = absurd cc
    tail_left (z ∷ zs) zero x ys e = cc
    tail_left (z ∷ zs) (suc n) x ys e = tail_left zs n x ys e

    by_test : (b : Bool) → nat_eq pattern (pattern_of s) ≡ b → (new : ℕ) → new ≡ cond b 1 0 + count → AreCounted pattern all (suc passed) new more'
    by_test b e new n = record {
      is = n ∙ ap (λ (x : Bool). cond x 1 0 + count) (sym e) ∙ ap (λ (k : ℕ). cond (nat_eq pattern (pattern_of s)) 1 0 + k) c.is
          ∙ sym (count_more (λ (x : PatternStatement). nat_eq pattern (pattern_of x)) all.statements passed s more'.statements (c.left ∙ t.first));
      left = tail_left all.statements passed s more'.statements (c.left ∙ t.first);
      sound = t.sound;
    }

    either : (b : Bool) → ◌≡◌ {A = ℕ} (cond b (count + 1) count) (cond b 1 0 + count)
    either true = omega arith
    either false = omega arith

    pub counted_on : (new : ℕ) → new ≡ cond (nat_eq pattern (pattern_of s)) (count + 1) count → (next : ℕ) → next ≡ passed + 1 → AreCounted pattern all next new more'
    counted_on new n next e =
        let suc_is : suc passed ≡ next = omega (arith, e) in
        subst (λ (k : ℕ). AreCounted pattern all k new more') suc_is (by_test (nat_eq pattern (pattern_of s)) refl new (n ∙ either (nat_eq pattern (pattern_of s))))

  pub counted_end : (passed count at : ℕ) (more : Ahead) → AreCounted pattern all passed count more → more.statements ≡ [] → passed ≤ at
      → count ≡ count_by (λ (s : PatternStatement). nat_eq pattern (pattern_of s)) (take at all.statements)
  counted_end passed count at more c e le =
      c.is ∙ ap (λ (xs : List PatternStatement). count_by (λ (s : PatternStatement). nat_eq pattern (pattern_of s)) xs) (sym (take_end all.statements passed at (c.left ∙ e) (omega (arith, le))))
