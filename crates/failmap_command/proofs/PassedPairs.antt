-- Pairs of statements that are passed, one after the other.
use Rattle.std.proofs.Common.{◌≡◌, List, [], ◌∷◌, ◌++◌, None, refl, sym, ap, ◌∙◌, subst, append_assoc}
use Rattle.stil_types.specs.declared.statement.PatternStatement.{PatternStatement}
use Rattle.stil_reader.specs.Cursors.{Ahead}
use Rattle.stil_tester.specs.declared.chains.Chains.{Chains}
use Rattle.stil_tester.specs.Meaning.{AllAlike, AllShowSame}
use Rattle.stil_written.specs.Readings.{reading}
use Rattle.verify_command.specs.Steps.{TakesStatement}
use Rattle.fail_map.specs.declared.line.LogLine.{LogLine}
use Rattle.fail_map.specs.Progress.{Progress, AreMappedSoFar}
use Rattle.failmap_command.specs.Passing.{ArePassed}

-- a mapping goes on by one pair
abbrev pub GoesOn : Chains → Chains → PatternStatement → PatternStatement → Progress → Progress → Type 0
GoesOn chains others a b state next =
    (old new : List PatternStatement) (log : List LogLine) → AreMappedSoFar chains others old new log state → AreMappedSoFar chains others (old ++ a ∷ []) (new ++ b ∷ []) log next

module _ (chains others : Chains) (old new : Ahead) (begun : Progress) where
  pub passed_none : old.fault ≡ None → new.fault ≡ None → AllAlike reading old.statements new.statements → AllShowSame chains others old.statements new.statements
      → ArePassed chains others old new begun old new begun
  passed_none one two alike show = record {
    passed = [];
    beside = [];
    old_is = refl;
    new_is = refl;
    old_head = refl;
    new_head = refl;
    old_sound = one;
    new_sound = two;
    alike = alike;
    show_same = show;
    mapped = λ log is. is;
  }

  module _ (more rest : Ahead) (state : Progress) (p : ArePassed chains others old new begun more rest state) (more' : Ahead) (a : PatternStatement) (t : TakesStatement more a more') (rest' : Ahead)
      (b : PatternStatement) (u : TakesStatement rest b rest') where
    alike : AllAlike reading (a ∷ more'.statements) (b ∷ rest'.statements)
    alike = subst (λ (xs : List PatternStatement). AllAlike reading xs (b ∷ rest'.statements)) t.first (subst (λ (xs : List PatternStatement). AllAlike reading more.statements xs) u.first p.alike)

    show : AllShowSame chains others (a ∷ more'.statements) (b ∷ rest'.statements)
    show =
        subst (λ (xs : List PatternStatement). AllShowSame chains others xs (b ∷ rest'.statements)) t.first
        (subst (λ (xs : List PatternStatement). AllShowSame chains others more.statements xs) u.first p.show_same)

    pub passed_on : (next : Progress) → GoesOn chains others a b state next → ArePassed chains others old new begun more' rest' next
    passed_on next on = record {
      passed = p.passed ++ a ∷ [];
      beside = p.beside ++ b ∷ [];
      old_is = p.old_is ∙ ap (λ (xs : List PatternStatement). p.passed ++ xs) t.first ∙ sym (append_assoc p.passed (a ∷ []) more'.statements);
      new_is = p.new_is ∙ ap (λ (xs : List PatternStatement). p.beside ++ xs) u.first ∙ sym (append_assoc p.beside (b ∷ []) rest'.statements);
      old_head = t.head ∙ p.old_head;
      new_head = u.head ∙ p.new_head;
      old_sound = t.sound;
      new_sound = u.sound;
      alike = alike.1;
      show_same = show.1;
      mapped = λ log is. on p.passed p.beside log (p.mapped log is);
    }
