-- What is said is `same` exactly where the sets of files are the same.
use Rattle.std.proofs.Common.{◌≡◌, ◌↔◌, ℕ, List, [], refl, sym, ap, subst, arith, get_or}
use Rattle.std.specs.Prelude.{All, codes, drop}
use Rattle.stil_calls.specs.declared.judging.Judging.TheVariants.{Lengths}
use Rattle.stil_calls.specs.Parts.{judge_by}
use Rattle.stil_reader.specs.Patterns.{behind_head}
use Rattle.stil_tester.specs.Meaning.{PatternText, HaveSameMeaning}
use Rattle.stil_written.specs.Readings.{reading}
use Rattle.stil_written.specs.Unbounded.{comes}
use Rattle.scan_verify.specs.Patterns.{IsDifference}
use Rattle.scan_verify.specs.Reruns.{IsRun}
use Rattle.scan_verify.proofs.Reruns.{back}
use Rattle.same_files.specs.Sets.{FileSet, IsFileSet, ReadSet, IsSet, meant_by}
use Rattle.same_files.specs.Same.{HaveCellsAlike, AreSameFiles}
use Rattle.same_files.proofs.OneSet.{file_set, means, one_set, alike_sets}
use Rattle.verify_command.specs.Steps.{AreAlikeSets}
use Rattle.verify_command.specs.Texts.{same_text, differs_text, place_text, Says, Same, Head, Cells, Patterns, At, IsVerifyText}
use Rattle.verify_command.proofs.Comparing.{all_places}
use Rattle.verify_command.proofs.Runs.{told_run}

-- a text that begins with another byte
other_text : (what : List ℕ) → differs_text what ≡ same_text → ⊥
other_text what e = let f : 100 ≡ 115 = ap (λ (t : List ℕ). get_or t 0 0) e in omega (arith, f)

pub no_difference : (old new : PatternText) (pattern place : ℕ) → All IsRun old.played.statements → HaveSameMeaning reading old new
    → IsDifference old.played.chains new.played.chains old.played.statements new.played.statements pattern place → ⊥
no_difference old new pattern place run same d =
    d.differs (all_places old.played.chains new.played.chains old.played.statements new.played.statements same.run.alike (back reading old.played new.played run same.run) d.at)

worth : (old new : PatternText) (alike : Type 0) (said : List ℕ) → All IsRun old.played.statements → Says old new alike said → (said ≡ same_text) ↔ (alike × HaveSameMeaning reading old new)
worth old new alike _ run (Same cells meaning) = (λ e. (cells, meaning), λ s. refl)
worth old new alike _ run (Head differs) = (λ e. absurd (other_text (codes "head") e), λ s. absurd (differs s.1.head))
worth old new alike _ run (Cells head differs) = (λ e. absurd (other_text (codes "cells") e), λ s. absurd (differs s.0))
worth old new alike _ run (Patterns head cells differs) = (λ e. absurd (other_text (codes "patterns") e), λ s. absurd (differs s.1.names))
worth old new alike _ run (At pattern place head cells names d) = (λ e. absurd (other_text (place_text (get_or old.names pattern []) place) e), λ s. absurd (no_difference old new pattern place run s.1 d))

-- each Loop of what files mean runs at least once
set_runs : (table verilog stil : List ℕ) (set : FileSet) → IsFileSet table verilog stil set → All IsRun set.meant.played.statements
set_runs table verilog stil set is =
    let m = is.means in
    subst (λ (t : PatternText). All IsRun t.played.statements) (sym m.is) (told_run m.head (comes (judge_by Lengths m.head) (behind_head m.head stil) 0 (drop m.head.end stil)))

module _ (table verilog stil new_verilog new_stil said : List ℕ) (v : IsVerifyText table verilog stil new_verilog new_stil said)
    (one : (other : FileSet) → IsFileSet table verilog stil other → other ≡ v.old) (two : (other : FileSet) → IsFileSet table new_verilog new_stil other → other ≡ v.new) where
  pub same_files : (said ≡ same_text) ↔ AreSameFiles table verilog stil new_verilog new_stil
  same_files =
      let w = worth v.old.meant v.new.meant (HaveCellsAlike v.old v.new) said (set_runs table verilog stil v.old v.read) v.says in (
        λ e. let s = w.0 e in record { old = v.old; new = v.new; read = v.read; again = v.again; cells = s.0; meaning = s.1 },
        λ f.
            let a = one f.old f.read in
            let b = two f.new f.again in
            w.1 (subst (λ (x : FileSet). HaveCellsAlike x v.new) a (subst (HaveCellsAlike f.old) b f.cells), subst (λ (x : FileSet). HaveSameMeaning reading x.meant v.new.meant) a (subst (λ (x : FileSet). HaveSameMeaning reading f.old.meant x.meant) b f.meaning)),
      )

-- what is said hangs on whether the cells are alike
says_by : (old new : PatternText) (one other : Type 0) (said : List ℕ) → one ↔ other → Says old new one said → Says old new other said
says_by old new one other _ both (Same cells meaning) = Same (both.0 cells) meaning
says_by old new one other _ both (Head differs) = Head differs
says_by old new one other _ both (Cells head differs) = Cells head (λ cells. differs (both.1 cells))
says_by old new one other _ both (Patterns head cells differs) = Patterns head (both.0 cells) differs
says_by old new one other _ both (At pattern place head cells names d) = At pattern place head (both.0 cells) names d

-- two sets that are read, and what is said of them
module _ (table verilog stil : List ℕ) (old : ReadSet) (is : IsSet table verilog stil old) (new_verilog new_stil : List ℕ) (new : ReadSet) (is' : IsSet table new_verilog new_stil new) (said : List ℕ)
    (says : Says (meant_by old stil) (meant_by new new_stil) (AreAlikeSets old new) said) where
  pub text_is : IsVerifyText table verilog stil new_verilog new_stil said
  text_is = record {
    old = file_set table verilog stil old is;
    new = file_set table new_verilog new_stil new is';
    read = means table verilog stil old is;
    again = means table new_verilog new_stil new is';
    says = says_by (meant_by old stil) (meant_by new new_stil) _ _ said (alike_sets table verilog stil old is new_verilog new_stil new is') says;
  }

  pub text_worth : (said ≡ same_text) ↔ AreSameFiles table verilog stil new_verilog new_stil
  unfolding text_is
  text_worth = same_files table verilog stil new_verilog new_stil said text_is (one_set table verilog stil old is) (one_set table new_verilog new_stil new is')
