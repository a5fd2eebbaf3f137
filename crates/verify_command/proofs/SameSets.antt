-- Two sets that are the same, by what is kept of them where they are read.
use Rattle.std.proofs.Common.{ℕ, List, drop, sym, ◌∙◌, subst}
use Rattle.std.specs.Prelude.{All, Some}
use Rattle.stil_calls.specs.declared.judging.Judging.TheVariants.{Lengths}
use Rattle.stil_calls.specs.Parts.{judge_by}
use Rattle.stil_reader.specs.Patterns.{behind_head}
use Rattle.stil_tester.specs.Meaning.{HaveSameMeaning, AllAlike, AllShowSame}
use Rattle.stil_written.specs.Readings.{reading}
use Rattle.stil_written.specs.Unbounded.{comes}
use Rattle.retarget.specs.Retargeting.{HaveSameCells}
use Rattle.scan_verify.specs.Reruns.{IsRun}
use Rattle.scan_verify.proofs.Reruns.{back}
use Rattle.same_files.specs.Sets.{FileSet, ReadSet, ArePatternsOf, IsSet, meant_by}
use Rattle.same_files.specs.Same.{HaveCellsAlike, AreSameFiles}
use Rattle.same_files.proofs.OneSet.{file_set, means, one_set, alike_sets}
use Rattle.verify_command.specs.declared.places.Place.{Place}
use Rattle.verify_command.specs.Steps.{AreSameSets, IsPlaceOf}
use Rattle.verify_command.proofs.Ahead.{chain_count}
use Rattle.verify_command.proofs.Runs.{told_run}
use Rattle.verify_command.proofs.Worth.{no_difference}

-- each Loop of what is meant runs at least once
set_runs : (set : ReadSet) (stil : List ℕ) → All IsRun (meant_by set stil).played.statements
set_runs set stil = told_run set.head (comes (judge_by Lengths set.head) (behind_head set.head stil) 0 (drop set.head.end stil))

module _ (old : ReadSet) (stil : List ℕ) (new : ReadSet) (other : List ℕ) where
  -- where some place differs they aren't the same
  pub not_same : (place : Place) → IsPlaceOf (meant_by old stil).played (meant_by new other).played (Some place) → AreSameSets old stil new other → ⊥
  not_same place differs same = no_difference (meant_by old stil) (meant_by new other) place.pattern place.before (set_runs old stil) same.meaning differs

  module _ (same : AreSameSets old stil new other) where
    pub all_alike : AllAlike reading (meant_by old stil).played.statements (meant_by new other).played.statements
    all_alike = same.meaning.run.alike

    pub all_show_same : AllShowSame old.chains new.chains (meant_by old stil).played.statements (meant_by new other).played.statements
    all_show_same = back reading (meant_by old stil).played (meant_by new other).played (set_runs old stil) same.meaning.run

    pub same_cells : ArePatternsOf stil old → ArePatternsOf other new → HaveSameCells old.chains new.chains
    same_cells p q = record {
      old_chains = p.fits.chains_are;
      new_chains = q.fits.chains_are;
      chains = chain_count other new q ∙ sym same.cells.0 ∙ sym (chain_count stil old p);
      cells = sym same.meaning.run.cells;
    }

-- sets are the same exactly where their files are
module _ (table verilog stil : List ℕ) (old : ReadSet) (is : IsSet table verilog stil old) (new_verilog new_stil : List ℕ) (new : ReadSet) (is' : IsSet table new_verilog new_stil new) where
  abbrev first : FileSet
  first = file_set table verilog stil old is

  abbrev second : FileSet
  second = file_set table new_verilog new_stil new is'

  pub files_of : AreSameSets old stil new new_stil → AreSameFiles table verilog stil new_verilog new_stil
  files_of s = record {
    old = first;
    new = second;
    read = means table verilog stil old is;
    again = means table new_verilog new_stil new is';
    cells = (alike_sets table verilog stil old is new_verilog new_stil new is').0 s.cells;
    meaning = s.meaning;
  }

  pub sets_of : AreSameFiles table verilog stil new_verilog new_stil → AreSameSets old stil new new_stil
  sets_of f =
      let a = one_set table verilog stil old is f.old f.read in
      let b = one_set table new_verilog new_stil new is' f.new f.again in
      record {
        cells = (alike_sets table verilog stil old is new_verilog new_stil new is').1 (subst (λ (x : FileSet). HaveCellsAlike x second) a (subst (HaveCellsAlike f.old) b f.cells));
        meaning = subst (λ (x : FileSet). HaveSameMeaning reading x.meant (meant_by new new_stil)) a (subst (λ (x : FileSet). HaveSameMeaning reading f.old.meant x.meant) b f.meaning);
      }
