-- The statements of two sets that are read and are the same, as cursors give them.
use Rattle.std.proofs.Common.{◌≡◌, ℕ, List, [], sym, subst}
use Rattle.stil_types.specs.declared.statement.PatternStatement.{PatternStatement}
use Rattle.stil_reader.specs.Cursors.{Ahead, ahead_of}
use Rattle.stil_tester.specs.declared.chains.Chains.{Chains}
use Rattle.stil_tester.specs.Meaning.{AllAlike, AllShowSame}
use Rattle.stil_written.specs.Readings.{reading}
use Rattle.retarget.specs.Retargeting.{HaveSameCells}
use Rattle.same_files.specs.Sets.{ReadSet, ArePatternsOf, meant_by}
use Rattle.verify_command.specs.Steps.{AreSameSets}
use Rattle.verify_command.proofs.Ahead.{ahead_statements}
use Rattle.verify_command.proofs.SameSets.{all_alike, all_show_same, same_cells}
use Rattle.fail_map.specs.declared.line.LogLine.{LogLine}
use Rattle.fail_map.specs.Progress.{Progress, AreMappedSoFar}

module _ (old : ReadSet) (stil : List ℕ) (new : ReadSet) (other : List ℕ) (p : ArePatternsOf stil old) (q : ArePatternsOf other new) (same : AreSameSets old stil new other)
    (m w : Chains) (m_is : m ≡ old.chains) (w_is : w ≡ new.chains) (first second : Ahead) (first_is : first ≡ ahead_of old.head stil) (second_is : second ≡ ahead_of new.head other) where
  one : first.statements ≡ (meant_by old stil).played.statements
  one = ahead_statements stil old p first first_is

  two : second.statements ≡ (meant_by new other).played.statements
  two = ahead_statements other new q second second_is

  cells_same : HaveSameCells m w
  cells_same = subst (λ (x : Chains). HaveSameCells x w) (sym m_is) (subst (λ (x : Chains). HaveSameCells old.chains x) (sym w_is) (same_cells old stil new other same p q))

  pub pairs_alike : AllAlike reading first.statements second.statements
  pairs_alike =
      subst (λ (xs : List PatternStatement). AllAlike reading xs second.statements) (sym one)
      (subst (λ (xs : List PatternStatement). AllAlike reading (meant_by old stil).played.statements xs) (sym two) (all_alike old stil new other same))

  pub pairs_show_same : AllShowSame m w first.statements second.statements
  pairs_show_same =
      subst (λ (x : Chains). AllShowSame x w first.statements second.statements) (sym m_is)
      (subst (λ (x : Chains). AllShowSame old.chains x first.statements second.statements) (sym w_is)
      (subst (λ (xs : List PatternStatement). AllShowSame old.chains new.chains xs second.statements) (sym one)
      (subst (λ (xs : List PatternStatement). AllShowSame old.chains new.chains (meant_by old stil).played.statements xs) (sym two) (all_show_same old stil new other same))))

  -- what all of them map is mapped by what the sets mean
  pub mapped_by_sets : (log : List LogLine) (begun state : Progress) → ((chains others : Chains) → HaveSameCells chains others → AreMappedSoFar chains others [] [] log begun)
      → ((lines : List LogLine) → AreMappedSoFar m w [] [] lines begun → AreMappedSoFar m w first.statements second.statements lines state)
      → AreMappedSoFar old.chains new.chains (meant_by old stil).played.statements (meant_by new other).played.statements log state
  mapped_by_sets log begun state none all =
      subst (λ (x : Chains). AreMappedSoFar x new.chains (meant_by old stil).played.statements (meant_by new other).played.statements log state) m_is
      (subst (λ (x : Chains). AreMappedSoFar m x (meant_by old stil).played.statements (meant_by new other).played.statements log state) w_is
      (subst (λ (xs : List PatternStatement). AreMappedSoFar m w xs (meant_by new other).played.statements log state) one
      (subst (λ (xs : List PatternStatement). AreMappedSoFar m w first.statements xs log state) two (all log (none m w cells_same)))))
