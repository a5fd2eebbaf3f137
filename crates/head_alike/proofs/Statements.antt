-- What one statement is beside another: whether it is whole, its word, and what stands behind it.
use Rattle.std.proofs.Common.{◌≡◌, ℕ, zero, suc, Bool, true, false, ◌&&◌, ◌||◌, not, cond, inl, inr, List, [], ◌∷◌, ◌++◌, length, drop, codes, Option, Some, None, refl, sym, ap, ◌∙◌, subst}
use Rattle.std.specs.Str.{bytes_eq}
use Rattle.std.proofs.lemmas.Bool.{true≢false}
use Rattle.std.proofs.lemmas.Slice.Eq.{bytes_eq-Decides}
use Rattle.token_forms.specs.Tokens.{Token}
use Rattle.token_forms.specs.Classes.{is_among}
use Rattle.stil_tokens.specs.StilStatements.{is_closed}
use Rattle.stil_syntax.specs.Names.{is_word}
use Rattle.stil_syntax.specs.Shapes.{behind_labels, closes_nothing}
use Rattle.stil_blocks.specs.Statements.{is_whole, begins_word, begins_run, is_worded, has_word, behind_word, opens}
use Rattle.head_alike.specs.Steps.{Step, Keep, Anew, olds, news, AreSteps, IsAnew, starts_behind, changed_words}
use Rattle.head_alike.proofs.Words.{run_word}
use Rattle.head_alike.proofs.Cuts.{closed_same, nothing_same}
use Rattle.head_alike.proofs.Names.{Unlabelled, behind_both}

pub whole_same : (allow begins : Bool) (s : List Step) → AreSteps allow begins s → is_whole (olds s) ≡ is_whole (news s)
whole_same allow begins s are =
    ap (λ (b : Bool). b && not (closes_nothing 0 (olds s))) (closed_same allow begins false 0 s are) ∙ ap (λ (b : Bool). is_closed (news s) && not b) (nothing_same allow begins 0 s are)

pub begins_same : (word : List ℕ) (allow begins : Bool) (s : List Step) → AreSteps allow begins s → begins_word word (olds s) ≡ begins_word word (news s)
begins_same word allow begins [] are = refl
begins_same word allow begins (Keep t u ∷ s) are = ap (λ (w : List ℕ). bytes_eq w word) are.0
begins_same word allow begins (Anew t u xs ys c d ∷ s) are = ap (λ (w : List ℕ). bytes_eq w word) are.0.word

run_same : (allow begins : Bool) (s : List Step) → AreSteps allow begins s → begins_run (olds s) ≡ begins_run (news s)
run_same allow begins [] are = refl
run_same allow begins (Keep t u ∷ s) are = ap is_word are.0
run_same allow begins (Anew t u xs ys c d ∷ s) are = ap is_word are.0.word

pub opens_same : (allow begins : Bool) (s : List Step) → AreSteps allow begins s → opens (olds s) ≡ opens (news s)
opens_same allow begins s are = begins_same (codes "{") allow begins s are

module _ (allow : Bool) (s : List Step) (are : AreSteps allow true s) where
  pub has_same : (word : List ℕ) → has_word word (olds s) ≡ has_word word (news s)
  unfolding has_word
  has_same word =
      let k = behind_both allow s are in
      ap (begins_word word) k.old ∙ begins_same word allow true k.rest k.are ∙ sym (ap (begins_word word) k.new)

  pub worded_same : is_worded (olds s) ≡ is_worded (news s)
  unfolding is_worded
  worded_same =
      let k = behind_both allow s are in
      ap begins_run k.old ∙ run_same allow true k.rest k.are ∙ sym (ap begins_run k.new)

-- behind the word
pub record BehindWord (allow : Bool) (s : List Step) : Type 0 where
  pub rest : List Step
  pub old : behind_word (olds s) ≡ olds rest
  pub new : behind_word (news s) ≡ news rest
  pub are : AreSteps allow false rest

module _ (allow : Bool) (s : List Step) (word : List ℕ) (free : starts_behind word ≡ false) (kept : is_among changed_words word ≡ false) where
  behind_by : (rest : List Step) → behind_labels (olds s) ≡ olds rest → behind_labels (news s) ≡ news rest → AreSteps allow true rest → begins_word word (olds rest) ≡ true → BehindWord allow s
  unfolding behind_word
  behind_by [] e f are has = absurd cc
  behind_by (Keep t u ∷ r) e f are has = record {
    rest = r;
    old = ap (drop 1) e;
    new = ap (drop 1) f;
    are = subst (λ (b : Bool). AreSteps allow b r) (ap starts_behind ((bytes_eq-Decides t.text word).0 has) ∙ free) are.2;
  }
  behind_by (Anew t u xs ys c d ∷ r) e f are has = absurd (true≢false (sym are.0.which ∙ ap (is_among changed_words) ((bytes_eq-Decides t.text word).0 has) ∙ kept))

  pub behind_named : AreSteps allow true s → has_word word (olds s) ≡ true → BehindWord allow s
  unfolding has_word
  behind_named are has =
      let k = behind_both allow s are in
      behind_by k.rest k.old k.new k.are (sym (ap (begins_word word) k.old) ∙ has)
