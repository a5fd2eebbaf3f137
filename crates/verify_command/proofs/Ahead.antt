-- Cursors over the patterns of sets that are read.
use Rattle.std.proofs.Common.{◌≡◌, ℕ, List, Option, Some, None, sym, ap, ◌∙◌, subst}
use Rattle.std.specs.Prelude.{nat_eq, length, take, count_by}
use Rattle.std.proofs.lemmas.List.{length-map}
use Rattle.path_chains.specs.Numbered.{chain_of}
use Rattle.path_chains.specs.Ranked.{rank_of, bits_of_all}
use Rattle.stil_types.specs.declared.head.StilHead.{StilHead}
use Rattle.stil_types.specs.declared.statement.PatternStatement.{PatternStatement}
use Rattle.stil_reader.specs.Sayings.{Told}
use Rattle.stil_reader.specs.Patterns.{statements_in}
use Rattle.stil_reader.specs.Cursors.{Ahead, ahead_of}
use Rattle.stil_tester.specs.declared.chains.Chains.{Chains}
use Rattle.stil_tester.specs.Meaning.{Patterns, HaveSameMeaning}
use Rattle.stil_tester.proofs.Meanings.{run_alike}
use Rattle.stil_written.specs.Readings.{reading}
use Rattle.scan_verify.specs.Patterns.{pattern_of}
use Rattle.declared_chains.specs.Files.{Fits}
use Rattle.same_files.specs.Sets.{ReadSet, ArePatternsOf, meant_by}
use Rattle.verify_command.specs.declared.places.Difference.{Difference}
use Rattle.verify_command.specs.declared.places.Place.{Place}
use Rattle.verify_command.specs.Steps.{IsFound, IsPlaceOf}
use Rattle.verify_command.proofs.Comparing.{all_same}

module _ (stil : List ℕ) (set : ReadSet) (p : ArePatternsOf stil set) (ahead : Ahead) (is : ahead ≡ ahead_of set.head stil) where
  pub ahead_sound : ahead.fault ≡ None
  ahead_sound = ap (λ (a : Ahead). a.fault) is ∙ ap (λ (t : Told). t.fault) p.told ∙ p.sound

  pub ahead_statements : ahead.statements ≡ (meant_by set stil).played.statements
  ahead_statements = ap (λ (a : Ahead). a.statements) is ∙ ap (λ (t : Told). statements_in t.says) p.told

  pub ahead_fits : (chains : Chains) → chains ≡ set.chains → Fits ahead.head chains
  ahead_fits chains e = subst (λ (h : StilHead). Fits h chains) (sym (ap (λ (a : Ahead). a.head) is)) (subst (Fits set.head) (sym e) p.fits)

-- chains and cells are as many as paths and bits
module _ (stil : List ℕ) (set : ReadSet) (p : ArePatternsOf stil set) where
  pub chain_count : length set.chains.chains ≡ length set.bits
  chain_count = ap (λ (c : Chains). length c.chains) p.chains_are ∙ length-map set.bits (chain_of (rank_of set.netlist (bits_of_all set.bits)))

  pub cell_count : set.chains.cells ≡ length (bits_of_all set.bits)
  cell_count = ap (λ (c : Chains). c.cells) p.chains_are

module _ (old new : Patterns) (m w : Chains) (m_is : m ≡ old.chains) (w_is : w ≡ new.chains) (a b : List PatternStatement) (one : a ≡ old.statements) (two : b ≡ new.statements) where
  here : (found : Option Difference) → IsFound m w a b found → IsFound old.chains new.chains old.statements new.statements found
  here found f =
      subst (λ (x : Chains). IsFound x new.chains old.statements new.statements found) m_is
      (subst (λ (x : Chains). IsFound m x old.statements new.statements found) w_is
      (subst (λ (xs : List PatternStatement). IsFound m w xs new.statements found) one (subst (λ (ys : List PatternStatement). IsFound m w a ys found) two f)))

  pub all_places_same : (found : Option Difference) → found ≡ None → IsFound m w a b found → IsPlaceOf old new None
  all_places_same found e f = here None (subst (IsFound m w a b) e f)

  pub place_is : (d : Difference) (found : Option Difference) → found ≡ Some d → IsFound m w a b found → (place : Place) → place.pattern ≡ d.pattern
      → place.before ≡ count_by (λ (s : PatternStatement). nat_eq d.pattern (pattern_of s)) (take d.at old.statements) → IsPlaceOf old new (Some place)
  place_is d found e f place number count =
      let differs = here (Some d) (subst (IsFound m w a b) e f) in
      record {
        at = d.at;
        before = differs.before;
        differs = differs.differs;
        pattern_is = number ∙ differs.pattern_is;
        place_is = count ∙ ap (λ (n : ℕ). count_by (λ (s : PatternStatement). nat_eq n (pattern_of s)) (take d.at old.statements)) (sym number);
      }

-- where all places are the same, so is the meaning
pub same_meaning : (old new : ReadSet) (stil other : List ℕ) → ArePatternsOf stil old → ArePatternsOf other new → (meant_by old stil).head ≡ (meant_by new other).head → old.names ≡ new.names
    → length (bits_of_all old.bits) ≡ length (bits_of_all new.bits) → IsPlaceOf (meant_by old stil).played (meant_by new other).played None → HaveSameMeaning reading (meant_by old stil) (meant_by new other)
same_meaning old new stil other p q head names count same =
    let a = (meant_by old stil).played in
    let b = (meant_by new other).played in
    let all = all_same a.chains b.chains a.statements b.statements same in
    record { head = head; names = names; run = run_alike reading a b (cell_count stil old p ∙ count ∙ sym (cell_count other new q)) all.0 all.1 }
