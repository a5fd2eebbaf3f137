-- Retargeted patterns mean what was read.
use Rattle.std.proofs.Common.{◌≡◌, ℕ, zero, suc, ◌<◌, ◌≤◌, Bool, true, false, cond, eqb, List, refl, sym, ap, ◌∙◌, subst, arith}
use Rattle.std.proofs.Math.Dec.{eqb-suc-zero}
use Rattle.std.proofs.lemmas.Bool.{eq-eqb}
use Rattle.stil_types.specs.Calls.{IsCallOn, IsAcceptedOn}
use Rattle.stil_types.specs.declared.statement.ScanCall.{ScanCall}
use Rattle.stil_calls.specs.Scans.{most_characters}
use Rattle.stil_tester.specs.declared.chains.Chains.{Chains}
use Rattle.stil_tester.specs.declared.symbol.Symbol.{Symbol}
use Rattle.stil_tester.specs.Meaning.{ShowSame}
use Rattle.stil_tester.specs.Shifting.{cells_before, met_before, scan_call}
use Rattle.pattern_laws.proofs.Ports.{ports_law, same_ports_law}
use Rattle.pattern_laws.proofs.Texts.{all_law, moved_front_law}
use Rattle.retarget.specs.Places.{longest}
use Rattle.retarget.specs.Moved.{moved_strings, moved_call}
use Rattle.retarget.specs.declared.side.Side.TheVariants.{Load, Compare}
use Rattle.retarget.proofs.MovedCalls.{stands_for}
use Rattle.written_meaning.specs.Patterns.Laws.{MovesLaw, MeaningLaw, FrontLaw}

some_shifts : (n : ℕ) → 0 < n → eqb n 0 ≡ false
some_shifts zero h = absurd (omega arith)
some_shifts (suc n) h = eqb-suc-zero n

module _ (old new : Chains) (call : ScanCall) where
  -- a call as it is written, by the test whether it shifts
  abbrev moved_by : Bool → ScanCall
  moved_by still = cond still call (record { shifts = longest new; loads = moved_strings Load old new call.loads; compares = moved_strings Compare old new call.compares })

  is_moved_by : moved_call old new call ≡ moved_by (eqb call.shifts 0)
  unfolding moved_call
  is_moved_by = refl

  stays : call.shifts ≡ 0 → moved_call old new call ≡ call
  stays e = is_moved_by ∙ ap moved_by (eq-eqb call.shifts 0 e)

  shifts : 0 < call.shifts → (moved_call old new call).shifts ≡ longest new
  shifts some = ap (λ (c : ScanCall). c.shifts) (is_moved_by ∙ ap moved_by (some_shifts call.shifts some))

-- a call that doesn't shift leaves the cells, and passes
still : (chains : Chains) (cells : List Symbol) (call : ScanCall) → call.shifts ≡ 0 → scan_call chains cells call ≡ record { loaded = cells; passed = true }
still chains cells call e = ap (λ (n : ℕ). record { loaded = cells_before chains cells call n; passed = met_before chains cells call n }) e

shows_same : (old new : Chains) (call : ScanCall) → call.shifts ≡ 0 → ShowSame old new call call
shows_same old new call e cells has = still old cells call e ∙ sym (still new cells call e)

pub moves_law : MovesLaw
moves_law head chains marks end old new d ports = record {
  moves = λ call accepted some.
      (let fits : IsCallOn _ call = subst (λ (bits : List ℕ). IsCallOn bits call) d.read accepted.0 in
      let sound : IsAcceptedOn _ call = subst (λ (bits : List ℕ). IsAcceptedOn bits call) d.read accepted.1 in
      let s = stands_for old new call d.cells fits sound in
      let moved = moved_call old new call in
      let few : moved.shifts ≤ most_characters = omega (arith, shifts old new call some, d.few) in (
        s.shifts some,
        record {
          ports = same_ports_law head.chains chains d.ports ports;
          fits = subst (λ (bits : List ℕ). IsCallOn bits moved) (sym d.written) s.fits;
          accepted = subst (λ (bits : List ℕ). IsAcceptedOn bits moved) (sym d.written) s.accepted;
          few = few;
        },
        s.shows,
      ));
  stays = λ call e. (stays old new call e, shows_same old new call e);
}

pub meaning_law : MeaningLaw
meaning_law text head chains marks end old new head_form p q bytes h d together sound =
    all_law head chains marks end old new (moved_call old new) head_form p q bytes together sound (sym d.cells.cells) d.ports (moves_law head chains marks end old new d (ports_law text head h))

pub front_law : FrontLaw
front_law text head chains old new head_form p bytes h d top outside sound front =
    moved_front_law head chains head.marks head.end old new (moved_call old new) head_form p bytes top outside sound d.ports (moves_law head chains head.marks head.end old new d (ports_law text head h)) front
