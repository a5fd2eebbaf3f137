-- A written scan call stands for the read one.
use Rattle.std.proofs.Common.{◌≡◌, ℕ, false, List, Option, Some, None, refl, ap, ◌∙◌}
use Rattle.base_types.specs.declared.kind.Kind.{Kind}
use Rattle.stil_tokens.specs.StilTokens.{tokens_in}
use Rattle.stil_types.specs.declared.head.StilHead.{StilHead}
use Rattle.stil_types.specs.declared.statement.ScanCall.{ScanCall}
use Rattle.stil_types.specs.declared.statement.PatternStatement.TheVariants as statements
use Rattle.stil_syntax.specs.declared.item.Item.{Item}
use Rattle.stil_syntax.specs.declared.shape.Shape.{Shape}
use Rattle.stil_syntax.specs.declared.shape.Shape.TheVariants.{NoForm, Unsupported, Other, Scan, Loop}
use Rattle.stil_syntax.specs.Shapes.{shape_of}
use Rattle.stil_calls.specs.declared.judging.Judging.TheVariants.{Lengths}
use Rattle.stil_calls.specs.Faults.{kind_of, fault_or, shape_fault, fault_by}
use Rattle.stil_calls.specs.Statements.{statement_of}
use Rattle.stil_tester.specs.declared.chains.Chains.{Chains}
use Rattle.stil_tester.specs.Meaning.{ShowSame}
use Rattle.stil_writer.specs.Calls.{written_scan}
use Rattle.stil_writer.specs.Laws.{IsScanText, ReadsAsCall}
use Rattle.stil_writer.proofs.ReadAgain.{reads_law}
use Rattle.stil_written.specs.Readings.{heading_of}
use Rattle.stil_written.specs.Written.{with_chains, ReadsAs, IsRewritten}
use Rattle.stil_written.specs.Laws.{IsKept}
use Rattle.pattern_laws.specs.Laws.{ScanLaw}
use Rattle.pattern_laws.proofs.Headings.{heading_law}

pub is_scan : (head : StilHead) (pattern line at : ℕ) (text : List ℕ) (call : ScanCall) (shape : Shape) → statement_of head pattern at text shape ≡ Some (statements.Scan pattern text call line) → (items : List Item) × (shape ≡ Scan items)
is_scan head pattern line at text call NoForm e = absurd cc
is_scan head pattern line at text call Unsupported e = absurd cc
is_scan head pattern line at text call Other e = absurd cc
is_scan head pattern line at text call (Scan items) e = (items, refl)
is_scan head pattern line at text call (Loop times body) e = absurd cc

pub sound_scan : (head : StilHead) (line : ℕ) (text : List ℕ) (items : List Item) → shape_of head false (tokens_in text) ≡ Scan items → kind_of Lengths head (Scan items) ≡ None → fault_by Lengths head line text ≡ None
unfolding fault_by
sound_scan head line text items e k = ap (shape_fault Lengths head line text) e ∙ ap (λ (o : Option Kind). fault_or o line None) k

module _ (head other : StilHead) (old new : Chains) (pattern line : ℕ) (text : List ℕ) (call written : ScanCall) (bytes : List ℕ) (r : ReadsAsCall other false written text bytes)
    (same : ShowSame old new call written) (heading : heading_of text ≡ heading_of bytes) where
  reads_at : (at : ℕ) → ReadsAs Lengths other (IsKept old new) (statements.Scan pattern text call line) at bytes
  reads_at at = record {
    sound = sound_scan other at bytes r.items r.shape r.sound;
    statement = statements.Scan pattern bytes written at;
    is = ap (statement_of other pattern at bytes) r.shape ∙ ap (λ (c : ScanCall). Some (statements.Scan pattern bytes c at)) r.is;
    pairs = record { alike = (refl, heading); shows = same };
  }

  rewritten : IsRewritten Lengths other (IsKept old new) (statements.Scan pattern text call line) bytes
  rewritten = record { begins = r.begins; whole = record { end = r.end; ends = r.ends; whole = r.whole }; reads = reads_at }

pub scan_law : ScanLaw
scan_law head chains marks end old new pattern line brace text call written s opens some w same =
    let other = with_chains head chains marks end in
    let found = is_scan head pattern line s.line text call (shape_of head false (tokens_in text)) s.is in
    let st : IsScanText head false text = record { items = found.0; shape = found.1; brace = brace; opens = opens; end = s.whole.end; ends = s.whole.ends; whole = s.whole.whole } in
    let r = reads_law head other false text written st some w refl refl in
    let bytes = written_scan chains text written in
    rewritten head other old new pattern line text call written (written_scan chains text written) r same (heading_law text bytes r.same_front)
