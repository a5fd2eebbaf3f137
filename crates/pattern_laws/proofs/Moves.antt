-- A scan call that is moved to other chains stands for the read one.
use Rattle.std.proofs.Common.{◌≡◌, inl, inr, ◌⊎◌, ℕ, zero, suc, ◌<◌, Bool, false, cond, List, Some, None, refl, sym, ap, ◌∙◌, subst, arith}
use Rattle.std.proofs.lemmas.Bool.{eq-eqb}
use Rattle.stil_tokens.specs.StilTokens.{tokens_in}
use Rattle.stil_types.specs.declared.head.ScanChainDecl.{ScanChainDecl}
use Rattle.stil_types.specs.declared.head.StilHead.{StilHead}
use Rattle.stil_types.specs.declared.statement.ScanCall.{ScanCall}
use Rattle.stil_types.specs.declared.statement.PatternStatement.TheVariants as statements
use Rattle.stil_tester.specs.declared.chains.Chains.{Chains}
use Rattle.stil_syntax.specs.Shapes.{shape_of}
use Rattle.stil_calls.specs.declared.judging.Judging.TheVariants.{Lengths}
use Rattle.stil_calls.specs.Faults.{fault_by}
use Rattle.stil_calls.specs.Scans.{call_of}
use Rattle.stil_calls.specs.Statements.{statement_of, IsAcceptedBy}
use Rattle.stil_calls.proofs.Stated.{are_accepted}
use Rattle.stil_writer.specs.Calls.{brace_end, block_text, with_block, written_scan}
use Rattle.stil_written.specs.Written.{with_chains, IsStated, IsRewritten}
use Rattle.stil_written.specs.Laws.{IsKept}
use Rattle.pattern_laws.specs.Laws.{SamePorts, IsMove}
use Rattle.pattern_laws.proofs.Blocks.{block_law}
use Rattle.pattern_laws.proofs.Scans.{is_scan, scan_law}
use Rattle.pattern_laws.proofs.Still.{same_scan, still_law}

pub none_or_some : (n : ℕ) → (n ≡ 0) ⊎ (0 < n)
none_or_some zero = inl refl
none_or_some (suc n) = inr (omega arith)

pub unmoved : (chains : List ScanChainDecl) (text : List ℕ) (call : ScanCall) → call.shifts ≡ 0 → written_scan chains text call ≡ text
unmoved chains text call e = ap (λ (b : Bool). cond b text (with_block text (block_text chains call) (brace_end (tokens_in text)))) (eq-eqb call.shifts 0 e)

accepted_by : (head : StilHead) (pattern line at : ℕ) (text : List ℕ) (call : ScanCall) → fault_by Lengths head at text ≡ None → statement_of head pattern at text (shape_of head false (tokens_in text)) ≡ Some (statements.Scan pattern text call line) → IsAcceptedBy Lengths head call
unfolding fault_by
accepted_by head pattern line at text call sound is = are_accepted Lengths head at text pattern (shape_of head false (tokens_in text)) (statements.Scan pattern text call line) sound is

module _ (head : StilHead) (chains : List ScanChainDecl) (marks : Bool) (end : ℕ) (old new : Chains) (move : ScanCall → ScanCall) (ports : SamePorts head.chains chains)
    (moving : IsMove head (with_chains head chains marks end) old new move) where
  pub scan_as : (pattern line : ℕ) (text : List ℕ) (call : ScanCall) → IsStated Lengths head (statements.Scan pattern text call line) → (call.shifts ≡ 0) ⊎ (0 < call.shifts)
      → IsRewritten Lengths (with_chains head chains marks end) (IsKept old new) (statements.Scan pattern text call line) (written_scan chains text (move call))
  scan_as pattern line text call s (inl e) =
      let m = moving.stays call e in
      let same : written_scan chains text (move call) ≡ text = ap (written_scan chains text) m.0 ∙ unmoved chains text call e in
      subst (IsRewritten Lengths (with_chains head chains marks end) (IsKept old new) (statements.Scan pattern text call line)) (sym same)
      (still_law head chains marks end old new pattern line text call s e ports m.1)
  scan_as pattern line text call s (inr some) =
      let found = is_scan head pattern line s.line text call (shape_of head false (tokens_in text)) s.is in
      let is_call : call_of head.chains found.0 ≡ call = same_scan pattern line s.line text call (call_of head.chains found.0) (sym (ap (statement_of head pattern s.line text) found.1) ∙ s.is) in
      let count : (call_of head.chains found.0).shifts ≡ call.shifts = ap (λ (c : ScanCall). c.shifts) is_call in
      let brace = block_law head false (tokens_in text) found.0 found.1 (omega (arith, count, some)) in
      let m = moving.moves call (accepted_by head pattern line s.line text call s.sound s.is) some in
      scan_law head chains marks end old new pattern line brace.0 text call (move call) s brace.1 m.0 m.1 m.2
