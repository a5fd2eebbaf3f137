-- The statements that are read beside a head fit the chains that it declares.
use Rattle.std.proofs.Common.{ℕ, zero, suc, List, [], ◌∷◌, ◌++◌, Option, Some, None, sym, subst}
use Rattle.std.specs.Prelude.{All}
use Rattle.std.proofs.lemmas.List.Elements.{All-nil, All-cons, All-head, All-tail, All-append, All-same}
use Rattle.stil_types.specs.declared.head.StilHead.{StilHead}
use Rattle.stil_types.specs.declared.statement.ScanCall.{ScanCall}
use Rattle.stil_types.specs.declared.statement.BodyStatement.{BodyStatement}
use Rattle.stil_types.specs.declared.statement.PatternStatement.{PatternStatement}
use Rattle.stil_types.specs.declared.statement.PatternStatement.TheVariants.{Scan, Other, Loop}
use Rattle.stil_types.specs.Calls.{IsCallOn}
use Rattle.stil_types.specs.Statements.{IsPlaced}
use Rattle.stil_calls.specs.declared.judging.Judging.TheVariants.{Lengths}
use Rattle.stil_calls.specs.Statements.{AreAccepted, IsAcceptedIn}
use Rattle.stil_tester.specs.declared.chains.Chains.{Chains}
use Rattle.stil_tester.specs.Runs.{Event, Tells, Shifts, Begins, Reads, Ends, IsEventFor, AreStatementsFor, bytes_in, run_of, round_of, times_over, events_in, events_of}
use Rattle.stil_tester.proofs.Rounds.{events_in-append}
use Rattle.declared_chains.specs.Files.{Fits}

module _ (head : StilHead) (chains : Chains) (fits : Fits head chains) where
  abbrev Fit : List Event → Type 0
  Fit events = All (IsEventFor chains) events

  run_fits : (text : List ℕ) (call : Option ScanCall) → IsAcceptedIn Lengths head call → Fit (run_of text call)
  run_fits text None accepted = All-cons (IsEventFor chains) (Tells (Reads text)) [] tt (All-nil (IsEventFor chains))
  run_fits text (Some call) accepted =
      All-cons (IsEventFor chains) (Tells Begins) (Shifts call ∷ Tells Ends ∷ []) tt
      (All-cons (IsEventFor chains) (Shifts call) (Tells Ends ∷ []) (subst (λ (bits : List ℕ). IsCallOn bits call) (sym fits.counts) accepted.0)
      (All-cons (IsEventFor chains) (Tells Ends) [] tt (All-nil (IsEventFor chains))))

  round_fits : (text : List ℕ) (body : List BodyStatement) → All (λ (s : BodyStatement). IsAcceptedIn Lengths head s.call) body → Fit (events_in (round_of text body))
  round_fits text [] accepted = All-nil (IsEventFor chains)
  round_fits text (s ∷ body) accepted =
      All-append (IsEventFor chains) (run_of (bytes_in text s) s.call) (events_in (round_of text body))
      (run_fits (bytes_in text s) s.call (All-head (λ (s : BodyStatement). IsAcceptedIn Lengths head s.call) s body accepted))
      (round_fits text body (All-tail (λ (s : BodyStatement). IsAcceptedIn Lengths head s.call) s body accepted))

  times_fit : (times : ℕ) (runs : List (List Event)) → Fit (events_in runs) → Fit (events_in (times_over times runs))
  times_fit zero runs fit = All-nil (IsEventFor chains)
  times_fit (suc times) runs fit =
      All-same (IsEventFor chains) (events_in (runs ++ times_over times runs)) (events_in runs ++ events_in (times_over times runs)) (events_in-append runs (times_over times runs))
      (All-append (IsEventFor chains) (events_in runs) (events_in (times_over times runs)) fit (times_fit times runs fit))

  events_fit : (s : PatternStatement) → AreAccepted head s → Fit (events_of s)
  events_fit (Scan pattern text call line) accepted = All-append (IsEventFor chains) (run_of text (Some call)) [] (run_fits text (Some call) accepted) (All-nil (IsEventFor chains))
  events_fit (Other pattern text) accepted = All-append (IsEventFor chains) (run_of text None) [] (run_fits text None tt) (All-nil (IsEventFor chains))
  events_fit (Loop pattern text times body line) accepted = times_fit times (round_of text body) (round_fits text body accepted)

  pub statement_fits : (s : PatternStatement) → AreAccepted head s → IsPlaced s → AreStatementsFor chains (s ∷ [])
  statement_fits s accepted placed = record {
    fit = All-append (IsEventFor chains) (events_of s) [] (events_fit s accepted) (All-nil (IsEventFor chains));
    placed = All-cons IsPlaced s [] placed (All-nil IsPlaced);
  }
