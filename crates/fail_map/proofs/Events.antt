-- What happens in two runs of patterns that show the same, side by side.
use Rattle.std.proofs.Common.{ℕ, zero, suc, List, [], ◌∷◌, ◌++◌, sym, subst, Option, Some, None}
use Rattle.stil_types.specs.declared.statement.ScanCall.{ScanCall}
use Rattle.stil_types.specs.declared.statement.BodyStatement.{BodyStatement}
use Rattle.stil_types.specs.declared.statement.PatternStatement.{PatternStatement}
use Rattle.stil_types.specs.declared.statement.PatternStatement.TheVariants.{Scan, Other, Loop}
use Rattle.stil_tester.specs.declared.chains.Chains.{Chains}
use Rattle.stil_tester.specs.Runs.{Event, Tells, Shifts, bytes_in, run_of, round_of, times_over, events_in, events_of, all_events}
use Rattle.stil_tester.specs.Meaning.{Reading, AreAlike, AllAlike, CallsShowSame, BlocksShowSame, StatementsShowSame, AllShowSame}
use Rattle.stil_tester.proofs.Rounds.{events_in-append}
use Rattle.stil_tester.proofs.Meanings.{EventsShowSame}

module _ (old new : Chains) where
  both : (es fs gs hs : List Event) → EventsShowSame old new es fs → EventsShowSame old new gs hs → EventsShowSame old new (es ++ gs) (fs ++ hs)
  both [] [] gs hs h k = k
  both (Tells a ∷ es) (Tells b ∷ fs) gs hs h k = both es fs gs hs h k
  both (Shifts c ∷ es) (Shifts d ∷ fs) gs hs h k = (h.0, both es fs gs hs h.1 k)
  both [] (f ∷ fs) gs hs h k = absurd h
  both (Tells a ∷ es) [] gs hs h k = absurd h
  both (Shifts a ∷ es) [] gs hs h k = absurd h
  both (Tells a ∷ es) (Shifts d ∷ fs) gs hs h k = absurd h
  both (Shifts a ∷ es) (Tells b ∷ fs) gs hs h k = absurd h

  run : (c d : Option ScanCall) (a b : List ℕ) → CallsShowSame old new c d → EventsShowSame old new (run_of a c) (run_of b d)
  run (Some c) (Some d) a b h = (h, tt)
  run None None a b h = tt
  run (Some c) None a b h = absurd h
  run None (Some d) a b h = absurd h

  round : (a b : List ℕ) (ss ts : List BodyStatement) → BlocksShowSame old new ss ts → EventsShowSame old new (events_in (round_of a ss)) (events_in (round_of b ts))
  round a b [] [] h = tt
  round a b (s ∷ ss) (t ∷ ts) h =
      both (run_of (bytes_in a s) s.call) (run_of (bytes_in b t) t.call) (events_in (round_of a ss)) (events_in (round_of b ts)) (run s.call t.call (bytes_in a s) (bytes_in b t) h.0) (round a b ss ts h.1)
  round a b [] (t ∷ ts) h = absurd h
  round a b (s ∷ ss) [] h = absurd h

  rounds : (n : ℕ) (rs qs : List (List Event)) → EventsShowSame old new (events_in rs) (events_in qs) → EventsShowSame old new (events_in (times_over n rs)) (events_in (times_over n qs))
  rounds zero rs qs h = tt
  rounds (suc n) rs qs h =
      subst (λ es. EventsShowSame old new es (events_in (qs ++ times_over n qs))) (sym (events_in-append rs (times_over n rs)))
      (subst (EventsShowSame old new (events_in rs ++ events_in (times_over n rs))) (sym (events_in-append qs (times_over n qs)))
      (both (events_in rs) (events_in qs) (events_in (times_over n rs)) (events_in (times_over n qs)) h (rounds n rs qs h)))

  statement : (reading : Reading) (s t : PatternStatement) → AreAlike reading s t → StatementsShowSame old new s t → EventsShowSame old new (events_of s) (events_of t)
  statement reading (Scan p a c l) (Scan q b d m) e h = (h, tt)
  statement reading (Other p a) (Other q b) e h = tt
  statement reading (Loop p a n ss l) (Loop q b m ts l') e h =
      subst (λ k. EventsShowSame old new (events_in (times_over n (round_of a ss))) (events_in (times_over k (round_of b ts)))) e.2 (rounds n (round_of a ss) (round_of b ts) (round a b ss ts h))
  statement reading (Scan p a c l) (Other q b) e h = absurd h
  statement reading (Scan p a c l) (Loop q b n ts m) e h = absurd h
  statement reading (Other p a) (Scan q b d m) e h = absurd h
  statement reading (Other p a) (Loop q b n ts m) e h = absurd h
  statement reading (Loop p a n ss l) (Scan q b d m) e h = absurd h
  statement reading (Loop p a n ss l) (Other q b) e h = absurd h

  pub events_same : (reading : Reading) (ss ts : List PatternStatement) → AllAlike reading ss ts → AllShowSame old new ss ts → EventsShowSame old new (all_events ss) (all_events ts)
  events_same reading [] [] e h = tt
  events_same reading (s ∷ ss) (t ∷ ts) e h = both (events_of s) (events_of t) (all_events ss) (all_events ts) (statement reading s t e.0 h.0) (events_same reading ss ts e.1 h.1)
  events_same reading [] (t ∷ ts) e h = absurd h
  events_same reading (s ∷ ss) [] e h = absurd h
