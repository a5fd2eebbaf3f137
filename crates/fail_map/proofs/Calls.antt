-- The scan calls that two sets of patterns run, which are the same, one by one.
use Rattle.std.proofs.Common.{◌≡◌, ℕ, ◌+◌, ◌*◌, ◌/◌, ◌%◌, ◌<◌, zero, suc, List, [], ◌∷◌, ◌++◌, length, replicate, refl, sym, ap, ◌∙◌, arith, subst, Option, Some, None}
use Rattle.std.specs.Prelude.{⊤, All, slice_get}
use Rattle.std.proofs.lemmas.List.{length-append, get_or_append_left, get_or-append-add}
use Rattle.std.proofs.lemmas.List.Elements.{All-head, All-tail}
use Rattle.std.proofs.lemmas.Nat.{div-add-mod', div_below, mod_below}
use Rattle.stil_types.specs.declared.statement.ScanCall.{ScanCall}
use Rattle.stil_types.specs.declared.statement.BodyStatement.{BodyStatement}
use Rattle.stil_types.specs.declared.statement.PatternStatement.{PatternStatement}
use Rattle.stil_types.specs.declared.statement.PatternStatement.TheVariants.{Scan, Other, Loop}
use Rattle.stil_tester.specs.declared.symbol.Symbol.{Symbol}
use Rattle.stil_tester.specs.declared.chains.Chains.{Chains}
use Rattle.stil_tester.specs.declared.results.ScanResult.{ScanResult}
use Rattle.stil_tester.specs.Shifting.{HasCells, scan_call}
use Rattle.stil_tester.specs.Runs.{Event, Tells, Shifts, Answer, bytes_in, run_of, round_of, times_over, events_in, events_of, all_events}
use Rattle.stil_tester.specs.Meaning.{Reading, AreAlike, AllAlike, CallsShowSame, BlocksShowSame, StatementsShowSame, AllShowSame}
use Rattle.stil_tester.proofs.Lengths.{length-scan_call}
use Rattle.stil_tester.proofs.Rounds.{events_in-append}
use Rattle.stil_tester.proofs.Meanings.{EventsShowSame}
use Rattle.scan_verify.specs.Patterns.{IsReady, IsReadyCall, pattern_of}
use Rattle.fail_map.specs.Blocks.{AreSameCalls, call_at, calls_among, no_call, round_calls, times_of, with_call}
use Rattle.fail_map.specs.FailLogs.{calls_in, cells_run, patterns_run}

-- ---- lists of scan calls

-- at each place of both lists stand calls that do the same
abbrev pub AllSameCalls : Chains → Chains → List ScanCall → List ScanCall → Type 0
AllSameCalls old new [] [] = ⊤
AllSameCalls old new [] (b ∷ bs) = ⊥
AllSameCalls old new (a ∷ as') [] = ⊥
AllSameCalls old new (a ∷ as') (b ∷ bs) = AreSameCalls old new a b × AllSameCalls old new as' bs

same_append : (old new : Chains) (xs ys us vs : List ScanCall) → AllSameCalls old new xs ys → AllSameCalls old new us vs → AllSameCalls old new (xs ++ us) (ys ++ vs)
same_append old new [] [] us vs h k = k
same_append old new [] (y ∷ ys) us vs h k = absurd h
same_append old new (x ∷ xs) [] us vs h k = absurd h
same_append old new (x ∷ xs) (y ∷ ys) us vs h k = (h.0, same_append old new xs ys us vs h.1 k)

pub same_length : (old new : Chains) (xs ys : List ScanCall) → AllSameCalls old new xs ys → length xs ≡ length ys
same_length old new [] [] h = refl
same_length old new [] (y ∷ ys) h = absurd h
same_length old new (x ∷ xs) [] h = absurd h
same_length old new (x ∷ xs) (y ∷ ys) h = ap suc (same_length old new xs ys h.1)

-- the calls of a number
pub same_at : (old new : Chains) (xs ys : List ScanCall) → AllSameCalls old new xs ys → (k : ℕ) → k < length ys → AreSameCalls old new (call_at xs k) (call_at ys k)
same_at old new [] [] h k l = absurd (omega arith)
same_at old new [] (y ∷ ys) h k l = absurd h
same_at old new (x ∷ xs) [] h k l = absurd h
same_at old new (x ∷ xs) (y ∷ ys) h zero l = h.0
same_at old new (x ∷ xs) (y ∷ ys) h (suc k) l = same_at old new xs ys h.1 k (omega arith)

-- where one list has a call, the other has one that does the same
pub same_there : (old new : Chains) (xs ys : List ScanCall) → AllSameCalls old new xs ys → (k : ℕ) (a : ScanCall) → slice_get xs k ≡ Some a → (b : ScanCall) × (slice_get ys k ≡ Some b) × AreSameCalls old new a b
same_there old new [] [] h k a e = absurd cc
same_there old new [] (y ∷ ys) h k a e = absurd h
same_there old new (x ∷ xs) [] h k a e = absurd h
same_there old new (x ∷ xs) (y ∷ ys) h zero a e = let same : x ≡ a = cc in (y, refl, subst (λ (c : ScanCall). AreSameCalls old new c y) same h.0)
same_there old new (x ∷ xs) (y ∷ ys) h (suc k) a e = same_there old new xs ys h.1 k a e

pub same_here : (old new : Chains) (xs ys : List ScanCall) → AllSameCalls old new xs ys → (k : ℕ) (b : ScanCall) → slice_get ys k ≡ Some b → (a : ScanCall) × (slice_get xs k ≡ Some a) × AreSameCalls old new a b
same_here old new [] [] h k b e = absurd cc
same_here old new [] (y ∷ ys) h k b e = absurd h
same_here old new (x ∷ xs) [] h k b e = absurd h
same_here old new (x ∷ xs) (y ∷ ys) h zero b e = let same : y ≡ b = cc in (x, refl, subst (λ (c : ScanCall). AreSameCalls old new x c) same h.0)
same_here old new (x ∷ xs) (y ∷ ys) h (suc k) b e = same_here old new xs ys h.1 k b e

-- ---- round after round

-- the calls of so many rounds
abbrev pub over : ℕ → List ScanCall → List ScanCall
over zero calls = []
over (suc n) calls = calls ++ over n calls

pub length-over : (n : ℕ) (calls : List ScanCall) → length (over n calls) ≡ n * length calls
length-over zero calls = omega arith
length-over (suc n) calls = grind (arith, length-append calls (over n calls), length-over n calls)

over_at : (n q r : ℕ) (calls : List ScanCall) → q < n → r < length calls → call_at (over n calls) (q * length calls + r) ≡ call_at calls r
over_at zero q r calls l m = absurd (omega arith)
over_at (suc n) zero r calls l m = ap (λ k. call_at (calls ++ over n calls) k) (omega arith) ∙ get_or_append_left calls (over n calls) no_call r m
over_at (suc n) (suc q) r calls l m =
    let step : suc q * length calls + r ≡ length calls + (q * length calls + r) = grind arith in
    ap (λ k. call_at (calls ++ over n calls) k) step ∙ get_or-append-add calls (over n calls) (q * length calls + r) no_call ∙ over_at n q r calls (omega arith) m

-- the k-th of these calls is that of its number in the round
pub over_call : (n k : ℕ) (calls : List ScanCall) → 0 < length calls → k < n * length calls → call_at (over n calls) k ≡ call_at calls (k % length calls)
over_call n k calls some l =
    ap (λ j. call_at (over n calls) j) (sym (div-add-mod' k (length calls)))
    ∙ over_at n (k / length calls) (k % length calls) calls (div_below k (length calls) n some l) (mod_below k (length calls) some)

over_same : (old new : Chains) (n : ℕ) (xs ys : List ScanCall) → AllSameCalls old new xs ys → AllSameCalls old new (over n xs) (over n ys)
over_same old new zero xs ys h = tt
over_same old new (suc n) xs ys h = same_append old new xs ys (over n xs) (over n ys) h (over_same old new n xs ys h)

-- ---- the calls in events

pub calls_in-append : (es fs : List Event) → calls_in (es ++ fs) ≡ calls_in es ++ calls_in fs
calls_in-append [] fs = refl
calls_in-append (Tells t ∷ es) fs = calls_in-append es fs
calls_in-append (Shifts call ∷ es) fs = ap (λ cs. call ∷ cs) (calls_in-append es fs)

calls_run : (text : List ℕ) (call : Option ScanCall) (es : List Event) → calls_in (run_of text call ++ es) ≡ with_call call (calls_in es)
calls_run text None es = refl
calls_run text (Some call) es = refl

calls_round : (text : List ℕ) (body : List BodyStatement) → calls_in (events_in (round_of text body)) ≡ calls_among body
calls_round text [] = refl
calls_round text (s ∷ ss) = calls_run (bytes_in text s) s.call (events_in (round_of text ss)) ∙ ap (with_call s.call) (calls_round text ss)

calls_over : (n : ℕ) (text : List ℕ) (body : List BodyStatement) → calls_in (events_in (times_over n (round_of text body))) ≡ over n (calls_among body)
calls_over zero text body = refl
calls_over (suc n) text body =
    ap calls_in (events_in-append (round_of text body) (times_over n (round_of text body)))
    ∙ calls_in-append (events_in (round_of text body)) (events_in (times_over n (round_of text body)))
    ∙ (λ i. calls_round text body i ++ calls_over n text body i)

-- a statement runs its calls round after round
pub statement_calls : (s : PatternStatement) → calls_in (events_of s) ≡ over (times_of s) (round_calls s)
statement_calls (Scan p text call line) = refl
statement_calls (Other p text) = refl
statement_calls (Loop p text times body line) = calls_over times text body

-- ---- the calls of both sets

call_same : (old new : Chains) (a b : Option ScanCall) (xs ys : List ScanCall) → IsReadyCall old a → IsReadyCall new b → CallsShowSame old new a b → AllSameCalls old new xs ys → AllSameCalls old new (with_call a xs) (with_call b ys)
call_same old new None None xs ys r q show h = h
call_same old new None (Some b) xs ys r q show h = absurd show
call_same old new (Some a) None xs ys r q show h = absurd show
call_same old new (Some a) (Some b) xs ys r q show h = (record { old_call = r.0; old_accepted = r.1; new_call = q.0; new_accepted = q.1; same = show }, h)

among_same : (old new : Chains) (ss ts : List BodyStatement) → All (λ s. IsReadyCall old s.call) ss → All (λ s. IsReadyCall new s.call) ts → BlocksShowSame old new ss ts → AllSameCalls old new (calls_among ss) (calls_among ts)
among_same old new [] [] r q show = tt
among_same old new [] (t ∷ ts) r q show = absurd show
among_same old new (s ∷ ss) [] r q show = absurd show
among_same old new (s ∷ ss) (t ∷ ts) r q show =
    call_same old new s.call t.call (calls_among ss) (calls_among ts) (All-head (λ (x : BodyStatement). IsReadyCall old x.call) s ss r) (All-head (λ (x : BodyStatement). IsReadyCall new x.call) t ts q) show.0
    (among_same old new ss ts (All-tail (λ (x : BodyStatement). IsReadyCall old x.call) s ss r) (All-tail (λ (x : BodyStatement). IsReadyCall new x.call) t ts q) show.1)

-- in one round of two statements
pub round_same : (old new : Chains) (s t : PatternStatement) → IsReady old s → IsReady new t → StatementsShowSame old new s t → AllSameCalls old new (round_calls s) (round_calls t)
round_same old new (Scan p a call line) (Scan q b call' line') r s show = call_same old new (Some call) (Some call') [] [] r.1 s.1 show tt
round_same old new (Other p a) (Other q b) r s show = tt
round_same old new (Loop p a times body line) (Loop q b times' body' line') r s show = among_same old new body body' r.2 s.2 show
round_same old new (Scan p a call line) (Other q b) r s show = absurd show
round_same old new (Scan p a call line) (Loop q b times body line') r s show = absurd show
round_same old new (Other p a) (Scan q b call line) r s show = absurd show
round_same old new (Other p a) (Loop q b times body line) r s show = absurd show
round_same old new (Loop p a times body line) (Scan q b call line') r s show = absurd show
round_same old new (Loop p a times body line) (Other q b) r s show = absurd show

pub times_same : (reading : Reading) (s t : PatternStatement) → AreAlike reading s t → times_of s ≡ times_of t
times_same reading (Scan p a call line) (Scan q b call' line') alike = refl
times_same reading (Other p a) (Other q b) alike = refl
times_same reading (Loop p a times body line) (Loop q b times' body' line') alike = alike.2
times_same reading (Scan p a call line) (Other q b) alike = absurd alike
times_same reading (Scan p a call line) (Loop q b times body line') alike = absurd alike
times_same reading (Other p a) (Scan q b call line) alike = absurd alike
times_same reading (Other p a) (Loop q b times body line) alike = absurd alike
times_same reading (Loop p a times body line) (Scan q b call line') alike = absurd alike
times_same reading (Loop p a times body line) (Other q b) alike = absurd alike

pub pattern_same : (reading : Reading) (s t : PatternStatement) → AreAlike reading s t → pattern_of s ≡ pattern_of t
pattern_same reading (Scan p a call line) (Scan q b call' line') alike = alike.0
pattern_same reading (Other p a) (Other q b) alike = alike.0
pattern_same reading (Loop p a times body line) (Loop q b times' body' line') alike = alike.0
pattern_same reading (Scan p a call line) (Other q b) alike = absurd alike
pattern_same reading (Scan p a call line) (Loop q b times body line') alike = absurd alike
pattern_same reading (Other p a) (Scan q b call line) alike = absurd alike
pattern_same reading (Other p a) (Loop q b times body line) alike = absurd alike
pattern_same reading (Loop p a times body line) (Scan q b call line') alike = absurd alike
pattern_same reading (Loop p a times body line) (Other q b) alike = absurd alike

-- in all that two statements run
statement_same : (reading : Reading) (old new : Chains) (s t : PatternStatement) → IsReady old s → IsReady new t → AreAlike reading s t → StatementsShowSame old new s t → AllSameCalls old new (calls_in (events_of s)) (calls_in (events_of t))
statement_same reading old new s t r q alike show =
    subst (λ (xs : List ScanCall). AllSameCalls old new xs (calls_in (events_of t))) (sym (statement_calls s))
    (subst (λ (ys : List ScanCall). AllSameCalls old new (over (times_of s) (round_calls s)) ys) (sym (statement_calls t))
    (subst (λ (n : ℕ). AllSameCalls old new (over (times_of s) (round_calls s)) (over n (round_calls t))) (times_same reading s t alike)
    (over_same old new (times_of s) (round_calls s) (round_calls t) (round_same old new s t r q show))))

pub all_same : (reading : Reading) (old new : Chains) (ss ts : List PatternStatement) → All (IsReady old) ss → All (IsReady new) ts → AllAlike reading ss ts → AllShowSame old new ss ts → AllSameCalls old new (calls_in (all_events ss)) (calls_in (all_events ts))
all_same reading old new [] [] r q alike show = tt
all_same reading old new [] (t ∷ ts) r q alike show = absurd alike
all_same reading old new (s ∷ ss) [] r q alike show = absurd alike
all_same reading old new (s ∷ ss) (t ∷ ts) r q alike show =
    subst (λ (xs : List ScanCall). AllSameCalls old new xs (calls_in (all_events (t ∷ ts)))) (sym (calls_in-append (events_of s) (all_events ss)))
    (subst (λ (ys : List ScanCall). AllSameCalls old new (calls_in (events_of s) ++ calls_in (all_events ss)) ys) (sym (calls_in-append (events_of t) (all_events ts)))
    (same_append old new (calls_in (events_of s)) (calls_in (events_of t)) (calls_in (all_events ss)) (calls_in (all_events ts))
    (statement_same reading old new s t (All-head (IsReady old) s ss r) (All-head (IsReady new) t ts q) alike.0 show.0)
    (all_same reading old new ss ts (All-tail (IsReady old) s ss r) (All-tail (IsReady new) t ts q) alike.1 show.1)))

-- they are of the same Patterns
pub patterns_same : (reading : Reading) (old new : Chains) (ss ts : List PatternStatement) → All (IsReady old) ss → All (IsReady new) ts → AllAlike reading ss ts → AllShowSame old new ss ts → patterns_run ss ≡ patterns_run ts
patterns_same reading old new [] [] r q alike show = refl
patterns_same reading old new [] (t ∷ ts) r q alike show = absurd alike
patterns_same reading old new (s ∷ ss) [] r q alike show = absurd alike
patterns_same reading old new (s ∷ ss) (t ∷ ts) r q alike show =
    let count : length (calls_in (events_of s)) ≡ length (calls_in (events_of t))
    = same_length old new (calls_in (events_of s)) (calls_in (events_of t)) (statement_same reading old new s t (All-head (IsReady old) s ss r) (All-head (IsReady new) t ts q) alike.0 show.0) in
    let pattern : pattern_of s ≡ pattern_of t = pattern_same reading s t alike.0 in
    let rest : patterns_run ss ≡ patterns_run ts = patterns_same reading old new ss ts (All-tail (IsReady old) s ss r) (All-tail (IsReady new) t ts q) alike.1 show.1 in
    λ i. replicate (count i) (pattern i + 1) ++ rest i

-- ---- the cells before each call

pub cells_same : (old new : Chains) (es fs : List Event) → EventsShowSame old new es fs → (cells : List Symbol) → HasCells old cells → (answers : List Answer) → All (λ (answer : Answer). HasCells old answer.cells) answers → cells_run old es cells answers ≡ cells_run new fs cells answers
cells_same old new [] [] h cells room answers each = refl
cells_same old new (Tells a ∷ es) (Tells b ∷ fs) h cells room [] each = refl
cells_same old new (Tells a ∷ es) (Tells b ∷ fs) h cells room (answer ∷ answers) each =
    cells_same old new es fs h answer.cells (All-head (λ (x : Answer). HasCells old x.cells) answer answers each) answers (All-tail (λ (x : Answer). HasCells old x.cells) answer answers each)
cells_same old new (Shifts c ∷ es) (Shifts d ∷ fs) h cells room answers each =
    let scan : ScanResult = scan_call old cells c in
    let there : HasCells old scan.loaded = omega (arith, length-scan_call old cells c) in
    ap (λ (rest : List (List Symbol)). cells ∷ rest)
    (cells_same old new es fs h.1 scan.loaded there answers each ∙ ap (λ (s : ScanResult). cells_run new fs s.loaded answers) (h.0 cells room))
cells_same old new [] (f ∷ fs) h cells room answers each = absurd h
cells_same old new (Tells a ∷ es) [] h cells room answers each = absurd h
cells_same old new (Shifts a ∷ es) [] h cells room answers each = absurd h
cells_same old new (Tells a ∷ es) (Shifts d ∷ fs) h cells room answers each = absurd h
cells_same old new (Shifts a ∷ es) (Tells b ∷ fs) h cells room answers each = absurd h

-- there is a value for each cell
pub cells_room : (chains : Chains) (es : List Event) (cells : List Symbol) → HasCells chains cells → (answers : List Answer) → All (λ (answer : Answer). HasCells chains answer.cells) answers
    → (k : ℕ) (before : List Symbol) → slice_get (cells_run chains es cells answers) k ≡ Some before → HasCells chains before
cells_room chains [] cells room answers each k before e = absurd cc
cells_room chains (Tells a ∷ es) cells room [] each k before e = absurd cc
cells_room chains (Tells a ∷ es) cells room (answer ∷ answers) each k before e =
    cells_room chains es answer.cells (All-head (λ (x : Answer). HasCells chains x.cells) answer answers each) answers (All-tail (λ (x : Answer). HasCells chains x.cells) answer answers each) k before e
cells_room chains (Shifts c ∷ es) cells room answers each zero before e = let same : cells ≡ before = cc in subst (HasCells chains) same room
cells_room chains (Shifts c ∷ es) cells room answers each (suc k) before e =
    cells_room chains es (scan_call chains cells c).loaded (omega (arith, length-scan_call chains cells c)) answers each k before e
