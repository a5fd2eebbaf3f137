-- The scan calls in the block of a Loop, one statement after the other.
use Rattle.std.proofs.Common.{◌≡◌, ℕ, ◌+◌, ◌<◌, List, [], ◌∷◌, ◌++◌, length, take, get_or, refl, sym, ap, ◌∙◌, arith, subst, ◌-◌, ◌%◌, true, false, Option, Some, None}
use Rattle.std.specs.Option.{is_some}
use Rattle.std.proofs.lemmas.Bool.{false≢true}
use Rattle.std.specs.Borrow.{Bor}
use Rattle.std.proofs.lemmas.List.{append-nil, get_or-map, length-append, length-map, map-append, take_more}
use Rattle.stil_types.specs.declared.statement.ScanCall.{ScanCall}
use Rattle.stil_types.specs.declared.statement.BodyStatement.{BodyStatement}
use Rattle.stil_tester.specs.declared.chains.Chains.{Chains}
use Rattle.std.proofs.lemmas.Nat.{mod_below}
use Rattle.fail_map.specs.declared.line.LogLine.{LogLine}
use Rattle.fail_map.specs.Blocks.{AreSameCalls, call_at, call_of_round, calls_among, no_call, read_calls, with_call}

with_append : (call : Option ScanCall) (xs ys : List ScanCall) → with_call call xs ++ ys ≡ with_call call (xs ++ ys)
with_append None xs ys = refl
with_append (Some call) xs ys = refl

among_append : (ss ts : List BodyStatement) → calls_among (ss ++ ts) ≡ calls_among ss ++ calls_among ts
among_append [] ts = refl
among_append (s ∷ ss) ts = ap (with_call s.call) (among_append ss ts) ∙ sym (with_append s.call (calls_among ss) (calls_among ts))

-- one statement more
pub among_more : (body : List BodyStatement) (i : ℕ) (d : BodyStatement) → i < length body → calls_among (take (i + 1) body) ≡ calls_among (take i body) ++ with_call (get_or body i d).call []
among_more body i d l = ap calls_among (take_more body i d l) ∙ among_append (take i body) (get_or body i d ∷ [])

-- without a scan call
pub among_same : (body : List BodyStatement) (i : ℕ) (d : BodyStatement) → i < length body → (get_or body i d).call ≡ None → calls_among (take (i + 1) body) ≡ calls_among (take i body)
among_same body i d l e = among_more body i d l ∙ ap (λ o. calls_among (take i body) ++ with_call o []) e ∙ append-nil (calls_among (take i body))

-- and with one
pub among_next : (body : List BodyStatement) (i : ℕ) (d : BodyStatement) (call : ScanCall) → i < length body → (get_or body i d).call ≡ Some call → calls_among (take (i + 1) body) ≡ calls_among (take i body) ++ call ∷ []
among_next body i d call l e = among_more body i d l ∙ ap (λ o. calls_among (take i body) ++ with_call o []) e

pub read_push : (calls : List (Bor ScanCall)) (call : Bor ScanCall) → read_calls (calls ++ call ∷ []) ≡ read_calls calls ++ call.now ∷ []
read_push calls call = map-append (λ (c : Bor ScanCall). c.now) calls (call ∷ [])

length_with : (call : Option ScanCall) → is_some call ≡ true → length (with_call call []) ≡ 1
length_with None h = absurd (false≢true h)
length_with (Some call) h = refl

length_without : (call : Option ScanCall) → is_some call ≡ false → length (with_call call []) ≡ 0
length_without None h = refl
length_without (Some call) h = absurd (false≢true (sym h))

-- how many scan calls there are
pub count_next : (body : List BodyStatement) (i : ℕ) (d : BodyStatement) → i < length body → d ≡ get_or body i d → is_some d.call ≡ true → length (calls_among (take (i + 1) body)) ≡ length (calls_among (take i body)) + 1
count_next body i d l e h =
    omega (
      arith,
      ap length (among_more body i d l),
      length-append (calls_among (take i body)) (with_call (get_or body i d).call []),
      length_with (get_or body i d).call (ap (λ (s : BodyStatement). is_some s.call) (sym e) ∙ h),
    )

pub count_stays : (body : List BodyStatement) (i : ℕ) (d : BodyStatement) → i < length body → d ≡ get_or body i d → is_some d.call ≡ false → length (calls_among (take (i + 1) body)) ≡ length (calls_among (take i body))
count_stays body i d l e h =
    omega (
      arith,
      ap length (among_more body i d l),
      length-append (calls_among (take i body)) (with_call (get_or body i d).call []),
      length_without (get_or body i d).call (ap (λ (s : BodyStatement). is_some s.call) (sym e) ∙ h),
    )

pub length_read : (calls : List (Bor ScanCall)) → length (read_calls calls) ≡ length calls
length_read calls = length-map calls (λ (c : Bor ScanCall). c.now)

-- a call behind a reference
pub read_at : (calls : List (Bor ScanCall)) (k : ℕ) (d : Bor ScanCall) → k < length calls → call_at (read_calls calls) k ≡ (get_or calls k d).now
read_at calls k d l = get_or-map (λ (c : Bor ScanCall). c.now) calls k d no_call l

-- calls behind references that do the same
pub same_read : (chains others : Chains) (old new : List (Bor ScanCall)) (k : ℕ) (a b : Bor ScanCall) → length old ≡ length new → k < length new → a ≡ get_or old k a → b ≡ get_or new k b
    → AreSameCalls chains others (call_at (read_calls old) k) (call_at (read_calls new) k) → AreSameCalls chains others a.now b.now
same_read chains others old new k a b long l e f same =
    subst (λ (c : ScanCall). AreSameCalls chains others c b.now) (read_at old k a (omega (arith, long, l)) ∙ ap (λ (c : Bor ScanCall). c.now) (sym e))
    (subst (λ (c : ScanCall). AreSameCalls chains others (call_at (read_calls old) k) c) (read_at new k b l ∙ ap (λ (c : Bor ScanCall). c.now) (sym f)) same)

-- the call of a line, behind a reference
pub round_read : (new : List (Bor ScanCall)) (before : ℕ) (line : LogLine) (b : Bor ScanCall) → 0 < length new → b ≡ get_or new ((line.scan - before - 1) % length new) b → call_of_round (read_calls new) before line ≡ b.now
round_read new before line b some e =
    ap (λ n. call_at (read_calls new) ((line.scan - before - 1) % n)) (length_read new)
    ∙ read_at new ((line.scan - before - 1) % length new) b (mod_below (line.scan - before - 1) (length new) some)
    ∙ ap (λ (c : Bor ScanCall). c.now) (sym e)
