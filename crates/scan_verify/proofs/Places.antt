-- Two lists of statements, place by place.
use Rattle.std.proofs.Common.{◌≡◌, ℕ, ◌<◌, ◌≤◌, List, [], ◌∷◌, length, refl, sym, ap, arith, zero, suc, get_or, ⊎_elim, Option, Some, None, subst}
use Rattle.std.specs.List.{slice_get}
use Rattle.std.proofs.lemmas.Bool.{cases_lt}
use Rattle.std.proofs.lemmas.Option.{slice_get_past, slice_get-get_or}
use Rattle.stil_types.specs.declared.statement.BodyStatement.{BodyStatement}
use Rattle.stil_types.specs.declared.statement.PatternStatement.{PatternStatement}
use Rattle.stil_types.specs.declared.statement.PatternStatement.TheVariants.{Other}
use Rattle.stil_tester.specs.declared.chains.Chains.{Chains}
use Rattle.stil_tester.specs.Runs.{bytes_in}
use Rattle.stil_tester.specs.Meaning.{ReadAlike, BlocksAlike, CallsShowSame, BlocksShowSame, AllAlike, AllShowSame}
use Rattle.stil_written.specs.Readings.{reading}
use Rattle.scan_verify.specs.Patterns.{AreSameStatements, IsSamePlace}

-- ---- in the blocks of Loops

abbrev pub no_body : BodyStatement
no_body = record { start = 0; end = 0; line = 0; call = None }

abbrev pub AreSameInBlocks : Chains → Chains → List ℕ → List ℕ → BodyStatement → BodyStatement → Type 0
AreSameInBlocks old new text other a b = ReadAlike reading a.call (bytes_in text a) b.call (bytes_in other b) × CallsShowSame old new a.call b.call

pub blocks_from : (old new : Chains) (text other : List ℕ) (body block : List BodyStatement) → length block ≡ length body
    → ((k : ℕ) → k < length body → AreSameInBlocks old new text other (get_or body k no_body) (get_or block k no_body))
    → BlocksAlike reading text other body block × BlocksShowSame old new body block
blocks_from old new text other [] [] e h = (tt, tt)
blocks_from old new text other [] (b ∷ bs) e h = absurd (omega arith)
blocks_from old new text other (a ∷ as') [] e h = absurd (omega arith)
blocks_from old new text other (a ∷ as') (b ∷ bs) e h =
    let first : AreSameInBlocks old new text other a b = h 0 (omega arith) in
    let rest : BlocksAlike reading text other as' bs × BlocksShowSame old new as' bs = blocks_from old new text other as' bs (omega arith) (λ k l. h (suc k) (omega arith)) in
    ((first.0, rest.0), (first.1, rest.1))

pub blocks_long : (old new : Chains) (text other : List ℕ) (body block : List BodyStatement) → BlocksShowSame old new body block → length body ≡ length block
blocks_long old new text other [] [] s = refl
blocks_long old new text other [] (b ∷ bs) s = absurd s
blocks_long old new text other (a ∷ as') [] s = absurd s
blocks_long old new text other (a ∷ as') (b ∷ bs) s = ap suc (blocks_long old new text other as' bs s.1)

pub blocks_at : (old new : Chains) (text other : List ℕ) (body block : List BodyStatement) → BlocksAlike reading text other body block → BlocksShowSame old new body block
    → (k : ℕ) → k < length body → AreSameInBlocks old new text other (get_or body k no_body) (get_or block k no_body)
blocks_at old new text other [] [] a s k l = absurd (omega arith)
blocks_at old new text other [] (b ∷ bs) a s k l = absurd s
blocks_at old new text other (x ∷ xs) [] a s k l = absurd s
blocks_at old new text other (x ∷ xs) (b ∷ bs) a s zero l = (a.0, s.0)
blocks_at old new text other (x ∷ xs) (b ∷ bs) a s (suc k) l = blocks_at old new text other xs bs a.1 s.1 k (omega arith)

-- ---- in Patterns

abbrev pub no_statement : PatternStatement
no_statement = Other 0 []

pub place_from : (old new : Chains) (a b : List PatternStatement) (k : ℕ) → k < length a → k < length b → AreSameStatements old new (get_or a k no_statement) (get_or b k no_statement) → IsSamePlace old new (slice_get a k) (slice_get b k)
place_from old new a b k l m same =
    subst (λ (o : Option PatternStatement). IsSamePlace old new o (slice_get b k)) (sym (slice_get-get_or a k no_statement l))
    (subst (λ (o : Option PatternStatement). IsSamePlace old new (Some (get_or a k no_statement)) o) (sym (slice_get-get_or b k no_statement m)) same)

pub place_at : (old new : Chains) (a b : List PatternStatement) (k : ℕ) → k < length a → k < length b → IsSamePlace old new (slice_get a k) (slice_get b k) → AreSameStatements old new (get_or a k no_statement) (get_or b k no_statement)
place_at old new a b k l m same =
    subst (λ (o : Option PatternStatement). IsSamePlace old new (Some (get_or a k no_statement)) o) (slice_get-get_or b k no_statement m)
    (subst (λ (o : Option PatternStatement). IsSamePlace old new o (slice_get b k)) (slice_get-get_or a k no_statement l) same)

-- one list ends and the other doesn't
pub ends_first : (old new : Chains) (a b : List PatternStatement) (k : ℕ) → length a ≤ k → k < length b → IsSamePlace old new (slice_get a k) (slice_get b k) → ⊥
ends_first old new a b k l m same =
    subst (λ (o : Option PatternStatement). IsSamePlace old new None o) (slice_get-get_or b k no_statement m)
    (subst (λ (o : Option PatternStatement). IsSamePlace old new o (slice_get b k)) (slice_get_past a k l) same)

pub ends_second : (old new : Chains) (a b : List PatternStatement) (k : ℕ) → k < length a → length b ≤ k → IsSamePlace old new (slice_get a k) (slice_get b k) → ⊥
ends_second old new a b k l m same =
    subst (λ (o : Option PatternStatement). IsSamePlace old new (Some (get_or a k no_statement)) o) (slice_get_past b k m)
    (subst (λ (o : Option PatternStatement). IsSamePlace old new o (slice_get b k)) (slice_get-get_or a k no_statement l) same)

-- all places are the same
pub all_same : (old new : Chains) (a b : List PatternStatement) → ((k : ℕ) → IsSamePlace old new (slice_get a k) (slice_get b k)) → AllAlike reading a b × AllShowSame old new a b
all_same old new [] [] h = (tt, tt)
all_same old new [] (t ∷ ts) h = absurd (h 0)
all_same old new (s ∷ ss) [] h = absurd (h 0)
all_same old new (s ∷ ss) (t ∷ ts) h =
    let first : AreSameStatements old new s t = h 0 in
    let rest : AllAlike reading ss ts × AllShowSame old new ss ts = all_same old new ss ts (λ k. h (suc k)) in
    ((first.0, rest.0), (first.1, rest.1))

pub same_before : (old new : Chains) (a b : List PatternStatement) (n : ℕ) → length a ≡ n → length b ≡ n → ((k : ℕ) → k < n → IsSamePlace old new (slice_get a k) (slice_get b k)) → AllAlike reading a b × AllShowSame old new a b
same_before old new a b n e f h =
    all_same old new a b (λ k.
    ⊎_elim (λ (l : k < n). h k l)
    (λ (g : n ≤ k).
    subst (λ (o : Option PatternStatement). IsSamePlace old new o (slice_get b k)) (sym (slice_get_past a k (omega (arith, e, g))))
    (subst (λ (o : Option PatternStatement). IsSamePlace old new None o) (sym (slice_get_past b k (omega (arith, f, g)))) tt))
    (cases_lt k n))
