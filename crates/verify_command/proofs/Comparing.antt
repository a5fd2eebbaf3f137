-- Two lists of statements beside each other, place by place.
use Rattle.std.proofs.Common.{◌≡◌, ℕ, zero, suc, ◌<◌, ◌≤◌, List, [], ◌∷◌, drop, Option, Some, None, ◌⊎◌, inl, inr, refl, sym, ap, ◌∙◌, subst, arith}
use Rattle.std.specs.List.{slice_get}
use Rattle.std.proofs.lemmas.Bool.{cases_lt}
use Rattle.stil_types.specs.declared.head.StilHead.{StilHead}
use Rattle.stil_types.specs.declared.statement.ScanCall.{ScanCall}
use Rattle.stil_types.specs.declared.statement.PatternStatement.{PatternStatement}
use Rattle.stil_types.specs.declared.statement.PatternStatement.TheVariants.{Scan, Other, Loop}
use Rattle.stil_types.specs.Calls.{IsCallOn, IsAcceptedOn}
use Rattle.stil_calls.specs.declared.judging.Judging.TheVariants.{Lengths}
use Rattle.stil_calls.specs.Statements.{IsAcceptedBy, IsAcceptedIn}
use Rattle.stil_reader.specs.Cursors.{IsReadable}
use Rattle.stil_tester.specs.declared.chains.Chains.{Chains}
use Rattle.stil_tester.specs.Meaning.{AllAlike, AllShowSame}
use Rattle.stil_written.specs.Readings.{reading}
use Rattle.scan_verify.specs.Patterns.{IsReadyCall, IsReady, IsSamePlace, differing}
use Rattle.declared_chains.specs.Files.{Fits}
use Rattle.verify_command.specs.declared.places.Difference.{Difference}
use Rattle.verify_command.specs.Steps.{AreSameUpTo, DiffersAt, IsFound}

-- statements that are read beside a head are ready for the chains that it declares
module _ (head : StilHead) (chains : Chains) (fits : Fits head chains) where
  call_ready : (call : ScanCall) → IsAcceptedBy Lengths head call → IsReadyCall chains (Some call)
  call_ready call a = (subst (λ (bits : List ℕ). IsCallOn bits call) (sym fits.counts) a.0, subst (λ (bits : List ℕ). IsAcceptedOn bits call) (sym fits.counts) a.1)

  run_ready : (call : Option ScanCall) → IsAcceptedIn Lengths head call → IsReadyCall chains call
  run_ready None a = tt
  run_ready (Some call) a = call_ready call a

  pub ready : (s : PatternStatement) → IsReadable head s → IsReady chains s
  ready (Scan pattern text call line) r = (r.small, call_ready call r.accepted)
  ready (Other pattern text) r = r.small
  ready (Loop pattern text times body line) r = (r.small, r.placed, λ k d lt. run_ready _ (r.accepted k d lt))

-- places of a list by what is left there

head_at : {X : Type 0} (xs : List X) (n : ℕ) (x : X) (ys : List X) → drop n xs ≡ x ∷ ys → slice_get xs n ≡ Some x
head_at [] zero x ys e = absurd cc
head_at [] (suc n) x ys e = absurd cc
head_at (z ∷ zs) zero x ys e = let same : z ≡ x = cc in ap (λ (y : _). Some y) same
head_at (z ∷ zs) (suc n) x ys e = head_at zs n x ys e

tail_at : {X : Type 0} (xs : List X) (n : ℕ) (x : X) (ys : List X) → drop n xs ≡ x ∷ ys → drop (suc n) xs ≡ ys
tail_at [] zero x ys e = absurd cc
tail_at [] (suc n) x ys e = absurd cc
tail_at (z ∷ zs) zero x ys e = cc
tail_at (z ∷ zs) (suc n) x ys e = tail_at zs n x ys e

none_at : {X : Type 0} (xs : List X) (n k : ℕ) → drop n xs ≡ [] → n ≤ k → slice_get xs k ≡ None
none_at [] n k e le = refl
none_at (z ∷ zs) zero k e le = absurd cc
none_at (z ∷ zs) (suc n) zero e le = absurd (omega (arith, le))
none_at (z ∷ zs) (suc n) (suc k) e le = none_at zs n k e (omega (arith, le))

module _ (old new : Chains) (a b : List PatternStatement) where
  pub up_begun : AreSameUpTo old new a b 0 a b
  up_begun = record { before = λ k lt. absurd (omega (arith, lt)); first = refl; second = refl }

  module _ (at : ℕ) (more others : List PatternStatement) (up : AreSameUpTo old new a b at more others) where
    pub first_here : (s : PatternStatement) (ms : List PatternStatement) → more ≡ s ∷ ms → slice_get a at ≡ Some s
    first_here s ms e = head_at a at s ms (up.first ∙ e)

    pub second_here : (s : PatternStatement) (ms : List PatternStatement) → others ≡ s ∷ ms → slice_get b at ≡ Some s
    second_here s ms e = head_at b at s ms (up.second ∙ e)

    pub first_none : (k : ℕ) → at ≤ k → more ≡ [] → slice_get a k ≡ None
    first_none k le e = none_at a at k (up.first ∙ e) le

    pub second_none : (k : ℕ) → at ≤ k → others ≡ [] → slice_get b k ≡ None
    second_none k le e = none_at b at k (up.second ∙ e) le

    pub up_on : (s t : PatternStatement) (ms ts : List PatternStatement) → more ≡ s ∷ ms → others ≡ t ∷ ts → IsSamePlace old new (Some s) (Some t) → AreSameUpTo old new a b (suc at) ms ts
    up_on s t ms ts e f same = record {
      before = λ k lt. by k (cases_lt k at) lt;
      first = tail_at a at s ms (up.first ∙ e);
      second = tail_at b at t ts (up.second ∙ f);
    }
      where
        here : IsSamePlace old new (slice_get a at) (slice_get b at)
        here = subst (λ (x : Option PatternStatement). IsSamePlace old new x (slice_get b at)) (sym (first_here s ms e)) (subst (IsSamePlace old new (Some s)) (sym (second_here t ts f)) same)

        by : (k : ℕ) → (k < at) ⊎ (at ≤ k) → k < suc at → IsSamePlace old new (slice_get a k) (slice_get b k)
        by k (inl lt) below = up.before k lt
        by k (inr le) below = let one : at ≡ k = omega (arith, le, below) in subst (λ (j : ℕ). IsSamePlace old new (slice_get a j) (slice_get b j)) one here

    pub differs_at : (o p : Option PatternStatement) → slice_get a at ≡ o → slice_get b at ≡ p → ¬ IsSamePlace old new o p → (d : Difference) → d.at ≡ at → d.pattern ≡ differing o p → DiffersAt old new a b d
    differs_at o p e f never d at_is pattern_is = record {
      before = λ k lt. up.before k (omega (arith, lt, at_is));
      differs = λ same. never (subst (λ (x : Option PatternStatement). IsSamePlace old new x p) here_a (subst (IsSamePlace old new (slice_get a d.at)) here_b same));
      pattern_is = pattern_is ∙ (λ i. differing (sym here_a i) (sym here_b i));
    }
      where
        here_a : slice_get a d.at ≡ o
        here_a = ap (slice_get a) at_is ∙ e

        here_b : slice_get b d.at ≡ p
        here_b = ap (slice_get b) at_is ∙ f

    pub all_found : more ≡ [] → others ≡ [] → IsFound old new a b None
    all_found e f k = by (cases_lt k at) where
      by : (k < at) ⊎ (at ≤ k) → IsSamePlace old new (slice_get a k) (slice_get b k)
      by (inl lt) = up.before k lt
      by (inr le) = subst (λ (x : Option PatternStatement). IsSamePlace old new x (slice_get b k)) (sym (first_none k le e)) (subst (IsSamePlace old new None) (sym (second_none k le f)) tt)

-- where all places are the same

pub all_same : (old new : Chains) (a b : List PatternStatement) → ((k : ℕ) → IsSamePlace old new (slice_get a k) (slice_get b k)) → AllAlike reading a b × AllShowSame old new a b
all_same old new [] [] same = (tt, tt)
all_same old new [] (t ∷ ts) same = absurd (same 0)
all_same old new (s ∷ ss) [] same = absurd (same 0)
all_same old new (s ∷ ss) (t ∷ ts) same =
    let here = same 0 in
    let rest = all_same old new ss ts (λ k. same (suc k)) in
    ((here.0, rest.0), (here.1, rest.1))

pub all_places : (old new : Chains) (a b : List PatternStatement) → AllAlike reading a b → AllShowSame old new a b → (k : ℕ) → IsSamePlace old new (slice_get a k) (slice_get b k)
all_places old new [] [] alike show k = tt
all_places old new [] (t ∷ ts) alike show k = absurd alike
all_places old new (s ∷ ss) [] alike show k = absurd alike
all_places old new (s ∷ ss) (t ∷ ts) alike show zero = (alike.0, show.0)
all_places old new (s ∷ ss) (t ∷ ts) alike show (suc k) = all_places old new ss ts alike.1 show.1 k
