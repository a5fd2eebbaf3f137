-- What a reversed run changes.
use Rattle.std.proofs.Common.{◌≡◌, ℕ, ◌+◌, ◌-◌, ◌<◌, ◌≤◌, List, [], ◌∷◌, ◌++◌, length, take, drop, reverse, get_or, Option, refl, sym, ap, ◌∙◌, arith, append_assoc, subst, slice_get, suc, zero}
use Rattle.std.proofs.lemmas.List.{take_more, reverse-append, take-append-drop, drop-drop, length-take-le, length-drop, get_or-drop, length-reverse}
use Rattle.std.proofs.lemmas.List.Elements.{All-get_or, All-from_get_or}
use Rattle.std.proofs.lemmas.List.Sorted.{All-permutation, length_permutation}
use Rattle.std.proofs.lemmas.Slice.{drop-put_mid}
use Rattle.std.specs.List.Sorted.{IsPermutation}
use Rattle.base_types.specs.declared.span.Point.{Point}
use Rattle.wire_cost.specs.declared.ends.Ends.{Ends}
use Rattle.wire_cost.specs.Lengths.{AreWithin, ChainEnds, IsChainAt, end_of, first_of, length_of, link_of}
use Rattle.wire_cost.proofs.Walks.{entry_at, exit_at, length-walk, walk, walk-after, walk-append}
use Rattle.order_search.specs.Steps.{reversed_run}

-- a run with its first and last unit, and its inner links forward and backward
pub record IsRun (e : ChainEnds) (b : List ℕ) (h t fw bw : ℕ) : Type 0 where
  pub forward : (x : Option Point) (c : List ℕ) → walk e x (b ++ c) ≡ link_of x (slice_get e.entry h) + (fw + walk e (slice_get e.exit t) c)
  pub backward : (x : Option Point) (c : List ℕ) → walk e x (reverse b ++ c) ≡ link_of x (slice_get e.entry t) + (bw + walk e (slice_get e.exit h) c)

pub run_one : (e : ChainEnds) (u : ℕ) → IsRun e (u ∷ []) u u 0 0
run_one e u = record { forward = λ x c. omega arith; backward = λ x c. omega arith }

pub run_more : (e : ChainEnds) (b : List ℕ) (h t fw bw v : ℕ) → IsRun e b h t fw bw
    → IsRun e (b ++ v ∷ []) h v (fw + link_of (exit_at e t) (entry_at e v)) (bw + link_of (exit_at e v) (entry_at e t))
run_more e b h t fw bw v r = record {
  forward = λ x c. ap (walk e x) (append_assoc b (v ∷ []) c) ∙ (omega (arith, r.forward x (v ∷ c)));
  backward = λ x c. ap (λ (q : List ℕ). walk e x (q ++ c)) (reverse-append b (v ∷ [])) ∙ (omega (arith, r.backward (exit_at e v) c));
}

-- how the length changes where a run is reversed
pub reversal : (e : ChainEnds) (x : Option Point) (a b c : List ℕ) (h t fw bw : ℕ) → IsRun e b h t fw bw
    → walk e x (a ++ (b ++ c)) + (link_of (end_of e.exit x a) (entry_at e t) + bw + link_of (exit_at e h) (first_of e.entry e.stop c)) ≡ walk e x (a ++ (reverse b ++ c)) + (link_of (end_of e.exit x a) (entry_at e h) + fw + link_of (exit_at e t) (first_of e.entry e.stop c))
reversal e x a b c h t fw bw r =
    omega (arith, walk-append e x a (b ++ c) (reverse b ++ c), r.forward (end_of e.exit x a) c, r.backward (end_of e.exit x a) c, walk-after e (exit_at e t) c, walk-after e (exit_at e h) c)

-- a list as what stands before a run, the run, and what stands after it
pub split_run : (us : List ℕ) (i m : ℕ) → us ≡ take i us ++ (take m (drop i us) ++ drop (i + m) us)
split_run us i m = sym (ap (λ q. take i us ++ (take m (drop i us) ++ q)) (sym (drop-drop m i us)) ∙ ap (λ q. take i us ++ q) (take-append-drop m (drop i us)) ∙ take-append-drop i us)

pub run_changes : (e : ChainEnds) (us : List ℕ) (i m h t fw bw : ℕ) → IsRun e (take m (drop i us)) h t fw bw
    → length_of e us + (link_of (end_of e.exit e.start (take i us)) (entry_at e t) + bw + link_of (exit_at e h) (first_of e.entry e.stop (drop (i + m) us)))
    ≡ length_of e (reversed_run us i m) + (link_of (end_of e.exit e.start (take i us)) (entry_at e h) + fw + link_of (exit_at e t) (first_of e.entry e.stop (drop (i + m) us)))
run_changes e us i m h t fw bw r =
    omega (arith, length-walk e us, length-walk e (reversed_run us i m), ap (walk e e.start) (split_run us i m), reversal e e.start (take i us) (take m (drop i us)) (drop (i + m) us) h t fw bw r)

-- the run with one unit more
pub run_grown : (e : ChainEnds) (us : List ℕ) (i j h fw bw x y : ℕ) → i < j → j < length us → IsRun e (take (j - i) (drop i us)) h (get_or us (j - 1) 0) fw bw
    → x ≡ link_of (exit_at e (get_or us (j - 1) 0)) (entry_at e (get_or us j 0)) → y ≡ link_of (exit_at e (get_or us j 0)) (entry_at e (get_or us (j - 1) 0))
    → IsRun e (take (j + 1 - i) (drop i us)) h (get_or us (j + 1 - 1) 0) (fw + x) (bw + y)
run_grown e us i j h fw bw x y l k r p q =
    let v = get_or us j 0 in
    let at : get_or (drop i us) (j - i) 0 ≡ v = get_or-drop i us (j - i) 0 ∙ ap (λ (n : ℕ). get_or us n 0) (omega arith) in
    let more : take (j - i + 1) (drop i us) ≡ take (j - i) (drop i us) ++ v ∷ [] = take_more (drop i us) (j - i) 0 (omega (arith, length-drop i us)) ∙ ap (λ w. take (j - i) (drop i us) ++ w ∷ []) at in
    let n : j + 1 - i ≡ j - i + 1 = omega arith in
    let b : take (j - i) (drop i us) ++ v ∷ [] ≡ take (j + 1 - i) (drop i us) = sym (ap (λ (m : ℕ). take m (drop i us)) n ∙ more) in
    let t : v ≡ get_or us (j + 1 - 1) 0 = ap (λ (m : ℕ). get_or us m 0) (omega arith) in
    let s = run_more e (take (j - i) (drop i us)) h (get_or us (j - 1) 0) fw bw v r in
    subst (λ (m : ℕ). IsRun e (take (j + 1 - i) (drop i us)) h m (fw + x) (bw + y)) t
    (subst (λ (m : ℕ). IsRun e (take (j + 1 - i) (drop i us)) h v (fw + x) (bw + m)) (sym q)
    (subst (λ (m : ℕ). IsRun e (take (j + 1 - i) (drop i us)) h v (fw + m) (bw + link_of (exit_at e v) (entry_at e (get_or us (j - 1) 0)))) (sym p)
    (subst (λ (w : List ℕ). IsRun e w h v (fw + link_of (exit_at e (get_or us (j - 1) 0)) (entry_at e v)) (bw + link_of (exit_at e v) (entry_at e (get_or us (j - 1) 0)))) b s)))

-- the same units in another order are in range too
pub within_moved : (n : ℕ) (us vs : List ℕ) → IsPermutation us vs → AreWithin us n → AreWithin vs n
within_moved n us vs p g = λ k l. All-get_or (λ (u : ℕ). u < n) vs k 0 l (All-permutation (λ (u : ℕ). u < n) us vs p (All-from_get_or (λ (u : ℕ). u < n) us 0 g))

pub chain_moved : (e : Ends) (c : ℕ) (us vs : List ℕ) → IsPermutation us vs → IsChainAt e c us → IsChainAt e c vs
chain_moved e c us vs p g =
    let n : length vs ≡ length us = length_permutation us vs p in
    record { start = g.start; stop = g.stop; entry = within_moved (length e.entry) us vs p g.entry; exit = within_moved (length e.exit) us vs p g.exit; few = omega (arith, g.few) }

pub tail_kept : (us : List ℕ) (i m limit : ℕ) → i + m ≤ limit → limit ≤ length us → drop limit (reversed_run us i m) ≡ drop limit us
tail_kept us i m limit h l =
    ap (λ q. drop limit (take i us ++ (reverse (take m (drop i us)) ++ q))) (sym (drop-drop m i us))
    ∙ drop-put_mid i m us (reverse (take m (drop i us))) limit h (omega arith) (length-reverse (take m (drop i us)) ∙ length-take-le m (drop i us) (omega (arith, length-drop i us)))

reverse_short : (m : ℕ) (xs : List ℕ) → m ≤ 1 → reverse (take m xs) ≡ take m xs
reverse_short zero xs h = refl
reverse_short (suc zero) [] h = refl
reverse_short (suc zero) (x ∷ xs) h = refl
reverse_short (suc (suc m)) xs h = absurd (omega arith)

-- a run of at most one unit stays
pub still : (us : List ℕ) (i m : ℕ) → m ≤ 1 → reversed_run us i m ≡ us
still us i m h = ap (λ (q : List ℕ). take i us ++ (q ++ drop (i + m) us)) (reverse_short m (drop i us) h) ∙ sym (split_run us i m)

-- the run of the one unit at place i
pub run_first : (w : ChainEnds) (us : List ℕ) (i : ℕ) → i < length us → IsRun w (take (i + 1 - i) (drop i us)) (get_or us i 0) (get_or us (i + 1 - 1) 0) 0 0
run_first w us i l =
    let n : i + 1 - i ≡ 0 + 1 = omega arith in
    let t : get_or us i 0 ≡ get_or us (i + 1 - 1) 0 = ap (λ (k : ℕ). get_or us k 0) (omega arith) in
    let at : get_or (drop i us) 0 0 ≡ get_or us i 0 = get_or-drop i us 0 0 ∙ ap (λ (k : ℕ). get_or us k 0) (omega arith) in
    let one : take (i + 1 - i) (drop i us) ≡ get_or us i 0 ∷ [] = ap (λ (k : ℕ). take k (drop i us)) n ∙ take_more (drop i us) 0 0 (omega (arith, length-drop i us)) ∙ ap (λ (k : ℕ). k ∷ []) at in
    subst (λ (k : ℕ). IsRun w (take (i + 1 - i) (drop i us)) (get_or us i 0) k 0 0) t
    (subst (λ (b : List ℕ). IsRun w b (get_or us i 0) (get_or us i 0) 0 0) (sym one) (run_one w (get_or us i 0)))
