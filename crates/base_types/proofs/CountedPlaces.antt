-- How many places hold a byte.
use Rattle.std.proofs.Common.{◌≡◌, ℕ, zero, suc, ◌+◌, ◌-◌, ◌≤◌, Bool, true, false, cond, List, ◌∷◌, length, take, drop, get_or, refl, sym, ap, ◌∙◌, arith}
use Rattle.std.specs.List.{count_by}
use Rattle.std.proofs.lemmas.List.{drop_more, take_all}
use Rattle.std.proofs.lemmas.List.Sums.{sum_by-cons}
use Rattle.memchr.specs.Find.{places_from, places}

one_more : (t : Bool) (i : ℕ) (later : List ℕ) (k : ℕ) → length later ≡ k → length (cond t (i ∷ later) later) ≡ cond t 1 0 + k
one_more true i later k h = omega (arith, h)
one_more false i later k h = omega (arith, h)

places_from-count : (test : ℕ → Bool) (hay : List ℕ) (i n : ℕ) → i + n ≤ length hay → length (places_from test hay i n) ≡ count_by test (take n (drop i hay))
unfolding places_from
places_from-count test hay i zero h = refl
places_from-count test hay i (suc n) h =
    let cut = drop_more hay i 0 (omega arith) in
    rw cut (one_more (test (get_or hay i 0)) i (places_from test hay (i + 1) n) _ (places_from-count test hay (i + 1) n (omega arith))
    ∙ sym (sum_by-cons (λ b. cond (test b) 1 0) (get_or hay i 0) (take n (drop (i + 1) hay))))

pub places-count : (test : ℕ → Bool) (hay : List ℕ) → length (places test hay) ≡ count_by test hay
places-count test hay =
    let all : length hay - 0 ≡ length hay = omega arith in
    rw all (places_from-count test hay 0 (length hay) (omega arith) ∙ ap (count_by test) (take_all (length hay) hay (omega arith)))
