-- The names of the paths in a set, as the paths come one by one.
use Rattle.std.proofs.Common.{◌≡◌, ℕ, ◌+◌, Bool, true, false, cond, List, [], ◌∷◌, ◌++◌, map, filter, refl, sym, ap, ◌∙◌, arith}
use Rattle.std.specs.List.{range_with_len}
use Rattle.std.proofs.lemmas.List.{append-nil, map-append, map-id}
use Rattle.std.proofs.lemmas.List.FromFn.{filter_of_map_range_with_len_more}

push_case : {X : Type 0} (f : ℕ → X) (b : Bool) (n : ℕ) → map f (cond b (n ∷ []) []) ≡ cond b (f n ∷ []) []
push_case f true n = refl
push_case f false n = refl

names_more : {X : Type 0} (f : ℕ → X) (test : ℕ → Bool) (n : ℕ) → map f (filter test (range_with_len 0 (n + 1))) ≡ map f (filter test (range_with_len 0 n)) ++ cond (test n) (f n ∷ []) []
names_more f test n =
    let same = λ (m : ℕ). ap (filter test) (map-id (range_with_len 0 m)) in
    let more = filter_of_map_range_with_len_more test (λ (k : ℕ). k) 0 n n (omega arith) in
    ap (map f) (sym (same (n + 1)) ∙ more ∙ ap (λ (l : List ℕ). l ++ cond (test n) (n ∷ []) []) (same n))
    ∙ map-append f (filter test (range_with_len 0 n)) (cond (test n) (n ∷ []) [])
    ∙ ap (λ (l : List _). map f (filter test (range_with_len 0 n)) ++ l) (push_case f (test n) n)

-- one that is in the set
pub names_in : {X : Type 0} (f : ℕ → X) (test : ℕ → Bool) (n : ℕ) → test n ≡ true → map f (filter test (range_with_len 0 (n + 1))) ≡ map f (filter test (range_with_len 0 n)) ++ f n ∷ []
names_in f test n e = names_more f test n ∙ ap (λ (b : Bool). map f (filter test (range_with_len 0 n)) ++ cond b (f n ∷ []) []) e

-- and one that isn't
pub names_out : {X : Type 0} (f : ℕ → X) (test : ℕ → Bool) (n : ℕ) → test n ≡ false → map f (filter test (range_with_len 0 (n + 1))) ≡ map f (filter test (range_with_len 0 n))
names_out f test n e = names_more f test n ∙ ap (λ (b : Bool). map f (filter test (range_with_len 0 n)) ++ cond b (f n ∷ []) []) e ∙ append-nil (map f (filter test (range_with_len 0 n)))
