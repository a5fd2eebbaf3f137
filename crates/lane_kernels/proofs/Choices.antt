-- Choices by the comparison with a splat, lane by lane, and the mask of a comparison.
use Rattle.std.proofs.Common.{◌≡◌, ◌≢◌, ℕ, ◌-◌, ◌^◌, List, [], ◌∷◌, Bool, cond, eqb, map, length, replicate, refl, sym, ap, ◌∙◌, arith, w8}
use Rattle.std.specs.Simd.Lanes.{zip2, sel_l, top}
use Rattle.std.proofs.lemmas.Simd.{tops_compared}
use Rattle.std.proofs.lemmas.Bool.Decides.{nat_tests}

-- where a lane is x, y, and else the lane of another vector
pick : (x y : ℕ) (g : ℕ → ℕ) (s : List ℕ) → sel_l (zip2 eqb s (replicate (length s) x)) (replicate (length s) y) (map g s) ≡ map (λ a. cond (eqb a x) y (g a)) s
pick x y g [] = refl
pick x y g (a ∷ s) = ap (λ r. cond (eqb a x) y (g a) ∷ r) (pick x y g s)

-- where a lane of m is x, the lane of s, and else that of another vector
pick_by : (x : ℕ) (g : ℕ → ℕ) (s m : List ℕ) → length s ≡ length m → sel_l (zip2 eqb m (replicate (length m) x)) s (map g s) ≡ zip2 (λ a b. cond (eqb b x) a (g a)) s m
pick_by x g [] [] e = refl
pick_by x g [] (b ∷ m) e = absurd (omega arith)
pick_by x g (a ∷ s) [] e = absurd (omega arith)
pick_by x g (a ∷ s) (b ∷ m) e = ap (λ r. cond (eqb b x) a (g a) ∷ r) (pick_by x g s m (omega arith))

-- what `select` and `to_bitmask` read of a comparison of two vectors
abbrev pub marks : List ℕ → List ℕ → List Bool
marks xs ys = map (top 7) (zip2 (λ a b. cond (eqb a b) (2 ^ 8 - 1) 0) xs ys)

-- a choice by a splat, where the other vector was computed lane by lane from s
pub choice : (n x y : ℕ) (g : ℕ → ℕ) (s zs : List ℕ) → length s ≡ n → zs ≡ map g s → sel_l (marks s (replicate n x)) (replicate n y) zs ≡ map (λ a. cond (eqb a x) y (g a)) s
choice n x y g s zs l e =
    (λ i. sel_l (tops_compared w8 eqb s (replicate n x) i) (replicate n y) (e i))
    ∙ ap (λ (k : ℕ). sel_l (zip2 eqb s (replicate k x)) (replicate k y) (map g s)) (sym l) ∙ pick x y g s

pub choice_by : (n x : ℕ) (g : ℕ → ℕ) (s m zs : List ℕ) → length s ≡ n → length m ≡ n → zs ≡ map g s → sel_l (marks m (replicate n x)) s zs ≡ zip2 (λ a b. cond (eqb b x) a (g a)) s m
choice_by n x g s m zs l k e =
    (λ i. sel_l (tops_compared w8 eqb m (replicate n x) i) s (e i))
    ∙ ap (λ (j : ℕ). sel_l (zip2 eqb m (replicate j x)) s (map g s)) (sym k) ∙ pick_by x g s m (l ∙ sym k)

-- ---- the number of lanes before the first that is marked, as the code finds it in the mask m
pub none_marked : (m x y : ℕ) → m ≡ 0 → x ≡ cond (eqb m 0) x y
none_marked m x y e = grind (arith, nat_tests)

pub some_marked : (m x y : ℕ) → m ≢ 0 → y ≡ cond (eqb m 0) x y
some_marked m x y e = grind (arith, nat_tests)
