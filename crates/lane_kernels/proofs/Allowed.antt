-- The bytes that are allowed: marked in a block, and counted to the first that is not.
use Rattle.std.proofs.Common.{◌≡◌, ℕ, ◌+◌, ◌-◌, ◌<◌, ◌≤◌, ◌^◌, List, [], Bool, true, false, cond, eqb, map, length, take, get_or, replicate, refl, sym, ap, ◌∙◌, arith, w8, subst, not, ◌||◌, ◌%◌, inl, inr}
use Rattle.std.specs.Simd.Lanes.{sel_l, chunk, mask_l}
use Rattle.std.proofs.lemmas.Simd.{length-chunk, splat_is_map, bitmask_splat, first_set_mask_l, map-map, get_or-chunk}
use Rattle.std.proofs.lemmas.Bool.Decides.{nat_tests}
use Rattle.std.proofs.lemmas.List.Folds.{list_any_more}
use Rattle.std.proofs.lemmas.List.{length-map}
use Rattle.std.specs.List.{prefix_len}
use lib.Count.{count_trailing_zeros}
use Rattle.std.proofs.lemmas.Bool.{cases_lt}
use Rattle.std.proofs.lemmas.List.Sums.{prefix_len_passes, prefix_len_stops, prefix_len-le-length}
use Rattle.lane_kernels.specs.Kernels.{is_allowed}
use Rattle.lane_kernels.proofs.Choices.{marks, choice}

turned : (a b : ℕ) → eqb a b ≡ eqb b a
turned a b = grind (arith, nat_tests)

one_of : (s t : Bool) → cond {A = ℕ} t 255 (cond s 255 0) ≡ cond (s || t) 255 0
one_of true true = refl
one_of true false = refl
one_of false true = refl
one_of false false = refl

-- the lanes that were seen among the first allowed bytes: 255, and else 0
pub seen_none : (s : List ℕ) → length s ≡ 32 → replicate {A = ℕ} 32 0 ≡ map (λ b. cond (is_allowed [] b) 255 0) s
seen_none s l = splat_is_map s 32 0 l

pub seen_more : (al s zs : List ℕ) (i : ℕ) → i < length al → length s ≡ 32 → zs ≡ map (λ b. cond (is_allowed (take i al) b) 255 0) s
    → sel_l (marks s (replicate 32 (get_or al i 0))) (replicate 32 255) zs ≡ map (λ b. cond (is_allowed (take (i + 1) al) b) 255 0) s
seen_more al s zs i h l e =
    let each : (b : ℕ) → cond {A = ℕ} (eqb b (get_or al i 0)) 255 (cond (is_allowed (take i al) b) 255 0) ≡ cond (is_allowed (take (i + 1) al) b) 255 0 = (λ b.
    ap (λ t. cond {A = ℕ} t 255 (cond (is_allowed (take i al) b) 255 0)) (turned b (get_or al i 0))
    ∙ one_of (is_allowed (take i al) b) (eqb (get_or al i 0) b)
    ∙ ap (λ t. cond {A = ℕ} t 255 0) (sym (list_any_more (λ a. eqb a b) al i 0 h))) in
    choice 32 (get_or al i 0) 255 (λ b. cond (is_allowed (take i al) b) 255 0) s zs l e ∙ (λ t. map (λ b. each b t) s)

is_unseen : (a : Bool) → eqb (cond {A = ℕ} a 255 0) 0 ≡ not a
is_unseen true = refl
is_unseen false = refl

not-not : (a : Bool) → not (not a) ≡ a
not-not true = refl
not-not false = refl

-- the first lane that is none of the allowed bytes
pub first_unseen : (al s zs : List ℕ) → length s ≡ 32 → zs ≡ map (λ b. cond (is_allowed al b) 255 0) s → (r : ℕ)
    → r ≡ cond (eqb (mask_l (marks zs (replicate 32 0)) % 2 ^ 64) 0) 32 (count_trailing_zeros 64 (mask_l (marks zs (replicate 32 0)) % 2 ^ 64)) → r ≡ prefix_len (is_allowed al) s
first_unseen al s zs l e r h =
    let lz : length zs ≡ 32 = ap length e ∙ length-map s (λ b. cond (is_allowed al b) 255 0) ∙ l in
    let m : mask_l (marks zs (replicate 32 0)) % 2 ^ 64 ≡ mask_l (map (λ b. not (is_allowed al b)) s) =
    bitmask_splat w8 eqb zs 32 0 lz (omega arith)
    ∙ ap (λ q. mask_l (map (λ x. eqb x 0) q)) e
    ∙ ap mask_l (map-map (λ x. eqb x 0) (λ b. cond (is_allowed al b) 255 0) s)
    ∙ (λ t. mask_l (map (λ b. is_unseen (is_allowed al b) t) s)) in
    h ∙ ap (λ q. cond (eqb q 0) 32 (count_trailing_zeros 64 q)) m ∙ first_set_mask_l (λ b. not (is_allowed al b)) s 32 l (omega arith) ∙ (λ t. prefix_len (λ b. not-not (is_allowed al b) t) s)

-- from the lanes of a block to the bytes
pub run_passes : (p : ℕ → Bool) (xs : List ℕ) (i r : ℕ) → r ≡ prefix_len p (chunk i 32 xs) → ((j : ℕ) → j < i → p (get_or xs j 0) ≡ true) → r ≤ 32 → (j : ℕ) → j < i + r → p (get_or xs j 0) ≡ true
run_passes p xs i r e h l j k = elim (cases_lt j i) [
  | inl a ↦ h j a
  | inr b ↦ (let n : i + (j - i) ≡ j = omega arith in
      subst (λ (q : ℕ). p (get_or xs q 0) ≡ true) n (ap p (sym (get_or-chunk i 32 xs (j - i) 0 (omega arith))) ∙ prefix_len_passes p (chunk i 32 xs) (j - i) 0 (omega arith)))
]

pub run_stops : (p : ℕ → Bool) (xs : List ℕ) (i r : ℕ) → r ≡ prefix_len p (chunk i 32 xs) → i + 32 ≤ length xs → r < 32 → p (get_or xs (i + r) 0) ≡ false
run_stops p xs i r e l h =
    ap p (sym (get_or-chunk i 32 xs r 0 h)) ∙ ap (λ (q : ℕ). p (get_or (chunk i 32 xs) q 0)) e ∙ prefix_len_stops p (chunk i 32 xs) 0 (omega (arith, length-chunk i 32 xs l))

pub run_short : (p : ℕ → Bool) (xs : List ℕ) (i r : ℕ) → r ≡ prefix_len p (chunk i 32 xs) → i + 32 ≤ length xs → r ≤ 32
run_short p xs i r e l = omega (arith, prefix_len-le-length p (chunk i 32 xs), length-chunk i 32 xs l)
