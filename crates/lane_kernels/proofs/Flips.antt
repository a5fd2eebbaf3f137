-- Flips: a block at a time, and an element at a time.
use Rattle.std.proofs.Common.{◌≡◌, ℕ, ◌+◌, ◌<◌, ◌≤◌, List, [], ◌∷◌, ◌++◌, length, take, drop, get_or, replicate, refl, sym, ap, ◌∙◌, arith, set, add-zero}
use Rattle.std.specs.Simd.Lanes.{zip2, sel_l, chunk, put_chunk}
use Rattle.std.proofs.lemmas.Simd.{length-zip2, length-chunk, take_more_put_chunk, put_chunk_is}
use Rattle.std.proofs.Math.Seq.{take-add}
use Rattle.std.proofs.lemmas.List.{map-id, length-take-le, take_more, take_more_set, drop-drop, drop_at, drop-set-lt, get_or-drop}
use Rattle.lane_kernels.specs.Kernels.{flipped, flipped_where}
use Rattle.lane_kernels.proofs.Choices.{marks, choice, choice_by}

-- the five choices of a block are the flip
pub flips : (s m : List ℕ) → length s ≡ 32 → length m ≡ 32
    → sel_l (marks m (replicate 32 0)) s (sel_l (marks s (replicate 32 48)) (replicate 32 49) (sel_l (marks s (replicate 32 49)) (replicate 32 48) (sel_l (marks s (replicate 32 76)) (replicate 32 72) (sel_l (marks s (replicate 32 72)) (replicate 32 76) s))))
    ≡ zip2 flipped_where s m
flips s m l k =
    let a = choice 32 72 76 (λ x. x) s s l (sym (map-id s)) in
    let b = choice 32 76 72 _ s _ l a in
    let c = choice 32 49 48 _ s _ l b in
    let d = choice 32 48 49 _ s _ l c in
    choice_by 32 0 flipped s m _ l k d

zip2-append : {A B C : Type 0} (f : A → B → C) (xs xs' : List A) (ys ys' : List B) → length xs ≡ length ys → zip2 f (xs ++ xs') (ys ++ ys') ≡ zip2 f xs ys ++ zip2 f xs' ys'
zip2-append f [] xs' [] ys' e = refl
zip2-append f [] xs' (y ∷ ys) ys' e = absurd (omega arith)
zip2-append f (x ∷ xs) xs' [] ys' e = absurd (omega arith)
zip2-append f (x ∷ xs) xs' (y ∷ ys) ys' e = ap (λ r. f x y ∷ r) (zip2-append f xs xs' ys ys' (omega arith))

-- a longer front of both lists
zip2_more : (i n : ℕ) (xs ms : List ℕ) → length xs ≡ length ms → i ≤ length xs
    → zip2 flipped_where (take i xs) (take i ms) ++ zip2 flipped_where (take n (drop i xs)) (take n (drop i ms)) ≡ zip2 flipped_where (take (i + n) xs) (take (i + n) ms)
zip2_more i n xs ms e l =
    sym (zip2-append flipped_where (take i xs) (take n (drop i xs)) (take i ms) (take n (drop i ms)) (length-take-le i xs l ∙ sym (length-take-le i ms (omega arith))))
    ∙ (λ t. zip2 flipped_where (sym (take-add i n xs) t) (sym (take-add i n ms) t))

-- an element that was not reached is as it was
at_left : (i : ℕ) (old now : List ℕ) → drop i now ≡ drop i old → get_or now i 0 ≡ get_or old i 0
at_left i old now r = ap (λ (n : ℕ). get_or now n 0) (sym (add-zero i)) ∙ sym (get_or-drop i now 0 0) ∙ ap (λ q. get_or q 0 0) r ∙ get_or-drop i old 0 0 ∙ ap (λ (n : ℕ). get_or old n 0) (add-zero i)

-- the step by a block
pub block_done : (i : ℕ) (old now ms : List ℕ) → length old ≡ length ms → length now ≡ length ms → i + 32 ≤ length ms
    → take i now ≡ zip2 flipped_where (take i old) (take i ms) → drop i now ≡ drop i old
    → take (i + 32) (put_chunk i now (zip2 flipped_where (chunk i 32 now) (chunk i 32 ms))) ≡ zip2 flipped_where (take (i + 32) old) (take (i + 32) ms)
block_done i old now ms e f l d r =
    let ys : List ℕ = zip2 flipped_where (chunk i 32 now) (chunk i 32 ms) in
    let n : length ys ≡ 32 = length-zip2 flipped_where (chunk i 32 now) (chunk i 32 ms) (length-chunk i 32 now (omega arith) ∙ sym (length-chunk i 32 ms l)) ∙ length-chunk i 32 now (omega arith) in
    take_more_put_chunk i now ys (i + 32) (omega arith) (omega arith)
    ∙ (λ t. d t ++ zip2 flipped_where (take 32 (r t)) (chunk i 32 ms))
    ∙ zip2_more i 32 old ms e (omega arith)

-- what comes after the block stays
pub block_left : (i : ℕ) (old now ms : List ℕ) → length now ≡ length ms → i + 32 ≤ length ms → drop i now ≡ drop i old
    → drop (i + 32) (put_chunk i now (zip2 flipped_where (chunk i 32 now) (chunk i 32 ms))) ≡ drop (i + 32) old
block_left i old now ms f l r =
    let ys : List ℕ = zip2 flipped_where (chunk i 32 now) (chunk i 32 ms) in
    let n : length ys ≡ 32 = length-zip2 flipped_where (chunk i 32 now) (chunk i 32 ms) (length-chunk i 32 now (omega arith) ∙ sym (length-chunk i 32 ms l)) ∙ length-chunk i 32 now (omega arith) in
    ap (drop (i + 32)) (put_chunk_is i now ys (omega arith))
    ∙ sym (drop-drop 32 i (take i now ++ (ys ++ drop (length ys) (drop i now))))
    ∙ ap (drop 32) (drop_at (take i now) (ys ++ drop (length ys) (drop i now)) i (length-take-le i now (omega arith)))
    ∙ drop_at ys (drop (length ys) (drop i now)) 32 n
    ∙ (λ t. drop (n t) (r t)) ∙ drop-drop 32 i old

-- the step by one element
pub one_done : (i : ℕ) (old now ms : List ℕ) → length old ≡ length ms → length now ≡ length ms → i < length ms
    → take i now ≡ zip2 flipped_where (take i old) (take i ms) → drop i now ≡ drop i old
    → take (i + 1) (set now i (flipped_where (get_or now i 0) (get_or ms i 0))) ≡ zip2 flipped_where (take (i + 1) old) (take (i + 1) ms)
one_done i old now ms e f l d r =
    take_more_set now i (flipped_where (get_or now i 0) (get_or ms i 0)) (omega arith)
    ∙ (λ t. d t ++ flipped_where (at_left i old now r t) (get_or ms i 0) ∷ [])
    ∙ sym (zip2-append flipped_where (take i old) (get_or old i 0 ∷ []) (take i ms) (get_or ms i 0 ∷ []) (length-take-le i old (omega arith) ∙ sym (length-take-le i ms (omega arith))))
    ∙ (λ t. zip2 flipped_where (sym (take_more old i 0 (omega arith)) t) (sym (take_more ms i 0 l) t))

-- what comes after the element stays
pub one_left : (i y : ℕ) (old now : List ℕ) → drop i now ≡ drop i old → drop (i + 1) (set now i y) ≡ drop (i + 1) old
one_left i y old now r = drop-set-lt (i + 1) now i y (omega arith) ∙ sym (drop-drop 1 i now) ∙ ap (drop 1) r ∙ drop-drop 1 i old
