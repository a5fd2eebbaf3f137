-- The value of a decimal, digit by digit.
use Rattle.std.proofs.Common.{◌≡◌, ℕ, ◌+◌, ◌-◌, ◌*◌, ◌<◌, ◌≤◌, List, [], ◌∷◌, length, drop, sym, ap, ◌∙◌, arith}
use Rattle.std.specs.Prelude.{fold, slice_index}
use Rattle.std.proofs.lemmas.List.{drop_more}

abbrev pub with_digit : ℕ → ℕ → ℕ
with_digit n d = n * 10 + (d - 48)

-- more digits make it no less
pub grows : (n : ℕ) (ds : List ℕ) → n ≤ fold with_digit n ds
grows n [] = omega arith
grows n (d ∷ ds) = omega (arith, grows (with_digit n d) ds)

-- a digit that makes it too great
pub too_great : (limit : ℕ) (ds : List ℕ) (i v w : ℕ) → i < length ds → fold with_digit v (drop i ds) ≡ fold with_digit 0 ds → w ≡ with_digit v (slice_index ds i) → limit < w
    → limit < fold with_digit 0 ds
too_great limit ds i v w within same is great =
    let turn = ap (fold with_digit v) (drop_more ds i 0 within) in
    let more = grows w (drop (i + 1) ds) in
    let whole : fold with_digit 0 ds ≡ fold with_digit w (drop (i + 1) ds) = sym same ∙ turn ∙ ap (λ n. fold with_digit n (drop (i + 1) ds)) (sym is) in
    omega (arith, more, great, whole)
