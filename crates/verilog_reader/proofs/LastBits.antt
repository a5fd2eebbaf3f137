-- The last bits of a number, and of digits that are read one after another.
use Rattle.std.proofs.Common.{◌≡◌, ℕ, zero, suc, ◌+◌, ◌-◌, ◌*◌, ◌/◌, ◌%◌, ◌^◌, ◌<◌, ◌≤◌, true, false, List, [], ◌∷◌, ◌++◌, length, take, drop, replicate, refl, sym, ap, ◌∙◌, subst, append_assoc, append-nil, length-append, length-drop, arith}
use Rattle.std.proofs.Math.Pow.{mod-mod-pow}
use Rattle.std.proofs.Math.Nat.{pow-suc, mod-add-div', add-mul-mod_self_right, zero-mod, sub_self, div-one}
use Rattle.std.proofs.Math.Seq.{drop-length, take-length}
use Rattle.std.proofs.lemmas.Nat.{field_of, pow_pos, shr-shr}
use Rattle.std.proofs.lemmas.List.{replicate_more, drop-append-le, drop-drop}
use Rattle.verilog_syntax.specs.VerilogTokens.{is_unknown}
use Rattle.netlist_core.specs.declared.netlist.Bit.{Bit}
use Rattle.netlist_core.specs.declared.netlist.Bit.TheVariants.{Zero, Unknown}
use Rattle.verilog_reader.specs.Constants.{bit_of, value_bits, digit_value, digit_bits, fitted}
use Rattle.verilog_reader.specs.LastBits.{masked_bit, masked_bits}

masked_bits-suc : (n v u : ℕ) → masked_bits (suc n) v u ≡ masked_bits n (v / 2) (u / 2) ++ masked_bit (v % 2) (u % 2) ∷ []
unfolding masked_bits
masked_bits-suc n v u = refl

-- bits beyond those that are asked for don't matter
masked_bits-mod : (n j v u : ℕ) → masked_bits n (v % 2 ^ (j + n)) (u % 2 ^ (j + n)) ≡ masked_bits n v u
unfolding masked_bits
masked_bits-mod zero j v u = refl
masked_bits-mod (suc n) j v u =
    let e : j + suc n ≡ (j + n) + 1 = omega arith in
    let half = λ (x : ℕ). ap (λ (k : ℕ). x % 2 ^ k / 2) e ∙ field_of x (j + n) 1 in
    let low = λ (x : ℕ). ap (λ (k : ℕ). x % 2 ^ k % 2) e ∙ mod-mod-pow x (j + n) 1 in
    rw (half v, half u, low v, low u) (ap (λ (bs : List Bit). bs ++ masked_bit (v % 2) (u % 2) ∷ []) (masked_bits-mod n j (v / 2) (u / 2)))

pub masked_bits-mod_at : (k n v u : ℕ) → n ≤ k → masked_bits n (v % 2 ^ k) (u % 2 ^ k) ≡ masked_bits n v u
masked_bits-mod_at k n v u within =
    let e : (k - n) + n ≡ k = omega arith in
    subst (λ (j : ℕ). masked_bits n (v % 2 ^ j) (u % 2 ^ j) ≡ masked_bits n v u) e (masked_bits-mod n (k - n) v u)

-- no unknown bits
pub masked_bits-known : (n v : ℕ) → masked_bits n v 0 ≡ value_bits n v
unfolding masked_bits
masked_bits-known zero v = refl
masked_bits-known (suc n) v = ap (λ (bs : List Bit). bs ++ bit_of (v % 2) ∷ []) (masked_bits-known n (v / 2))

-- all unknown
pub masked_bits-unknown : (n k : ℕ) → n ≤ k → masked_bits n 0 (2 ^ k - 1) ≡ replicate n Unknown
unfolding masked_bits
masked_bits-unknown zero k within = refl
masked_bits-unknown (suc n) zero within = absurd (omega arith)
masked_bits-unknown (suc n) (suc k) within =
    let half : (2 ^ suc k - 1) / 2 ≡ 2 ^ k - 1 = omega (arith, pow-suc 2 k, pow_pos k) in
    let low : (2 ^ suc k - 1) % 2 ≡ 1 = omega (arith, pow-suc 2 k, pow_pos k) in
    let one_more : n + 1 ≡ suc n = omega arith in
    rw (half, low) (ap (λ (bs : List Bit). bs ++ Unknown ∷ []) (masked_bits-unknown n k (omega arith)) ∙ replicate_more n Unknown ∙ ap (λ (m : ℕ). replicate m Unknown) one_more)

-- all zeros
masked_bits-none : (n : ℕ) → masked_bits n 0 0 ≡ replicate n Zero
unfolding masked_bits
masked_bits-none zero = refl
masked_bits-none (suc n) =
    let one_more : n + 1 ≡ suc n = omega arith in
    ap (λ (bs : List Bit). bs ++ Zero ∷ []) (masked_bits-none n) ∙ replicate_more n Zero ∙ ap (λ (m : ℕ). replicate m Zero) one_more

fitted_none : (fill : Bit) (bits : List Bit) → fitted 0 fill bits ≡ []
fitted_none fill bits =
    let none : 0 - length bits ≡ 0 = omega arith in
    let all : length bits - 0 ≡ length bits = omega arith in
    rw (none, all) (drop-length bits)

fitted_more : (n : ℕ) (fill : Bit) (bits : List Bit) (b : Bit) → fitted (suc n) fill (bits ++ b ∷ []) ≡ fitted n fill bits ++ b ∷ []
fitted_more n fill bits b =
    let len : length (bits ++ b ∷ []) ≡ length bits + 1 = length-append bits (b ∷ []) in
    let front : suc n - (length bits + 1) ≡ n - length bits = omega arith in
    let past : (length bits + 1) - suc n ≡ length bits - n = omega arith in
    rw (len, front, past)
    (ap (λ (bs : List Bit). replicate (n - length bits) fill ++ bs) (drop-append-le (length bits - n) bits (b ∷ []) (omega arith)) ∙ sym (append_assoc (replicate (n - length bits) fill) (drop (length bits - n) bits) (b ∷ [])))

-- up to 128 bits are known from the right
abbrev pub Shows : Bit → List Bit → ℕ → ℕ → Type 0
Shows fill bits v u = (n : ℕ) → n ≤ 128 → masked_bits n v u ≡ fitted n fill bits

shows_one : (n : ℕ) (fill : Bit) (bits : List Bit) (v u a b : ℕ) → a < 2 → b < 2 → n ≤ 128 → Shows fill bits v u
    → masked_bits n (v * 2 + a) (u * 2 + b) ≡ fitted n fill (bits ++ masked_bit a b ∷ [])
unfolding masked_bits
shows_one zero fill bits v u a b pa pb within shown = sym (fitted_none fill (bits ++ masked_bit a b ∷ []))
shows_one (suc n) fill bits v u a b pa pb within shown =
    let va : (v * 2 + a) / 2 ≡ v = omega arith in
    let ub : (u * 2 + b) / 2 ≡ u = omega arith in
    let la : (v * 2 + a) % 2 ≡ a = omega arith in
    let lb : (u * 2 + b) % 2 ≡ b = omega arith in
    rw (va, ub, la, lb) (ap (λ (bs : List Bit). bs ++ masked_bit a b ∷ []) (shown n (omega arith)) ∙ sym (fitted_more n fill bits (masked_bit a b)))

-- a digit more
pub shows_digit : (w : ℕ) (fill : Bit) (bits : List Bit) (v u d m : ℕ) → d < 2 ^ w → m < 2 ^ w → Shows fill bits v u
    → Shows fill (bits ++ masked_bits w d m) (v * 2 ^ w + d) (u * 2 ^ w + m)
unfolding masked_bits
shows_digit zero fill bits v u d m pd pm shown =
    let ev : v * 2 ^ 0 + d ≡ v = omega arith in
    let eu : u * 2 ^ 0 + m ≡ u = omega arith in
    rw (ev, eu, append-nil bits) shown
shows_digit (suc w) fill bits v u d m pd pm shown =
    let double = λ (x : ℕ). ap (λ (k : ℕ). x * k) (pow-suc 2 w) in
    let ev : v * 2 ^ suc w + d ≡ (v * 2 ^ w + d / 2) * 2 + d % 2 = omega (arith, double v) in
    let eu : u * 2 ^ suc w + m ≡ (u * 2 ^ w + m / 2) * 2 + m % 2 = omega (arith, double u) in
    let higher : Shows fill (bits ++ masked_bits w (d / 2) (m / 2)) (v * 2 ^ w + d / 2) (u * 2 ^ w + m / 2)
    = shows_digit w fill bits v u (d / 2) (m / 2) (omega (arith, pow-suc 2 w)) (omega (arith, pow-suc 2 w)) shown in
    rw (ev, eu, ← append_assoc bits (masked_bits w (d / 2) (m / 2)) (masked_bit (d % 2) (m % 2) ∷ []))
    (λ n within. shows_one n fill (bits ++ masked_bits w (d / 2) (m / 2)) (v * 2 ^ w + d / 2) (u * 2 ^ w + m / 2) (d % 2) (m % 2) (omega arith) (omega arith) within higher)

mod-add : (x d k : ℕ) → (x % k + d) % k ≡ (x + d) % k
mod-add x d k =
    let parts : x + d ≡ (x % k + d) + x / k * k = omega (arith, mod-add-div' x k) in
    sym (ap (λ (y : ℕ). y % k) parts ∙ add-mul-mod_self_right (x % k + d) (x / k) k)

-- in 128 bits
pub shows_wrapped : (fill : Bit) (bits : List Bit) (x y d m : ℕ) → Shows fill bits (x + d) (y + m)
    → Shows fill bits ((x % 2 ^ 128 + d) % 2 ^ 128) ((y % 2 ^ 128 + m) % 2 ^ 128)
shows_wrapped fill bits x y d m shown =
    rw (mod-add x d (2 ^ 128), mod-add y m (2 ^ 128)) (λ n within. masked_bits-mod_at 128 n (x + d) (y + m) within ∙ shown n within)

pub known_digit : (w c : ℕ) → is_unknown c ≡ false → masked_bits w (digit_value c % 2 ^ w) 0 ≡ digit_bits w c
known_digit w c known = rw known (ap (masked_bits w (digit_value c % 2 ^ w)) (sym (zero-mod (2 ^ w))) ∙ masked_bits-mod_at w w (digit_value c) 0 (omega arith) ∙ masked_bits-known w (digit_value c))

pub unknown_digit : (w c : ℕ) → is_unknown c ≡ true → masked_bits w 0 (2 ^ w - 1) ≡ digit_bits w c
unknown_digit w c unknown = rw unknown (masked_bits-unknown w w (omega arith))

-- no digit yet
pub shows_zeros : Shows Zero [] 0 0
shows_zeros n within =
    let all : n - 0 ≡ n = omega arith in
    let none : 0 - n ≡ 0 = omega arith in
    rw (all, none) (masked_bits-none n ∙ sym (append-nil (replicate n Zero)))

pub shows_unknown : Shows Unknown [] 0 (2 ^ 128 - 1)
shows_unknown n within =
    let all : n - 0 ≡ n = omega arith in
    let none : 0 - n ≡ 0 = omega arith in
    rw (all, none) (masked_bits-unknown n 128 within ∙ sym (append-nil (replicate n Unknown)))

-- a bit more from the left
bit_more : (size p v u : ℕ) → p < size
    → masked_bits (size - (p + 1)) (v / 2 ^ (p + 1)) (u / 2 ^ (p + 1)) ++ masked_bit (v / 2 ^ p % 2) (u / 2 ^ p % 2) ∷ [] ≡ masked_bits (size - p) (v / 2 ^ p) (u / 2 ^ p)
bit_more size p v u within =
    let count : size - p ≡ suc (size - (p + 1)) = omega arith in
    rw (count, masked_bits-suc, shr-shr v p 1, shr-shr u p 1) refl

pub bit_pushed : (size place v u : ℕ) (bits after : List Bit) (b : Bit) → 0 < place → place ≤ size
    → bits ≡ masked_bits (size - place) (v / 2 ^ place) (u / 2 ^ place) → b ≡ masked_bit (v / 2 ^ (place - 1) % 2) (u / 2 ^ (place - 1) % 2) → after ≡ bits ++ b ∷ []
    → after ≡ masked_bits (size - (place - 1)) (v / 2 ^ (place - 1)) (u / 2 ^ (place - 1))
bit_pushed size place v u bits after b some within so_far is pushed =
    let e : place ≡ (place - 1) + 1 = omega arith in
    let front = subst (λ (k : ℕ). bits ≡ masked_bits (size - k) (v / 2 ^ k) (u / 2 ^ k)) e so_far in
    pushed ∙ ap (λ (bs : List Bit). bs ++ b ∷ []) front
    ∙ ap (λ (x : Bit). masked_bits (size - ((place - 1) + 1)) (v / 2 ^ ((place - 1) + 1)) (u / 2 ^ ((place - 1) + 1)) ++ x ∷ []) is
    ∙ bit_more size (place - 1) v u (omega arith)

pub no_bits : (size v u : ℕ) → [] ≡ masked_bits (size - size) v u
unfolding masked_bits
no_bits size v u = rw sub_self refl

pub all_bits : (size place v u : ℕ) → place ≡ 0 → masked_bits (size - place) (v / 2 ^ place) (u / 2 ^ place) ≡ masked_bits size v u
all_bits size place v u is = let all : size - 0 ≡ size = omega arith in rw (is, all, div-one v, div-one u) refl

-- the bytes behind the first two of a rest
pub behind_two : (n : ℕ) (xs : List ℕ) → take (length (take (length xs - n) (drop n xs)) - 2) (drop 2 (take (length xs - n) (drop n xs))) ≡ drop (n + 2) xs
behind_two n xs =
    let whole : take (length xs - n) (drop n xs) ≡ drop n xs = rw (← length-drop n xs) (take-length (drop n xs)) in
    rw (whole, ← length-drop 2 (drop n xs), take-length (drop 2 (drop n xs))) (drop-drop 2 n xs)
