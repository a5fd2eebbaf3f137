use Rattle.std.proofs.Common.{ℕ, ◌*◌, ◌/◌, ◌%◌, ◌+◌, ◌≤◌, ◌<◌, ◌^◌, ◌≡◌, arith}
use Rattle.std.proofs.lemmas.Nat.{mul-le}
use Rattle.chain_picture.proofs.sheet.letter_of.Goals as goal

-- a share of less than 2^64
share_small : (n m : ℕ) → n < 2 ^ 64 → 480 ≤ m → n / m ≤ 2 ^ 56
share_small n m small least =
    let q : ℕ = n / m in
    let some : 0 < m = omega arith in
    let parts : m * q + n % m ≡ n = omega arith in
    let more : 480 * q ≤ m * q = mul-le 480 q m q least (omega arith) in
    omega (arith, parts, more)

pub returns-clause-small : goal.returns-clause-small
returns-clause-small c = share_small c.args.extent c.least_height.result c.requires.small c.least_height.ensures.least
