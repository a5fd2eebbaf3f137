use Rattle.std.proofs.Common.{◌≡◌, ◌+◌, ◌-◌, ℕ, List, length, eqb, take, drop, ap, ◌∙◌, arith, w8, sym}
use Rattle.std.proofs.lemmas.Simd.{bitmask_splat, ones-mask_l, length-chunk}
use Rattle.std.specs.Int.RustNames.{count_ones}
use Rattle.std.specs.List.{count_by}
use Rattle.lane_kernels.proofs.bytes.count_in.Goals as goal

pub returns : goal.returns
returns c =
    let xs : List ℕ = take 32 (drop c.args.at c.args.bytes.now) in
    let long : length xs ≡ 32 = length-chunk c.args.at 32 c.args.bytes.now (omega arith) in
    let n : c.args.at + 32 - c.args.at ≡ 32 = omega arith in
    ap count_ones (bitmask_splat w8 eqb xs 32 c.args.b long (omega arith)) ∙ ones-mask_l (λ x. eqb x c.args.b) xs ∙ ap (λ m. count_by (λ x. eqb x c.args.b) (take m (drop c.args.at c.args.bytes.now))) (sym n)
