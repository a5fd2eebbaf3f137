use Rattle.std.proofs.Common.{◌≡◌, ◌+◌, ◌-◌, eqb, take, drop, ap, ◌∙◌, arith}
use Rattle.std.specs.List.{count_by}
use Rattle.std.proofs.lemmas.List.Sums.{count_by-le-length}
use Rattle.std.proofs.lemmas.List.{length-take-le}
use Rattle.lane_kernels.proofs.Blocks.{count_block}
use Rattle.lane_kernels.proofs.bytes.count_byte.Goals as goal

pub loop-at-preserved : goal.loop-at-preserved
loop-at-preserved c =
    let at = c.loop-at.at in
    let b = c.args.b in
    let xs = c.args.bytes.now in
    let n : at + 32 - at ≡ 32 = omega arith in
    let e : c.count_in.result ≡ count_by (λ x. eqb x b) (take 32 (drop at xs)) = c.count_in.ensures ∙ ap (λ m. count_by (λ x. eqb x b) (take m (drop at xs))) n in
    let all : count_by (λ x. eqb x b) (take (at + 32) xs) ≡ count_by (λ x. eqb x b) (take at xs) + count_by (λ x. eqb x b) (take 32 (drop at xs)) = count_block (λ x. eqb x b) xs at 32 in
    record {
      within = omega arith;
      counted = omega arith;
      small = omega (arith, count_by-le-length (λ x. eqb x b) (take (at + 32) xs), length-take-le (at + 32) xs (omega arith));
    }
