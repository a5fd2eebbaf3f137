use Rattle.std.proofs.Common.{◌≡◌, ◌+◌, ◌-◌, ℕ, List, [], ◌∷◌, ◌++◌, ap, sym, ◌∙◌, arith, suc}
use Rattle.std.specs.List.{range_with_len}
use Rattle.chain_rules.proofs.Members.{range_more}
use Rattle.chain_rules.proofs.build.numbers.Goals as goal

pub loop-number-preserved : goal.loop-number-preserved
loop-number-preserved c =
    let n : suc (c.loop-number.number - c.args.from) ≡ c.loop-number.number + 1 - c.args.from = omega arith in
    let here : c.args.from + (c.loop-number.number - c.args.from) ≡ c.loop-number.number = omega arith in
    c.in_ok-push.ensures.items
    ∙ (ap (λ (ns : List ℕ). ns ++ c.loop-number.number ∷ []) c.loop-number.invariant
    ∙ (ap (λ (k : ℕ). range_with_len c.args.from (c.loop-number.number - c.args.from) ++ k ∷ []) (sym here)
    ∙ (sym (range_more c.args.from (c.loop-number.number - c.args.from)) ∙ ap (λ (k : ℕ). range_with_len c.args.from k) n)))
