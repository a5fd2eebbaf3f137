-- The line of a place from that of an earlier one.
use Rattle.std.proofs.Common.{◌≡◌, ℕ, ◌+◌, ◌-◌, ◌≤◌, List, take, drop, ap, ◌∙◌, add_assoc, sym, cond, eqb, arith}
use Rattle.std.specs.List.{count_by}
use Rattle.std.proofs.Math.Seq.{take-add}
use Rattle.std.proofs.lemmas.List.Sums.{sum_by-append}
use Rattle.base_types.specs.Lines.{line_at}

pub line_at-from : (text : List ℕ) (from at : ℕ) → from ≤ at → line_at text from + count_by (λ b. eqb b 10) (take (at - from) (drop from text)) ≡ line_at text at
line_at-from text from at le =
    let e : from + (at - from) ≡ at = omega arith in
    add_assoc 1 _ _
    ∙ ap (λ (n : ℕ). 1 + n) (sym (sum_by-append (λ b. cond (eqb b 10) 1 0) (take from text) (take (at - from) (drop from text))))
    ∙ ap (λ (xs : List ℕ). 1 + count_by (λ b. eqb b 10) xs) (sym (take-add from (at - from) text))
    ∙ ap (line_at text) e
