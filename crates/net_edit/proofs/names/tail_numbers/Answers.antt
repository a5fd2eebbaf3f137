use Rattle.std.proofs.Common.{◌∙◌, ◌+◌, ◌++◌, ◌∷◌, [], List, ℕ, length, sym, subst, ap, append_assoc, arith}
use Rattle.std.proofs.lemmas.List.{append-nil, length_push}
use Rattle.net_edit.specs.TailNames.{AreLeastFree}
use Rattle.net_edit.proofs.names.tail_numbers.Goals as goal

pub loop-place-preserved : goal.loop-place-preserved
loop-place-preserved c =
    let n = c.args.netlist.now in
    let number = c.in_ok-number.number in
    let old = c.loop-place.numbers.items in
    record {
      count = ap (λ (l : List ℕ). length l) c.in_ok-push.ensures.items ∙ length_push old number ∙ ap (λ (k : ℕ). k + 1) c.loop-place.invariant.count;
      more = λ rest free.
          subst (λ (l : List ℕ). AreLeastFree n 0 l) (sym (append_assoc old (number ∷ []) rest) ∙ ap (λ (l : List ℕ). l ++ rest) (sym c.in_ok-push.ensures.items))
          (c.loop-place.invariant.more (number ∷ rest) (c.in_ok-number.ensures.value n c.in_ok-taken.ensures.value, free));
    }

pub returns : goal.returns
returns c =
    let n = c.args.netlist.now in
    record {
      count = omega (arith, c.loop-place.invariant.count);
      free = subst (λ (l : List ℕ). AreLeastFree n 0 l) (append-nil c.loop-place.numbers.items) (c.loop-place.invariant.more [] tt);
    }
