use Rattle.std.proofs.Common.{◌≡◌, Some}
use Rattle.std.proofs.lemmas.Bool.{iff_false}
use Rattle.chain_rules.proofs.Outcomes.{says_no}
use Rattle.chain_rules.proofs.Belonging.{only_element_in}
use Rattle.chain_rules.proofs.belong.is_only_element.Goals.{then-other-chain, else-other-chain}
use Rattle.chain_rules.proofs.belong.is_only_element.Goals as goal

pub returns-then-not-is_only_among : goal.returns-then-not-is_only_among
returns-then-not-is_only_among c =
    let but : c.loop-other.other ≡ c.args.chain → c.if-other-chain.but ≡ Some c.args.i = λ e. elim c.if-other-chain.branch [
      | then-other-chain w ↦ w.but-is
      | else-other-chain w ↦ absurd (w.if-other-chain.false e)
    ] in
    record {
      value = says_no (λ only. iff_false c.is_only_among.ensures.value c.if-not-is_only_among.true
          (only_element_in c.args.lists.now c.args.chain c.args.i c.loop-other.other c.index-lists-chain.result c.as_slice.result.now c.index-lists-other.result c.as_slice-in-loop-other.result.now c.if-other-chain.but c.requires.element.chain c.loop-other-test.true c.index-lists-chain.is c.as_slice.ensures.value c.index-lists-other.is c.as_slice-in-loop-other.ensures.value but only));
    }
