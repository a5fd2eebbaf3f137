use Rattle.std.proofs.Common.{◌≡◌, Some}
use Rattle.std.proofs.lemmas.Bool.{iff_false}
use Rattle.chain_rules.proofs.Outcomes.{says_no}
use Rattle.chain_rules.proofs.Belonging.{only_step_on}
use Rattle.chain_rules.proofs.belong.is_only_step.Goals.{then-other-path, else-other-path}
use Rattle.chain_rules.proofs.belong.is_only_step.Goals as goal

pub returns-then-not-is_only_on : goal.returns-then-not-is_only_on
returns-then-not-is_only_on c =
    let but : c.loop-other.other ≡ c.args.path → c.if-other-path.but ≡ Some c.args.place = λ e. elim c.if-other-path.branch [
      | then-other-path w ↦ w.but-is
      | else-other-path w ↦ absurd (w.if-other-path.false e)
    ] in
    record {
      value = says_no (λ only. iff_false c.is_only_on.ensures.value c.if-not-is_only_on.true
          (only_step_on c.args.index.now c.paths-paths.result.now c.args.path c.args.place c.loop-other.other c.index-paths-other.result c.steps.result.now c.if-other-path.but c.paths-paths.ensures.value c.loop-other-test.true c.index-paths-other.is c.steps.ensures.value but only));
    }
