use Rattle.std.proofs.Common.{ℕ, ◌-◌, List, ◌++◌, ap, ◌∙◌}
use Rattle.base_types.specs.Names.{plain_name}
use Rattle.token_forms.specs.Tokens.{Token}
use Rattle.stil_written.specs.Readings.{label_names}
use Rattle.scan_verify.proofs.alike.Headings.{names_more, behind_more, pushed}
use Rattle.scan_verify.proofs.alike.labels.put_labels.Goals as goal

pub loop-left-preserved : goal.loop-left-preserved
loop-left-preserved c =
    let tokens : List Token = c.loop-left.tokens in
    let rest : List Token = c.take_label.new.tokens in
    let n : ℕ = c.loop-left.left in
    record {
      names = c.loop-left.invariant.names
          ∙ ap (λ (q : List (List ℕ)). c.loop-left.names ++ q) (names_more n tokens rest (plain_name c.in-Some.name) c.loop-left-test.true c.in-Some.ensures.label c.in-Some.ensures.name)
          ∙ pushed c.loop-left.names c.push.new.self (label_names (n - 1) rest) (plain_name c.in-Some.name) c.in_ok-to_plain_name.field-0 c.in_ok-push.ensures.ok c.in_ok-to_plain_name.ensures.value;
      behind = c.loop-left.invariant.behind ∙ behind_more n tokens rest c.loop-left-test.true c.in-Some.ensures.label;
    }
