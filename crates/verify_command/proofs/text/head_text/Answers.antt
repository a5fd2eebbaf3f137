use Rattle.std.proofs.Common.{ℕ, ◌≤◌, Option, take, length, ap, sym, ◌∙◌, subst}
use Rattle.std.specs.Option.{unwrap_or}
use Rattle.stil_types.specs.declared.head.StilHead.{StilHead}
use Rattle.stil_reader.proofs.Heads.{head_within}
use Rattle.verify_command.proofs.text.head_text.Goals as goal

pub split_at-requires : goal.split_at-requires
split_at-requires c =
    subst (λ (head : StilHead). head.end ≤ length c.args.stil.now) (sym c.head.ensures.value) (head_within c.args.stil.now c.args.set.now.head c.requires.patterns.head_is)

pub returns-clause-value : goal.returns-clause-value
returns-clause-value c =
    let stil = c.args.stil.now in
    c.split_at.ensures.front ∙ ap (λ (head : StilHead). take head.end stil) c.head.ensures.value
    ∙ sym (ap (λ (end : Option ℕ). take (unwrap_or end (length stil)) stil) c.requires.patterns.head_is.ends)
