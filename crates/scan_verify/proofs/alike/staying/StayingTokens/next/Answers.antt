use Rattle.std.proofs.Common.{List, ap, ◌∙◌}
use Rattle.base_types.specs.declared.span.Span.{Span}
use Rattle.token_forms.specs.Tokens.{tokens_of}
use Rattle.scan_verify.specs.Staying.{left}
use Rattle.scan_verify.proofs.alike.Passing.{left_none}
use Rattle.scan_verify.proofs.alike.staying.StayingTokens.next.Goals as goal

pub returns : goal.returns
returns c =
    let standing = c.loop-token.self-inside.standing in
    record {
      value = (
        c.loop-token.invariant.left ∙ ap (λ (l : List Span). left standing (tokens_of c.loop-token.self-inside.tokens.source l)) c.in_default.ensures.value.0 ∙ left_none standing,
        ap (λ (l : List Span). left standing (tokens_of c.next.new.self.source l)) c.in_default.ensures.value.1 ∙ left_none standing,
      );
    }
