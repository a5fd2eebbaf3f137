use Rattle.std.proofs.Common.{◌≡◌, length, ap, arith}
use Rattle.stil_tokens.specs.StilTokens.{piece_at, stil_tokens}
use Rattle.token_forms.specs.Tokens.{Tokenized}
use Rattle.scan_verify.proofs.alike.Passing.{spans_few}
use Rattle.scan_verify.proofs.alike.staying.StayingTokens.of.Goals as goal

pub invariant_of-result : goal.invariant_of-result
invariant_of-result c =
    let few = spans_few piece_at 0 0 c.args.text.now in
    let same : length c.stil_lexer.result.spans ≡ length (stil_tokens c.args.text.now) = ap (λ (l : Tokenized). length l.spans) c.stil_lexer.ensures.value in
    let small = c.requires.small in
    omega (arith, few, same, small)
