use Rattle.std.proofs.Common.{◌<◌, length, subst, List}
use Rattle.token_forms.specs.Tokens.{Token}
use Rattle.stil_syntax.proofs.Stretches.{none_left}
use Rattle.stil_syntax.proofs.stretch.Stretch.statement.Goals as goal

pub returns-then-len-eq0-clause-value : goal.returns-then-len-eq0-clause-value
returns-then-len-eq0-clause-value c =
    none_left c.args.self.now c.statement_len-len.result (subst (λ (ts : List Token). 0 < length ts → 0 < c.statement_len-len.result) c.tokens.ensures.value c.statement_len-len.ensures.some) c.if-len-eq0.true
