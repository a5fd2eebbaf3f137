use Rattle.std.proofs.Common.{◌≡◌, sym, ◌∙◌, ap, List, Some}
use Rattle.token_forms.specs.Tokens.{Token}
use Rattle.stil_syntax.specs.Names.{name_at}
use Rattle.stil_syntax.proofs.Stretches.{name-rest}
use Rattle.stil_syntax.proofs.stretch.Stretch.name.Goals as goal

pub returns-clause-value : goal.returns-clause-value
returns-clause-value c =
    let read : name_at c.args.self.now ≡ Some (c.in_ok-name.name, c.name_at.new.tokens) = rw (← c.tokens-tokens.ensures.value) c.in_ok-name.ensures.value in
    let left = name-rest c.args.self.now c.in_ok-name.name c.name_at.new.tokens read in
    read ∙ ap (λ (r : List Token). Some (c.in_ok-name.name, r)) (sym (c.behind.ensures.value ∙ rw (c.len.ensures.value, c.len-2.ensures.value) left))
