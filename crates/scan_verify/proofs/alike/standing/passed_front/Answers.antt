use Rattle.std.proofs.Common.{Bool, true, sym, subst}
use Rattle.token_forms.specs.Tokens.{Token}
use Rattle.scan_verify.specs.declared.alike.standing.Standing.TheVariants.{Front, Name}
use Rattle.scan_verify.specs.Staying.{IsPassed}
use Rattle.scan_verify.proofs.alike.Passing.{front_word, front_string, front_other}
use Rattle.scan_verify.proofs.alike.standing.passed_front.Goals as goal

pub returns-then-is_word-clause-value : goal.returns-then-is_word-clause-value
returns-then-is_word-clause-value c =
    let t : Token = record { text = c.args.token.text.now; start = c.args.token.span.start; end = c.args.token.span.end } in
    subst (λ (s : Bool). IsPassed Front t (record { stays = true; behind = Name s })) (sym c.is_structures-structures.ensures.value) (front_word t (rw c.is_word.ensures.value at c.if-is_word.true))

pub returns-then-is_string-clause-value : goal.returns-then-is_string-clause-value
returns-then-is_string-clause-value c =
    let t : Token = record { text = c.args.token.text.now; start = c.args.token.span.start; end = c.args.token.span.end } in
    front_string t (rw c.is_word.ensures.value at c.if-is_word.false) (rw c.is_string.ensures.value at c.if-is_string.true)

pub returns-clause-value : goal.returns-clause-value
returns-clause-value c =
    let t : Token = record { text = c.args.token.text.now; start = c.args.token.span.start; end = c.args.token.span.end } in
    front_other t c.passed_other.result (rw c.is_word.ensures.value at c.if-is_word.false) (rw c.is_string.ensures.value at c.if-is_string.false) c.passed_other.ensures.value
