use Rattle.std.proofs.Common.{◌≡◌, false, [], ◌∷◌, refl, sym, ap, ◌∙◌}
use Rattle.std.proofs.lemmas.Result.{err_from_is_err_and}
use Rattle.token_forms.proofs.Loops.{with_front, no_more, stops_first, first_many}
use Rattle.token_forms.proofs.Exact.{reads_shorter}
use Rattle.verilog_syntax.specs.Grammar.{operand, item}
use Rattle.verilog_syntax.proofs.Lawful.{item-lawful}
use Rattle.verilog_syntax.proofs.expression.items.Goals as goal

item_some : item.may_be_empty ≡ false
unfolding item operand
item_some = refl

pub returns-then-not-begins-clause-value : goal.returns-then-not-begins-clause-value
returns-then-not-begins-clause-value c = rw c.new.ensures.value (no_more item.starts item.reads c.args.parser.now.tokens (sym c.begins.ensures.value ∙ c.if-not-begins.true))

pub returns-in_err-first-clause-value : goal.returns-in_err-first-clause-value
returns-in_err-first-clause-value c =
    let p = err_from_is_err_and c.from_residual.result c.from_residual.ensures.1 in
    rw (p.1, p.2) (stops_first item.starts item.reads c.args.parser.now.tokens c.in_err-first.field-0.0 _ _ (sym c.begins.ensures.value ∙ c.if-not-begins.false) c.in_err-first.ensures.value)

pub returns-then-not-begins-2-clause-value : goal.returns-then-not-begins-2-clause-value
returns-then-not-begins-2-clause-value c =
    let one = first_many item.starts item.reads (reads_shorter item item-lawful item_some) c.args.parser.now.tokens c.read.new.parser.tokens c.in_ok-first.first (sym c.begins.ensures.value ∙ c.if-not-begins.false) c.in_ok-first.ensures.value in
    rw c.one.ensures.value (one ∙ ap (with_front (c.in_ok-first.first ∷ [])) (no_more item.starts item.reads c.read.new.parser.tokens (sym c.begins-2.ensures.value ∙ c.if-not-begins-2.true)))

pub returns-clause-value : goal.returns-clause-value
returns-clause-value c =
    let one = first_many item.starts item.reads (reads_shorter item item-lawful item_some) c.args.parser.now.tokens c.read.new.parser.tokens c.in_ok-first.first (sym c.begins.ensures.value ∙ c.if-not-begins.false) c.in_ok-first.ensures.value in
    rw one c.items_behind.ensures.value
