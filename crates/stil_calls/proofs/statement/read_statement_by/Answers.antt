use Rattle.std.proofs.Common.{sym, ◌∙◌}
use Rattle.stil_calls.proofs.Answered.{all_tokens, is_first, denotes}
use Rattle.stil_calls.proofs.Placed.{is_placed}
use Rattle.stil_calls.proofs.Stated.{are_accepted, is_once, is_read_so}
use Rattle.stil_calls.proofs.statement.read_statement_by.Goals as goal

pub statement_of-requires-clause-read : goal.statement_of-requires-clause-read
statement_of-requires-clause-read c =
    is_read_so c.args.judging c.args.head.now c.args.line c.args.text.now c.in_ok-shape.shape (sym c.in_ok-found.ensures.value ∙ c.in-None.is)

pub statement_of-requires-clause-once : goal.statement_of-requires-clause-once
statement_of-requires-clause-once c =
    is_once c.args.judging c.args.head.now c.args.line c.args.text.now c.in_ok-shape.shape (sym c.in_ok-found.ensures.value ∙ c.in-None.is)

pub returns-in-Some-clause-first : goal.returns-in-Some-clause-first
returns-in-Some-clause-first c =
    is_first c.args.judging c.args.head.now c.args.line c.args.text.now c.in_ok-shape.shape c.of.result c.in_ok-shape.ensures.value
    (all_tokens c.args.text.now c.of.result c.in_ok-spans.spans.items c.deref.result.now c.of.ensures.value c.deref.ensures.value c.in_ok-spans.ensures.value)
    c.in_ok-found.field-0 c.in-Some.found c.at_line.result c.in_ok-found.ensures.value c.in-Some.is c.at_line.ensures.value

pub returns-clause-value : goal.returns-clause-value
returns-clause-value c =
    denotes c.args.judging c.args.head.now c.args.line c.args.text.now c.in_ok-shape.shape c.of.result c.in_ok-shape.ensures.value
    (all_tokens c.args.text.now c.of.result c.in_ok-spans.spans.items c.deref.result.now c.of.ensures.value c.deref.ensures.value c.in_ok-spans.ensures.value)
    c.args.pattern c.in_ok-found.field-0 c.in_ok-statement_of-in-None.field-0 c.in_ok-found.ensures.value c.in-None.is c.in_ok-statement_of-in-None.ensures.value

pub returns-clause-accepted : goal.returns-clause-accepted
returns-clause-accepted c =
    are_accepted c.args.judging c.args.head.now c.args.line c.args.text.now c.args.pattern c.in_ok-shape.shape c.in_ok-statement_of-in-None.field-0 (sym c.in_ok-found.ensures.value ∙ c.in-None.is) c.in_ok-statement_of-in-None.ensures.value

pub returns-clause-placed : goal.returns-clause-placed
returns-clause-placed c =
    is_placed c.args.head.now c.args.pattern c.args.line c.args.text.now c.in_ok-statement_of-in-None.field-0
    (denotes c.args.judging c.args.head.now c.args.line c.args.text.now c.in_ok-shape.shape c.of.result c.in_ok-shape.ensures.value
    (all_tokens c.args.text.now c.of.result c.in_ok-spans.spans.items c.deref.result.now c.of.ensures.value c.deref.ensures.value c.in_ok-spans.ensures.value)
    c.args.pattern c.in_ok-found.field-0 c.in_ok-statement_of-in-None.field-0 c.in_ok-found.ensures.value c.in-None.is c.in_ok-statement_of-in-None.ensures.value).is
